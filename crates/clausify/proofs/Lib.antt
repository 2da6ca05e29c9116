-- Laws of the naming of parts, and the theorems.
pub mod Additions
pub mod Compounds
pub mod Atoms
pub mod Ranges
pub mod Sizes
pub mod TextBook
pub mod Clauses
pub mod Part
pub mod Names
pub mod Extension
pub mod DemandTwo
pub mod DemandThree
pub mod Passes
pub mod Written
pub mod Loops
pub mod Texts
