-- The laws of the screen, and its theorem.
pub mod Operations
pub mod Valuation
pub mod Digits
pub mod Filling
pub mod Values
pub mod Rounds
pub mod Texts
pub mod Dependence
pub mod Right
