-- Definitions of the naming of parts, in the order in which they build on each other.
pub mod Naming
pub mod Additions
pub mod Calls
pub mod Demand
pub mod Writing
