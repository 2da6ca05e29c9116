-- What each task of the exported function gives, demand 2 for the sessions of texts, and what the screen says of the verdict.
pub mod Tasks
pub mod Demand
pub mod Screening
