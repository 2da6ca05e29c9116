-- Laws of the tasks, the theorem on what is written, and the one on formulas that fall.
pub mod Sheet
pub mod Tasks
pub mod DemandTwo
pub mod Screening
