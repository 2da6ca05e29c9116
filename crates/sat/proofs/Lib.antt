-- Laws of the crate `sat`, on numbers.
pub mod Table
pub mod Clause
pub mod Knowledge
pub mod Descent
pub mod Question
pub mod Resolution
pub mod Rows
