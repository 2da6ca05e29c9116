-- The answer sheet of document 01, here called certificate: what it says, its bytes, how they are read, when it is accepted.
pub mod Certificate
pub mod Format
pub mod Kinds
pub mod Layout
pub mod Judge
pub mod Faults
pub mod Written
pub mod Accepted
pub mod Checked
pub mod ReadBack
pub mod Reading
