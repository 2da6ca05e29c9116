-- Definitions of the crate `sat`. The contracts of its public functions cite Table and Answer; the others are the terms in which its
-- parts speak to each other.
pub mod Table
pub mod Rows
pub mod Answer
pub mod Knowledge
pub mod Descent
pub mod Learning
