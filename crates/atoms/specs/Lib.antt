-- Definitions of the crate `atoms`: sets of atoms as numbers, and what the code's values stand for.
pub mod Sets
pub mod Words
pub mod Bytes
