-- Laws of the crate `atoms`.
pub mod Truth
pub mod Bits
pub mod Members
pub mod Machine
pub mod Bytes
