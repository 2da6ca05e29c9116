-- Laws and theorems of the crate `certify`.
pub mod Bodies
pub mod Parts
pub mod Whole
pub mod Buffer
pub mod Told
pub mod DemandTwo
