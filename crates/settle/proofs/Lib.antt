-- Laws of the input.
pub mod Input
