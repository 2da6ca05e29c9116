-- How many bytes came.
pub mod Input
