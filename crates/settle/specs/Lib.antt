-- What the program takes as the formula.
pub mod Input
