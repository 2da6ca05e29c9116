-- Laws of texts that are written piece by piece.
pub mod Appending
pub mod Decimal
pub mod Hexadecimal
pub mod Lengths
