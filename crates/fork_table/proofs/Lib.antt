-- Laws of the table of implications.
pub mod Implications
pub mod Texts
