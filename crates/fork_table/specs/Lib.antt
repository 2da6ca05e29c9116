-- The table of implications as text.
pub mod Table
