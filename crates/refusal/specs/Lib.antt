-- Refusals.
pub mod Numbers
