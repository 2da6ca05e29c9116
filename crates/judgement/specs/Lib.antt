-- Definitions of what is printed of a judged certificate.
pub mod Report
