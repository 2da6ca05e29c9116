-- Definitions of the printed report, in the order in which they build on each other.
pub mod Report
pub mod Screening
pub mod Printed
pub mod Sheets
pub mod Cases
