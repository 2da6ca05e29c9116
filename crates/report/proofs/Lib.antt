-- Laws of the printed report, and the theorems.
pub mod Rows
pub mod Refusal
pub mod Printed
pub mod Fitting
pub mod Screened
pub mod Sheets
pub mod Cases
