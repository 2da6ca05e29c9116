pub mod Exported
pub mod Calls
