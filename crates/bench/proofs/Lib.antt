-- Laws of lists of calls.
pub mod Calls
