-- Laws of scripts: lines are cut and read, calls are made and answered, and what is printed is the transcript.
pub mod Values
pub mod Hexadecimal
pub mod Splitting
pub mod Verbs
pub mod Refusals
mod Silence
pub mod Calling
pub mod Goals
pub mod Language
pub mod Digits
pub mod SheetLines
pub mod Blank
pub mod Gathering
pub mod Calls
pub mod Performing
pub mod Cutting
pub mod PageLines
pub mod Standing
pub mod Fitting
pub mod Transcript
pub mod Leading
pub mod Finding
