-- Scripts: their lines and words, the calls that lines are, what is printed.
pub mod Words
pub mod Numbers
pub mod Command
pub mod Language
pub mod Parts
pub mod Reading
pub mod State
pub mod Transcript
pub mod Answer
pub mod Pieces
pub mod Run
