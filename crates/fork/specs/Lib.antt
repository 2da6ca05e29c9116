-- Definitions of the screen, in the order in which they build on each other. Fork, Algebra, Screen and Answer are what a reader must
-- believe; in Cells the code's parts speak to each other.
pub mod Fork
pub mod Algebra
pub mod Screen
pub mod Cells
pub mod Answer
