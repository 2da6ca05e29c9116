-- The definitions of the documents, in the order in which they build on each other.
pub mod Lists
pub mod First
pub mod Clause
pub mod Range
pub mod Question
pub mod Search
pub mod Formula
pub mod Kripke
pub mod Claim
pub mod Marks
pub mod Page
pub mod Authors
pub mod Book
pub mod Work
pub mod Demand
