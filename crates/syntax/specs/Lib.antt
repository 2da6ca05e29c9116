-- Definitions of the reader of formula text, in the order in which they build on each other. Class, Grammar, Nodes, Letters, Refusal, Parts
-- and Answer are what a reader must believe; Reading and Judge are proved to agree with them; Sharing has what change 4 says of names and
-- Sentences what is said of given texts, both proved; in Code, Scan, Table and Descent the code's parts speak to each other.
pub mod Class
pub mod Grammar
pub mod Reading
pub mod Nodes
pub mod Sharing
pub mod Letters
pub mod Refusal
pub mod Code
pub mod Scan
pub mod Parts
pub mod Table
pub mod Descent
pub mod Judge
pub mod Sentences
pub mod Answer
