-- Definitions of the crate `prover`. The contracts of its public functions say by State what a session holds, by InRange when it
-- is in range, by Work what its authors have done, by Told and PerVerdict what a call tells in numbers, by Calls what each call answers
-- and holds next, and by Page what a page does; Demand is the statement of demand 3, and Counts that of the authors' counts. In Paging
-- the parts of a page speak to each other, in Working, Search and Settling those of a question.
pub mod State
pub mod Told
pub mod PerVerdict
pub mod InRange
pub mod Work
pub mod Calls
pub mod Page
pub mod Paging
pub mod Working
pub mod Search
pub mod Settling
pub mod Demand
pub mod Counts
