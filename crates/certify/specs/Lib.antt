-- Certificates of sessions: what is written of a session, and what is claimed of it.
pub mod Held
pub mod Writing
pub mod Written
pub mod Told
pub mod Demand
