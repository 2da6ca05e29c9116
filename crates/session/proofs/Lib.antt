-- Laws of the answers held.
mod Holding
