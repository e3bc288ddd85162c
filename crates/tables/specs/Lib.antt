pub mod Living
pub mod Walking
pub mod Held
pub mod Inserting
pub mod Counts
pub mod Matching
pub mod Ready
pub mod Faults
