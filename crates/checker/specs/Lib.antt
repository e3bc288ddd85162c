pub mod Expecting
pub mod Faults
pub mod Walking
pub mod Accepting
