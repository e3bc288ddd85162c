pub mod Lines
pub mod Returned
pub mod Calls
pub mod Differing
