pub mod Faults
pub mod Filling
pub mod Calls
pub mod Discounting
pub mod Running
