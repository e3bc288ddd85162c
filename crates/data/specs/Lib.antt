pub mod Events
pub mod Filling
pub mod Keeping
