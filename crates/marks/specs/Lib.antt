pub mod Noting
pub mod Marking
