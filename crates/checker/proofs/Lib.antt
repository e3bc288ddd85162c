pub mod Marking
pub mod Going
pub mod Accepts
