pub mod Accepted
pub mod Room
