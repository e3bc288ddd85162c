mod Performs
pub mod Deeps
