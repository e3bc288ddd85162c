pub mod Quiet
pub mod Numbers
