pub mod Places
pub mod Verdicts
pub mod Treating
