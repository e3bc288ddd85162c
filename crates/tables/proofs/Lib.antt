pub mod Cutting
pub mod Finding
pub mod Holding
pub mod Adding
pub mod Changing
pub mod Numbering
pub mod Matched
pub mod Behind
