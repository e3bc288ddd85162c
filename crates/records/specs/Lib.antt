pub mod KindWords
pub mod Reads
pub mod Writes
pub mod Cursor
pub mod Ending
pub mod Chains
pub mod Ids
pub mod Equality
