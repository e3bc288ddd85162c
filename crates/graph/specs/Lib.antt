pub mod Graphs
pub mod Refusals
pub mod Rows
pub mod Searching
