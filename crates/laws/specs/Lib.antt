pub mod Law
pub mod KeepsTree
pub mod RepeatsLaw
