pub mod Sums
pub mod Flags
