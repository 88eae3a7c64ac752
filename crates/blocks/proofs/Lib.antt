pub mod Arithmetic
pub mod Stacked
pub mod Instructing
pub mod Performing
