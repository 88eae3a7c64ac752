pub mod Values
pub mod Stacks
pub mod Performed
pub mod Code
