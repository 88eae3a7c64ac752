pub mod Follows
pub mod Leaves
pub mod Enters
pub mod Lowest
