pub mod Parts
pub mod Ranges
pub mod Lineages
pub mod Firsts
pub mod Own
pub mod Sends
pub mod Sources
