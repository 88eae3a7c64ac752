pub mod Telling
pub mod Noting
pub mod Committing
pub mod Testing
pub mod Bounding
