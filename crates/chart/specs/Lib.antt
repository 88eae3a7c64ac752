pub mod Places
pub mod Read
