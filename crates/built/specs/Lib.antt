pub mod Written
pub mod Stored
pub mod Places
