pub mod Moofs
pub mod Walk
