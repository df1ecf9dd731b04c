pub mod Rows
pub mod Judge
