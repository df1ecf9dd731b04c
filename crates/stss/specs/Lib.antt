pub mod Stss
