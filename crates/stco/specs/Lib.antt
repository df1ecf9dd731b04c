pub mod Stco
