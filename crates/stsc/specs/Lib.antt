pub mod Stsc
