pub mod Ctts
