pub mod Moof
