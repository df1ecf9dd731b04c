pub mod Stsd
