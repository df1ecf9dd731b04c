pub mod Mfhd
