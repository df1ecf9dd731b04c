pub mod Tkhd
