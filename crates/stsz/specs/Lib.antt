pub mod Stsz
