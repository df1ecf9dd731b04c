pub mod Avc1
