pub mod Trak
