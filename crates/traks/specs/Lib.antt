pub mod Traks
