pub mod Trun
