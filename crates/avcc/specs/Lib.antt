pub mod Avcc
