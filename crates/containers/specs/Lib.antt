pub mod Edts
pub mod Dinf
pub mod Mvex
