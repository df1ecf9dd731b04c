pub mod Esds
