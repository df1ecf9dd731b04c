pub mod Trafs
