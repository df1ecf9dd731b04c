pub mod Tfhd
