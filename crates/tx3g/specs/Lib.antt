pub mod Tx3g
