pub mod Stbl
