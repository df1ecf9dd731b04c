pub mod Trex
