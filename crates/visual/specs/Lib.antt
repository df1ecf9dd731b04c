pub mod Visual
