pub mod Header
pub mod Full
