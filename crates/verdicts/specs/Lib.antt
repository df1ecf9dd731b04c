pub mod Findings
pub mod Sweep
pub mod Fragments
pub mod Audit
pub mod Meaning
