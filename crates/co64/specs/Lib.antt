pub mod Co64
