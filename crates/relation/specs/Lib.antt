pub mod Code
pub mod Made
pub mod Makes
