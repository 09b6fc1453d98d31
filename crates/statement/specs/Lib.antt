pub mod Lending
pub mod Plain
