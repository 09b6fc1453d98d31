pub mod Determined
pub mod Meant
pub mod Obeyed
pub mod Typed
