pub mod Table
pub mod Classes
pub mod Keeping
pub mod Gathers
pub mod Typed
pub mod Told
