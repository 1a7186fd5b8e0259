pub mod Decoded
pub mod Attrs
pub mod Status
