pub mod Bytes
pub mod Encode
pub mod Decode
pub mod Reading
pub mod Writing
pub mod Layout
pub mod Part
