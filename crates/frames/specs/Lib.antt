pub mod Answering
pub mod Stopped
