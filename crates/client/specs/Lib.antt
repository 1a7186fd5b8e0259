pub mod Given
pub mod Read
pub mod Records
