pub mod Cutting
pub mod Progress
pub mod Forming
