pub mod Exact
pub mod Probing
pub mod Progress
pub mod Once
