pub mod Yields
pub mod Scans
pub mod Onward
pub mod Reports
pub mod Judging
pub mod Reading
pub mod Writing
