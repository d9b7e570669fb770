pub mod Records
pub mod Feeds
