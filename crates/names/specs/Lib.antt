pub mod Classes
pub mod Names
pub mod Lists
pub mod Listed
