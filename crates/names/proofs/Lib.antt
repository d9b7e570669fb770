pub mod Cuts
pub mod Laws
pub mod Search
pub mod Numbers
