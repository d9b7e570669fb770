pub mod Axes
pub mod Steps
pub mod Chains
pub mod Laws
