pub mod Fit
pub mod Fitting
pub mod Passing
pub mod Dropping
pub mod Reopening
pub mod Regrown
