pub mod Grammar
pub mod Texts
pub mod Readings
pub mod LongForm
pub mod Scanner
pub mod Verdicts
