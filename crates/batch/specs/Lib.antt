-- The definitions that the contracts of `batch` cite. Those that only its promises cite stand in `batch_promises`.
pub mod Verdicts
pub mod Walk
pub mod Inner
