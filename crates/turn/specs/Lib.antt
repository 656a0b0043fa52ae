-- The definitions that the contracts of `turn` cite. The program's whole run, turn after turn, stands in `turn_promises`.
pub mod Turn
