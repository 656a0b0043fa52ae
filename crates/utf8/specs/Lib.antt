-- The definitions that the contracts of `utf8` cite.
pub mod Rfc3629
pub mod Chars
pub mod Octets
pub mod Space
