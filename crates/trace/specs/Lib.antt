pub mod Format
pub mod Places
pub mod Ascii
pub mod Text
pub mod Cases
pub mod Claims
