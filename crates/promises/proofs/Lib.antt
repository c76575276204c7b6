pub mod Alike
pub mod Useless
pub mod InOrder
