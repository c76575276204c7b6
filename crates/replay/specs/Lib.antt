pub mod Missing
pub mod Ordinary
pub mod Run
pub mod Sample
pub mod Stepped
