pub mod Ring
pub mod View
