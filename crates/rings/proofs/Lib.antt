pub mod Laws
pub mod GapLaws
pub mod Cases
