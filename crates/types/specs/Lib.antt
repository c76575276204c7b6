pub mod Answers
pub mod Base
pub mod Codes
pub mod Flows
pub mod States
pub mod Messages
pub mod Reasons
pub mod Outputs
