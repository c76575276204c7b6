pub mod Numbers
pub mod Parts
pub mod Answers
pub mod Records
pub mod Rounds
pub mod Outputs
pub mod Requests
pub mod Exported
