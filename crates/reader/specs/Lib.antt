pub mod Answers
pub mod AnswerLaws
pub mod Ends
pub mod Left
