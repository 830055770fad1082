pub mod DigitRules
pub mod LineRules
pub mod AnswerRules
