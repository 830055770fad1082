pub mod Log
pub mod Renaming
pub mod Painting
pub mod Answers
