-- Trees up to places
pub mod Like
-- What is read fits, and what fits is read back from its words
pub mod Parses
pub mod Spelling
pub mod BackBody
pub mod Back
-- Faults, and trees that have none in form 1
pub mod Clean
pub mod Good
pub mod Accepted
pub mod LikeFaults
pub mod LikeCompiled
-- A source without a fault is compiled to such a tree
pub mod Source
pub mod Renaming
pub mod Marks
pub mod Levels
pub mod Setting
pub mod Writes
pub mod Branches
pub mod Passing
pub mod Survive
pub mod Layout
pub mod Whole
-- What follows for the compiled words
pub mod Conclusion
pub mod Ready
pub mod Output
pub mod Cells
