-- The rule
pub mod Rule
-- Worked values of it
pub mod Examples
-- The routine
pub mod Routine
-- How it is called
pub mod Calling
-- What is promised of it
pub mod Promise
-- The contract of the function
pub mod Interface
