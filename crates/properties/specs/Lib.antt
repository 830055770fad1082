-- What the laws "readback" and "preservation" owe each other
pub mod Bridge
-- Which calls are refused
pub mod Refusals
-- Property 2: a compiled image and its source
pub mod Compiled
pub mod CompiledBytes
