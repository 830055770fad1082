pub mod Requests
pub mod Exactly
pub mod StoppedExactly
pub mod PreviewedTraces
pub mod StepBounds
