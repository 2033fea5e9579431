-- When the calls of a repair turn back.
pub mod Refusals
