pub mod Rounding
pub mod Scaling
pub mod Levels
pub mod Charge
pub mod Active
pub mod Trying
pub mod Deciding
pub mod Shown
