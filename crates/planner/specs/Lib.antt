pub mod Given
pub mod Positions
pub mod Square
pub mod Rows
pub mod Members
pub mod Bounds
pub mod Written
pub mod Settled
