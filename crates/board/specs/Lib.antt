pub mod NewBoard
