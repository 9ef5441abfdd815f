pub mod ReadBacks
