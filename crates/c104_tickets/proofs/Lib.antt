pub mod SeatTickets
mod Begins
pub mod Free
mod Logs
pub mod Parts
mod Steps
mod Words
