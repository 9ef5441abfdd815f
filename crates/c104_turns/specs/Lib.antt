pub mod Calls
pub mod Logs
pub mod SeatGrowth
pub mod FirstSeats
pub mod Words
pub mod Working
pub mod Parts
pub mod Turns
