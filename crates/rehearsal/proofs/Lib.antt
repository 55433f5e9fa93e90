pub mod Answers
pub mod Gives
pub mod Seats
pub mod Beginning
pub mod Counts
