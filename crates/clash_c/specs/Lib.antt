pub mod Replies
pub mod Histories
pub mod Figures
