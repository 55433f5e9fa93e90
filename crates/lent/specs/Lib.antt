pub mod Lengths
pub mod Loan
