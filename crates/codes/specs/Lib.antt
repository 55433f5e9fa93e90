pub mod Code
pub mod Table
pub mod Reading
pub mod Rules
