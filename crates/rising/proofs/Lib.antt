pub mod Alone
pub mod Determined
