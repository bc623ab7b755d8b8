pub mod Small
pub mod Packs
pub mod Determined
