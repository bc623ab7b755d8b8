-- Rule 8.1: the bench packets and plans with a star, in its order.
pub mod Table
pub mod Holds
