pub mod Written
mod Moves
