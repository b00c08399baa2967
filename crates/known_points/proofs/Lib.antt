-- What the program's own proofs share.
mod Loads
