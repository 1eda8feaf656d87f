mod Claimed
mod Counted
mod Solving
mod Told
