mod Counting
mod Gaining
mod Ordering
