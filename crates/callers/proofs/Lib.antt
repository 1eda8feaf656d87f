mod Worked
mod Rooms
