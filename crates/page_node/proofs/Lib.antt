mod Worked
mod Served
