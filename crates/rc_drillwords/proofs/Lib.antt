mod Numbers
mod Readings
