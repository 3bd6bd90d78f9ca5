-- The laws of what the numbers ask.
mod Asks
