mod Decimals
mod Words
mod Placing
