mod Commands
mod Lines
mod Lists
mod Playing
mod Ending
mod Whole
mod Faults
mod Alone
