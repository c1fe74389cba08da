mod Runs
mod Told
mod Servers
mod Plains
mod Commands
mod Sending
