mod Fitting
mod Found
mod Usual
