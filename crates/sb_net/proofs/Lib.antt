mod Folds
mod Hits
mod MaskLaws
mod Newest
mod Tables
mod Tuples
