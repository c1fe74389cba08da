mod Cuts
mod Lines
mod Members
mod Numbers
mod Digests
mod KeyTexts
