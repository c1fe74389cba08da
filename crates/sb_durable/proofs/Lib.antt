pub mod Replaying
pub mod Parts
mod Lives
pub mod Steps
pub mod Crashes
pub mod Records
pub mod Calls
mod Contents
mod Crash
mod Reading
mod Repair
mod Walk
mod Places
mod Batches
mod Pieces
mod Shortened
pub mod Sending
mod Torn
mod Extending
mod SegmentContents
mod SegmentReading
mod Chain
mod SegmentCrash
mod Finding
mod Walking
mod Heads
mod SegmentShortened
mod Opened
mod Mending
mod SegmentPlaces
mod Begun
mod CutFiles
mod Rows
mod RowReaders
mod RowReplays
mod Volumes
mod RowJournals
mod BatchJournals
mod VolumeLives
mod Journals
mod Needs
mod NotedTrails
