mod Drills
mod Ends
mod Failures
mod ReadTexts
mod Streams
mod WrittenTexts
