pub mod FileActs
mod Fitting
mod Items
mod LastNames
mod Moving
mod Neighbours
mod Places
mod Planned
mod Purging
mod Standing
