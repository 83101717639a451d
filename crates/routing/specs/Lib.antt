pub mod Runs
pub mod Pairs
pub mod Gauges
pub mod SideBySide
