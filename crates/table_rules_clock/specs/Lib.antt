pub mod ClockTests
