pub mod OneClock
