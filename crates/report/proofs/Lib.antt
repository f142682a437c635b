-- Laws: `Longest` on how long a report is, `Fits` on the report in the buffer, `Living` on the reports of all clocks,
-- `Outcomes` on the statements themselves.
pub mod Longest
pub mod Fits
pub mod Living
pub mod Outcomes
