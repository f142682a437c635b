-- `Turns` on one turn of the loop over records, `OneByOne` on the same calls made one by one and on a recorder, `Rows`
-- in digits, `Outcomes` on the statement itself.
pub mod Turns
pub mod OneByOne
pub mod Rows
pub mod Outcomes
