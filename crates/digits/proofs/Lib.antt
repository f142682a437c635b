-- Laws: `Room` on a text that fits or not, `Places` on the number of digits, `Lengths` on how long a text is, `Back` on
-- reading the digits back, `Pieces` on texts one after the other, `Outcomes` on the statements themselves.
pub mod Room
pub mod Places
pub mod Lengths
pub mod Back
pub mod Pieces
pub mod Outs
pub mod Outcomes
