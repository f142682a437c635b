-- The parts of a finite double that its remainder is made of, read from its 64 bits, as IEEE 754 lays them out.
-- Assumes nothing.
use Rattle.std.specs.Prelude.{ℕ, ◌+◌, ◌-◌, ◌*◌, ◌/◌, ◌%◌, ◌^◌, cond, ltb, eqb}

-- the digits, the leading one with them: RULES, bits
abbrev pub digits_in : ℕ → ℕ
digits_in b = cond (eqb (b / 2 ^ 52 % 2 ^ 11) 0) (b % 2 ^ 52) (2 ^ 52 + b % 2 ^ 52)

-- how many of the smallest doubles, as a power of two, the last digit is worth: RULES, bits
abbrev pub place_in : ℕ → ℕ
place_in b = b / 2 ^ 52 % 2 ^ 11 - 1

-- the bits of 2 ^ p of the smallest doubles, with the sign bit s: RULES, bits
abbrev pub power_bits : ℕ → ℕ → ℕ
power_bits s p = s * 2 ^ 63 + cond (ltb p 52) (2 ^ p) ((p - 51) * 2 ^ 52)
