-- An `Out` is a lent buffer and a place in it: what it is once pieces of text have been put. Assumes nothing.
use Rattle.std.specs.Prelude.{ℕ, List}
use Rattle.digits.specs.Puts.{Put, place, put_all}
use Rattle.digits.specs.declared.Out.{Out}

-- the same loan, its buffer with these bytes, and this place
abbrev pub holding : Out → Put → Out
holding o p = record { bytes = record o.bytes { now = p.out }; at = p.at }

abbrev pub placed : Out → Put
placed o = place o.bytes.now o.at

abbrev pub put_in : Out → List (List ℕ) → Out
put_in o texts = holding o (put_all (placed o) texts)
