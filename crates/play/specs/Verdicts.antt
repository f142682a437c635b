-- 02, the replay of a shift: what a replay answers. RULES, replay. Assumes nothing.
use Rattle.std.specs.Prelude.{ℕ}
use Rattle.play.specs.declared.Place.{Place}

-- that every record was accepted, or a refusal's number and where it is
pub data Verdict : Type 0 where
  Accepted : Verdict
  Refused : ℕ → Place → Verdict
