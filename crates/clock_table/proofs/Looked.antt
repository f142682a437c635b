-- What is read of the clock that `look` gives is what the definition reads off the table. Assumes nothing.
use Prim.Native.Nat.{ℕ, zero, suc}
use mathlib.Core.Path.{◌≡◌, refl, ap, ◌∙◌}
use mathlib.Core.List.{List, [], ◌∷◌}
use Rattle.judge.specs.Answer.{Answer, accepted, refused, on_accepted}
use Rattle.ids.specs.Lists.{read_at}
use Rattle.ids.specs.Tables.{on_entry, where_is, read_found}
use Rattle.clock.specs.declared.Clock.{Clock}
use Rattle.clock_table.specs.declared.Clocks.{Clocks}
use Rattle.times.specs.declared.time.ClockId.{ClockId}
use Rattle.clock_table.specs.ClockTables.{clock_table, look_of}

module _ {A B : Type 0} (h : A → B) (none : A) (g : Clock → A) where
  read_on : (cs : List Clock) (i : ℕ) → h (read_at none g cs i) ≡ read_at (h none) (λ c. h (g c)) cs i
  unfolding read_at
  read_on [] i = refl
  read_on (c ∷ cs) zero = refl
  read_on (c ∷ cs) (suc i) = read_on cs i

module _ {B : Type 0} (f : Clock → B) where
  -- what is read of the clock in an answer of `look`
  abbrev of_clock : Answer (ℕ × Clock) → Answer B
  of_clock = on_accepted (λ (p : ℕ × Clock). f p.1)

  of_entry : (cs : List Clock) (w : Answer ℕ) → of_clock (on_entry refused cs w (λ i c. accepted (i, c))) ≡ on_entry refused cs w (λ i c. accepted (f c))
  of_entry cs (refused n) = refl
  of_entry cs (accepted i) = read_on of_clock _ (λ c. accepted (i, c)) cs i

  pub looked : (t : Clocks) (id : ClockId) {a : Answer (ℕ × Clock)} → a ≡ look_of t id → of_clock a ≡ read_found clock_table t (where_is clock_table t id) f
  unfolding look_of
  looked t id e = ap of_clock e ∙ of_entry t.clocks (where_is clock_table t id)
