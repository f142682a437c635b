-- A time that is moved: what the code answers by its tests is what the definition answers. RULES, order. Assumes
-- nothing.
use mathlib.Core.Path.{◌≡◌, refl, sym, ap, ◌∙◌}
use mathlib.Core.Bool.{Bool, true, false, cond}
use Prim.Native.Nat.{ℕ, ◌+◌, ◌-◌, ◌^◌}
use lib.Dec.{ltb}
use Rattle.std.specs.Prelude.{Result}
use Rattle.std.specs.Result.{IsErr, IsErrAnd}
use Rattle.judge.specs.Answer.{accepted, refused, is_refused, told, number_of_refusal}
use Rattle.judge.specs.Judge.{of_shift, no_faults, first_fault, number_of, answered}
use Rattle.judge.specs.Numbers.{TICKS_FULL, BEFORE_ZERO}
use Rattle.judge.specs.declared.Faults.{Faults}
use Rattle.judge.specs.declared.Refusal.{Refusal}
use Rattle.judge.proofs.Judged.{never_ok, never_zero_number, handed_on, by_arguments, behind_them}
use Rattle.ticks.specs.WholeTicks.{more_of}

-- g are the faults that the code computed
module _ {A : Type 0} {g : Faults} (f : Faults) (full low : Bool) (v : A) (same : g ≡ f) where
  -- the refusal e of the arguments, that was passed up as r
  pub faulty : (e : Refusal) (r : Result A Refusal) → number_of_refusal e ≡ first_fault g → IsErr r × IsErrAnd r (λ y. y ≡ e) → told r ≡ answered (of_shift f full low) v
  faulty e r is h =
      let z : number_of_refusal e ≡ 0 → ⊥ = never_ok e in
      handed_on e r h ∙ rw (by_arguments false false full false low f is same z, never_zero_number e)

  module _ (is : 0 ≡ first_fault g) where
    behind : number_of (of_shift f full low) ≡ number_of (of_shift no_faults full low)
    behind = behind_them false false full false low f is same refl

    pub clear : full ≡ false → low ≡ false → accepted v ≡ answered (of_shift f full low) v
    unfolding number_of
    clear a b = rw behind (rw (a, b))

    pub filled : full ≡ true → refused TICKS_FULL ≡ answered (of_shift f full low) v
    unfolding number_of
    filled a = rw behind (rw a)

    pub below : full ≡ false → low ≡ true → refused BEFORE_ZERO ≡ answered (of_shift f full low) v
    unfolding number_of
    below a b = rw behind (rw (a, b))

-- ---- a count of ticks

-- the count that is told is the sum, and it has room
pub record Held (n k m : ℕ) : Type 0 where
  pub room : is_refused (more_of n k) ≡ false
  pub sum : m ≡ n + k

pub held : (n k m : ℕ) → accepted m ≡ more_of n k → Held n k m
held n k m e = go (ltb (2 ^ 64 - 1) (n + k)) refl e
  where
    go : (b : Bool) → ltb (2 ^ 64 - 1) (n + k) ≡ b → accepted m ≡ cond b (refused TICKS_FULL) (accepted (n + k)) → Held n k m
    go true t e = absurd (cc)
    go false t e = record { room = rw t; sum = cc }

-- a count that is refused is full, and has the one number
pub too_many_lem : (n k j : ℕ) → refused j ≡ more_of n k → (is_refused (more_of n k) ≡ true) × (j ≡ TICKS_FULL)
too_many_lem n k j e = (ap is_refused (sym e), go (ltb (2 ^ 64 - 1) (n + k)) e)
  where
    go : (b : Bool) → refused j ≡ cond b (refused TICKS_FULL) (accepted (n + k)) → j ≡ TICKS_FULL
    go true e = cc
    go false e = absurd (cc)
