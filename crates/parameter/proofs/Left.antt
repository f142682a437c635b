-- What a set and an update say that pass a refusal up, and what they leave: the parameter as it was. RULES, refusal.
-- Assumes nothing.
use mathlib.Core.Path.{◌≡◌, sym, ap, ◌∙◌}
use mathlib.Core.Bool.{Bool, false}
use Rattle.std.specs.Prelude.{Result, Ok}
use Rattle.std.specs.Result.{IsErr, IsErrAnd}
use Rattle.std.proofs.lemmas.Result.{err_from_is_err_and}
use Rattle.judge.specs.Answer.{number_of_refusal}
use Rattle.judge.specs.Judge.{first_fault, decided}
use Rattle.judge.specs.declared.Faults.{Faults}
use Rattle.judge.specs.declared.Refusal.{Refusal}
use Rattle.judge.proofs.Judged.{never_zero_number}
use Rattle.parameter.specs.Parameters.{Set, Updated, Advanced, set_told, advanced_told, updated, advanced}
use Rattle.parameter.specs.declared.Parameter.{Parameter}

-- the code computed its faults as g
module _ {T : Type 0} {g : Faults} (f : Faults) (same : g ≡ f) (p q : Parameter T) where
  abbrev sets : Set T
  sets = decided (first_fault f) (record { refused = 0; parameter = q }) (λ n. record { refused = n; parameter = p })

  -- the refusal e left as r
  pub set_refused : (e : Refusal) (r : Result Unit Refusal) → number_of_refusal e ≡ first_fault g → IsErr r × IsErrAnd r (λ y. y ≡ e) → set_told r p ≡ sets
  set_refused e r is h =
      let s = err_from_is_err_and r h.1 in
      rw (s.1, s.2, sym (is ∙ ap (λ (i : Faults). first_fault i) same), never_zero_number e)

  pub set_done : {x : Parameter T} → 0 ≡ first_fault g → x ≡ q → set_told (Ok tt) x ≡ sets
  set_done is h = rw (h, sym (is ∙ ap (λ (i : Faults). first_fault i) same))

module _ {T : Type 0} {g : Faults} (f : Faults) (same : g ≡ f) (p : Parameter T) (u : Updated T) where
  abbrev updates : Advanced T
  updates = decided (first_fault f) (advanced u) (λ n. record { refused = n; finished = false; parameter = p })

  pub update_refused : (e : Refusal) (r : Result Bool Refusal) → number_of_refusal e ≡ first_fault g → IsErr r × IsErrAnd r (λ y. y ≡ e) → advanced_told r p ≡ updates
  update_refused e r is h =
      let s = err_from_is_err_and r h.1 in
      rw (s.1, s.2, sym (is ∙ ap (λ (i : Faults). first_fault i) same), never_zero_number e)

  pub update_done : (b : Bool) (x : Parameter T) → 0 ≡ first_fault g → updated b x ≡ u → advanced_told (Ok b) x ≡ updates
  update_done b x is h = ap (λ (v : Updated T). advanced v) h ∙ rw (sym (is ∙ ap (λ (i : Faults). first_fault i) same))
