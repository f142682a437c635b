-- What is made of the entry that a lookup found: a function of what was made may be taken inside. And what a call on an
-- entry and an add answer, by what the lookup and the search told. Assumes nothing.
use Prim.Native.Nat.{ℕ, zero, suc, ◌<◌}
use mathlib.Core.Path.{◌≡◌, refl, sym}
use mathlib.Core.Bool.{true, false}
use mathlib.Core.List.{List, [], ◌∷◌}
use lib.ListN.{length, get_or, set}
use Rattle.judge.specs.Judge.{first_fault, number_of}
use Rattle.judge.specs.Answer.{Answer, accepted, refused, is_refused, number_of_refusal}
use Rattle.judge.specs.Numbers.{NEVER_ISSUED, NO_ROOM}
use Rattle.judge.specs.declared.Faults.{Faults}
use Rattle.judge.specs.declared.Refusal.{Refusal}
use Rattle.judge.proofs.Judged.{never_ok, never_zero_number, by_arguments, behind_them}
use Rattle.ids.specs.Lists.{read_at}
use Rattle.ids.specs.Keys.{room_at, no_room, free_of, taken_at}
use Rattle.ids.specs.Tables.{Table, on_entry, refused_add, added_to}
use Rattle.ids.proofs.Places.{read_at_lem}

read_map : {A R S : Type 0} (h : R → S) (none : R) (f : A → R) (l : List A) (i : ℕ) → h (read_at none f l i) ≡ read_at (h none) (λ x. h (f x)) l i
unfolding read_at
read_map h none f [] i = refl
read_map h none f (x ∷ l) zero = refl
read_map h none f (x ∷ l) (suc i) = read_map h none f l i

pub entry_map : {E R S : Type 0} (h : R → S) (none : ℕ → R) (es : List E) (w : Answer ℕ) (f : ℕ → E → R) → h (on_entry none es w f) ≡ on_entry (λ n. h (none n)) es w (λ i e. h (f i e))
entry_map h none es (refused n) f = refl
entry_map h none es (accepted i) f = read_map h (none NEVER_ISSUED) (f i) es i

-- ---- what a call answers, by what its lookup told

module _ {E R : Type 0} (none : ℕ → R) (es : List E) (w : Answer ℕ) (f : ℕ → E → R) where
  -- no entry was found
  pub entry_missing : (n : ℕ) → refused n ≡ w → none n ≡ on_entry none es w f
  entry_missing n e = rw (← e)

  -- the entry in slot i was found
  pub entry_found : (i : ℕ) (d : E) → accepted i ≡ w → i < length es → f i (get_or es i d) ≡ on_entry none es w f
  entry_found i d e h = rw (← e) (sym (read_at_lem (none NEVER_ISSUED) (f i) es i d h))

-- ---- what an add answers: by what is wrong with its arguments, and by what the search for a slot told

module _ {T E I D : Type 0} (k : Table T E I D) (t : T) (f : Faults) (x : E) where
  -- by the arguments alone
  pub add_refused : (r : Refusal) → number_of_refusal r ≡ first_fault f → refused_add k t (number_of_refusal r) ≡ added_to k t f x
  add_refused r e =
      let n : number_of_refusal r ≡ 0 → ⊥ = never_ok r in
      rw (by_arguments (is_refused (free_of 0 (k.keys_of t))) false false false false f e refl n, never_zero_number r)

  module _ (e : 0 ≡ first_fault f) where
    -- none of the slots is free
    pub add_full : no_room ≡ free_of 0 (k.keys_of t) → refused_add k t NO_ROOM ≡ added_to k t f x
    unfolding number_of
    add_full full = rw (← full, behind_them true false false false false f e refl refl)

    -- slot i is, and g is to be its generation
    pub add_placed :
        (i g : ℕ) → room_at i g ≡ free_of 0 (k.keys_of t)
        → record { answer = accepted (k.id_at i g); table = k.table_of (set (k.keys_of t) i (taken_at g)) (set (k.entries_of t) i x) } ≡ added_to k t f x
    unfolding number_of
    add_placed i g room = rw (← room, behind_them false false false false false f e refl refl)
