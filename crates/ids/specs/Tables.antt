-- What the calls on the two tables share, whatever a slot holds. A kind of table says how a table is taken apart and
-- put together, what an id is, and in which form a call answers. Assumes nothing.
use Rattle.std.specs.Prelude.{ℕ, List, set, Result}
use Rattle.judge.specs.Answer.{Answer, accepted, refused, is_refused, told, number_told}
use Rattle.judge.specs.Judge.{of_add, number_of, decided}
use Rattle.judge.specs.Numbers.{NEVER_ISSUED}
use Rattle.judge.specs.declared.Faults.{Faults}
use Rattle.judge.specs.declared.Refusal.{Refusal}
use Rattle.ids.specs.Keys.{Place, place, free_of, find_of, taken_at, left_at}
use Rattle.ids.specs.Lists.{read_at}
use Rattle.ids.specs.declared.Key.{Key}

-- a table T of entries E, its ids I; a call that changes it answers D
pub record Table (T E I D : Type 0) : Type 0 where
  pub keys_of : T → List Key
  pub entries_of : T → List E
  pub table_of : List Key → List E → T
  pub slot_in : I → ℕ
  pub generation_in : I → ℕ
  pub id_at : ℕ → ℕ → I
  -- 0 or the number of a refusal, beside the table
  pub done_as : ℕ → T → D

-- 0 or the number of a refusal, beside the table
pub record Done (T : Type 0) : Type 0 where
  pub refused : ℕ
  pub table : T

-- what an add answers, beside the table
pub record Added (T I : Type 0) : Type 0 where
  pub answer : Answer I
  pub table : T

-- what a call's result and the table that it leaves say
abbrev pub done : {A T : Type 0} → Result A Refusal → T → Done T
done r t = record { refused = number_told (told r); table = t }

abbrev pub added : {T I : Type 0} → Result I Refusal → T → Added T I
added r t = record { answer = told r; table = t }

-- what f makes of the entry in the slot that was found; `none` of the number, where none was. A slot past the last
-- entry was never given
abbrev pub on_entry : {E R : Type 0} → (ℕ → R) → List E → Answer ℕ → (ℕ → E → R) → R
on_entry none es (refused n) f = none n
on_entry none es (accepted i) f = read_at (none NEVER_ISSUED) (f i) es i

module _ {T E I D : Type 0} (k : Table T E I D) (t : T) where
  -- where the id lives, or the number that a call on it is given: RULES, living-id, gone and never-issued
  abbrev pub where_is : I → Answer ℕ
  where_is id = find_of (k.keys_of t) (k.slot_in id) (k.generation_in id)

  -- a refused call leaves the table as it was: RULES, refusal
  abbrev pub refused_call : ℕ → D
  refused_call n = k.done_as n t

  -- a call on the entry that was found
  abbrev pub on_found : Answer ℕ → (ℕ → E → D) → D
  on_found w f = on_entry refused_call (k.entries_of t) w f

  -- the entry in slot i anew, and nothing else
  abbrev pub changed : ℕ → E → D
  changed i e = k.done_as 0 (k.table_of (k.keys_of t) (set (k.entries_of t) i e))

  -- slot i free, at the generation g, and nothing else
  abbrev pub freed : ℕ → ℕ → D
  freed i g = k.done_as 0 (k.table_of (set (k.keys_of t) i (left_at g)) (k.entries_of t))

  -- what is read of the entry that was found
  abbrev pub read_found : {B : Type 0} → Answer ℕ → (E → B) → Answer B
  read_found w f = on_entry refused (k.entries_of t) w (λ i e. accepted (f e))

  -- a refused add leaves the table as it was: RULES, refusal
  abbrev pub refused_add : ℕ → Added T I
  refused_add n = record { answer = refused n; table = t }

  -- an entry in the place that was found
  abbrev pub placed_in : E → Answer Place → Added T I
  placed_in e (refused n) = refused_add n
  placed_in e (accepted (place i g)) = record {
    answer = accepted (k.id_at i g);
    table = k.table_of (set (k.keys_of t) i (taken_at g)) (set (k.entries_of t) i e);
  }

  -- an add with these faults, and what the search for a slot answered: RULES, order
  abbrev pub added_in : Faults → E → Answer Place → Added T I
  added_in f e w = decided (number_of (of_add f (is_refused w))) (placed_in e w) refused_add

  -- an entry in the lowest free slot: RULES, lowest-free-slot
  abbrev pub added_to : Faults → E → Added T I
  added_to f e = added_in f e (free_of 0 (k.keys_of t))
