-- Document 01, "Names that cannot be shared": slots, generations, and which ids live; 02, dead or never ours: what any
-- other id is to a table. A table's keys are a list, a key for each slot. Assumes nothing.
use Rattle.std.specs.Prelude.{ℕ, zero, suc, ◌+◌, ◌≤◌, Bool, true, false, not, ◌&&◌, cond, ◌≡◌, ◌⊎◌, List, [], ◌∷◌, set, ltb, eqb, leb, Option, Some, None}
use Rattle.judge.specs.Answer.{Answer, accepted, refused}
use Rattle.judge.specs.Judge.{decided}
use Rattle.judge.specs.Numbers.{«GONE», NO_ROOM, NEVER_ISSUED}
use Rattle.ids.specs.Lists.{read_at}
use Rattle.ids.specs.declared.Key.{Key}
use Rattle.ids.specs.declared.Room.{Room}

-- neither in use nor used up: RULES, retired-slot
abbrev pub is_free : Key → Bool
is_free k = not k.used && ltb k.generation 4294967295

-- a slot, and the generation to give it
pub data Place : Type 0 where
  place : ℕ → ℕ → Place

abbrev pub room_at : ℕ → ℕ → Answer Place
room_at i g = accepted (place i g)

-- there is none: RULES, no-room
abbrev pub no_room : Answer Place
no_room = refused NO_ROOM

abbrev pub told_room : Option Room → Answer Place
told_room (Some r) = room_at r.slot r.generation
told_room None = no_room

-- the slot that an add takes and the generation that it gives, of keys whose first has the number i:
-- RULES, lowest-free-slot and generation
unfoldable pub free_of : ℕ → List Key → Answer Place
free_of i [] = no_room
free_of i (k ∷ ks) = cond (is_free k) (room_at i (k.generation + 1)) (free_of (i + 1) ks)

-- the slot is in use, at the id's own generation: RULES, living-id
unfoldable pub lives_in : List Key → ℕ → ℕ → Bool
lives_in [] i g = false
lives_in (k ∷ ks) zero g = k.used && eqb k.generation g
lives_in (k ∷ ks) (suc i) g = lives_in ks i g

-- the last generation that a slot gave, 0 where it gave none and past the table's end: RULES, slots
abbrev pub generation_at : List Key → ℕ → ℕ
generation_at = read_at 0 (λ k. k.generation)

-- a slot that stands at `last` has given the generations from 1 to it: RULES, generation
abbrev pub was_given : ℕ → ℕ → Bool
was_given last g = leb 1 g && leb g last

-- what an id is to a table: RULES, living-id, gone and never-issued
pub data Standing : Type 0 where
  living : Standing
  gone : Standing
  never_issued : Standing

-- of an id that does not live
abbrev pub missing_of : ℕ → ℕ → Standing
missing_of last g = cond (was_given last g) gone never_issued

unfoldable pub standing_of : List Key → ℕ → ℕ → Standing
standing_of ks i g = cond (lives_in ks i g) living (missing_of (generation_at ks i) g)

-- the number that a call on the id is given, 0 where it lives: RULES, gone, never-issued and ok
abbrev pub standing_number : Standing → ℕ
standing_number living = 0
standing_number gone = «GONE»
standing_number never_issued = NEVER_ISSUED

-- where an id lives, or the number that a call on it is given: RULES, id
unfoldable pub find_of : List Key → ℕ → ℕ → Answer ℕ
find_of ks i g = decided (standing_number (standing_of ks i g)) (accepted i) refused

-- a key as an accepted add leaves it
abbrev pub taken_at : ℕ → Key
taken_at g = record { used = true; generation = g }

-- and as a removal leaves it: RULES, removal
abbrev pub left_at : ℕ → Key
left_at g = record { used = false; generation = g }

-- whether a slot is in use; none past the table's end is
abbrev pub used_at : List Key → ℕ → Bool
used_at = read_at false (λ k. k.used)

-- a slot that no add takes, in use or retired: RULES, retired-slot
abbrev pub Closed : List Key → ℕ → Type 0
Closed ks i = (used_at ks i ≡ true) ⊎ (4294967295 ≤ generation_at ks i)

-- an id that its slot has given out, as its generation tells: RULES, generation
pub record GivenOut (ks : List Key) (i g : ℕ) : Type 0 where
  pub least : 1 ≤ g
  pub most : g ≤ generation_at ks i

-- an id that was given, as its slot's generation tells, and does not live; generation 0, which none is given, counts
-- too
pub record Spent (ks : List Key) (i g : ℕ) : Type 0 where
  pub given : g ≤ generation_at ks i
  pub dead : lives_in ks i g ≡ false

-- a slot in use gave 1 or more, and none gave more than 4,294,967,295: RULES, generation
pub record Numbered (ks : List Key) : Type 0 where
  pub first : (i : ℕ) → used_at ks i ≡ true → 1 ≤ generation_at ks i
  pub last : (i : ℕ) → generation_at ks i ≤ 4294967295

-- the second keys are what adds and removals, in any number and order, make of the first
pub data Later : List Key → List Key → Type 0 where
  same : {ks : List Key} → Later ks ks
  added : {ks ls : List Key} (i g : ℕ) → free_of 0 ks ≡ room_at i g → Later (set ks i (taken_at g)) ls → Later ks ls
  removed : {ks ls : List Key} (i g : ℕ) → lives_in ks i g ≡ true → Later (set ks i (left_at g)) ls → Later ks ls
