-- 02, the replay of a shift: what the same calls do when they are made one by one, and what it is to write a run of
-- calls down: RULES, one-by-one and recorder. Assumes nothing.
use Rattle.std.specs.Prelude.{ℕ, ◌+◌, ◌≡◌, ◌⊎◌, List, [], ◌∷◌, ◌++◌, map, length}
use Rattle.judge.specs.Answer.{Answer, accepted, refused}
use Rattle.commands.specs.Answers.{of_clock, Given, done, named}
use Rattle.station.specs.declared.Station.{Station}
use Rattle.run.specs.Runs.{told, after, after_all}
use Rattle.run.specs.declared.Call.{Call}
use Rattle.record.specs.declared.Op.{Op}
use Rattle.record.specs.declared.Op.TheVariants as op
use Rattle.record.specs.declared.Record.{Record}
use Rattle.recording.specs.Recordings.{Tape, next, over, unfinished, trace, records_of}
use Rattle.play.specs.Asked.{call_of}
use Rattle.play.specs.declared.Place.TheVariants as place
use Rattle.play.specs.Replays.{Replayed}
use Rattle.play.specs.Verdicts.{Verdict}
use Rattle.play.specs.Verdicts as verdict

-- ---- one record, by what its call answers

-- an add has to answer the record's id, and any other call that it is done
abbrev pub awaited_by : Record → Op → Given
awaited_by r op.Add = named of_clock r.slot r.generation
awaited_by r op.Drop = done
awaited_by r op.Start = done
awaited_by r op.Stop = done
awaited_by r op.Reset = done
awaited_by r op.Speed = done
awaited_by r op.Frame = done

abbrev pub Accepts : Station → Record → Type 0
Accepts st r = told st (call_of r) ≡ accepted (awaited_by r r.op)

-- an answer gives an id, and another one than the record's: 14
pub record OtherId (r : Record) (a : Answer Given) (n : ℕ) : Type 0 where
  pub slot : ℕ
  pub generation : ℕ
  pub given : a ≡ accepted (named of_clock slot generation)
  pub other : slot ≡ r.slot → generation ≡ r.generation → ⊥
  pub number : n ≡ 14

-- a record is refused by its call's own number, or for the id that its call gives
abbrev pub Refuses : Station → Record → ℕ → Type 0
Refuses st r n = (told st (call_of r) ≡ refused n) ⊎ OtherId r (told st (call_of r)) n

-- ---- one by one

-- each record's call, made on the station that the one before it left, is accepted
unfoldable pub AllAccepted : Station → List Record → Type 0
AllAccepted st [] = Unit {0}
AllAccepted st (r ∷ rs) = Accepts st r × AllAccepted (after st (call_of r)) rs

-- what is answered behind the last record of a recording of so many bytes: 13 with its place, unless the recording ends
unfoldable pub EndsWith : ℕ → Tape → Verdict → Type 0
EndsWith n (next r behind t) v = EndsWith n t v
EndsWith n over v = v ≡ verdict.Accepted
EndsWith n unfinished v = v ≡ verdict.Refused 13 (place.Byte n)
EndsWith n (trace at) v = v ≡ verdict.Refused 13 (place.Byte at)

-- what is answered where record k is refused on a station
pub record StopsAt (st : Station) (k : ℕ) (r : Record) (v : Verdict) : Type 0 where
  pub number : ℕ
  pub refuses : Refuses st r number
  pub is : v ≡ verdict.Refused number (place.Record k)

-- a replay stops behind its last record, or at record k, the first of those that are left
abbrev pub Answers : Station → ℕ → List Record → ℕ → Tape → Verdict → Type 0
Answers st k [] n t v = EndsWith n t v
Answers st k (r ∷ rs) n t v = StopsAt st k r v

-- the records that were run, and those that were left; the calls of the first, one by one, are all accepted, and end
-- where the replay ended
pub record EndsAlike (k : ℕ) (st : Station) (n : ℕ) (t : Tape) (e : Replayed) : Type 0 where
  pub ran : List Record
  pub left : List Record
  pub all : records_of t ≡ ran ++ left
  pub accepted : AllAccepted st ran
  pub state : e.station ≡ after_all st (map call_of ran)
  pub answer : Answers e.station (k + length ran) left n t e.verdict

-- ---- a recorder

-- records that write a run of calls down: each has its call, which is accepted, and the id that the call gave
unfoldable pub Noted : Station → List Call → List Record → Type 0
Noted st [] [] = Unit {0}
Noted st [] (r ∷ rs) = ⊥
Noted st (c ∷ cs) [] = ⊥
Noted st (c ∷ cs) (r ∷ rs) = (call_of r ≡ c) × (told st c ≡ accepted (awaited_by r r.op)) × Noted (after st c) cs rs
