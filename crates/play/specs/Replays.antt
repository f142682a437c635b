-- 02, the replay of a shift: a recording's records one after the other, up to the first refusal, and what is answered:
-- RULES, replay and trace. Assumes nothing.
use Rattle.std.specs.Prelude.{ℕ, ◌+◌, List, length, Result, Ok, Err}
use Rattle.judge.specs.Answer.{Answer, accepted, refused, number_of_refusal}
use Rattle.station.specs.Stations.{fresh_station}
use Rattle.station.specs.declared.Station.{Station}
use Rattle.record.specs.declared.Record.{Record}
use Rattle.recording.specs.Recordings.{Tape, next, over, unfinished, trace, tape_at, ReadTold, recorded, ended, refused_at, told_read}
use Rattle.recording.specs.declared.Read.TheVariants as read
use Rattle.play.specs.Asked.{taken_on}
use Rattle.play.specs.Verdicts.{Verdict}
use Rattle.play.specs.Verdicts as verdict
use Rattle.play.specs.declared.Place.TheVariants as place
use Rattle.play.specs.declared.Refused.{Refused}
use Rattle.play.specs.declared.Replayed as code

-- ---- on a state of any kind: all that is known of it is what a record makes of it

-- how the records came to their end: behind the last one, inside one, at a bad line by the place where it starts, or at
-- a record that was refused, by its number and the refusal's
pub data Ending : Type 0 where
  whole : Ending
  inside : Ending
  at_line : ℕ → Ending
  at_record : ℕ → ℕ → Ending

pub record Ended (S : Type 0) : Type 0 where
  pub state : S
  pub ending : Ending

module _ {S : Type 0} (take : S → Record → Answer S) where
  abbrev pub on_answer : {A : Type 0} → Answer S → (S → A) → (ℕ → A) → A
  on_answer (accepted st) f g = f st
  on_answer (refused n) f g = g n

  -- the records in their order, the first by the number k; a refused one leaves the state as it was
  unfoldable pub end_of : ℕ → S → Tape → Ended S
  end_of k st (next r behind t) = on_answer (take st r) (λ st'. end_of (k + 1) st' t) (λ n. record { state = st; ending = at_record k n })
  end_of k st over = record { state = st; ending = whole }
  end_of k st unfinished = record { state = st; ending = inside }
  end_of k st (trace at) = record { state = st; ending = at_line at }

-- ---- the answer

-- where a replay ended, and what it answers
pub record Replayed : Type 0 where
  pub station : Station
  pub verdict : Verdict

-- a refusal to read on, at a byte
abbrev pub at_byte : ReadTold → Verdict
at_byte (recorded r behind) = verdict.Accepted
at_byte ended = verdict.Accepted
at_byte (refused_at m at) = verdict.Refused m (place.Byte at)

-- of a recording of so many bytes
abbrev pub verdict_of : ℕ → Ending → Verdict
verdict_of n whole = verdict.Accepted
verdict_of n inside = at_byte (told_read n read.Unfinished)
verdict_of n (at_line at) = at_byte (told_read n (read.Bad at))
verdict_of n (at_record k m) = verdict.Refused m (place.Record k)

abbrev pub replayed : ℕ → Ended Station → Replayed
replayed n e = record { station = e.state; verdict = verdict_of n e.ending }

-- ---- on the station, from a fresh one

unfoldable pub replay_of : List ℕ → Replayed
replay_of s = replayed (length s) (end_of taken_on 0 fresh_station (tape_at s 0))

-- ---- the same as the code tells it

abbrev pub told_verdict : Result (Unit {0}) Refused → Verdict
told_verdict (Ok i) = verdict.Accepted
told_verdict (Err r) = verdict.Refused (number_of_refusal r.why) r.place

abbrev pub told_replay : code.Replayed → Replayed
told_replay r = record { station = r.station; verdict = told_verdict r.verdict }
