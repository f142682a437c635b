-- One turn of the loop over a recording's records: what a record's call makes of a station, and what is left to say
-- behind it. Assumes nothing.
use Prim.Native.Nat.{ℕ, ◌+◌}
use mathlib.Core.Path.{◌≡◌, refl, sym, ap, ◌∙◌}
use mathlib.Core.Bool.{Bool, true, false, not, ◌&&◌}
use mathlib.Core.List.{List}
use lib.Dec.{eqb}
use borrow.Author.Tests.{eq-eqb, ne_eqb}
use lib.Ieee.{Float}
use Rattle.std.specs.Prelude.{Option, Result, Ok, Err, OnErr}
use Rattle.ids.specs.Tables.{Done, done, added}
use Rattle.judge.specs.Answer as answer
use Rattle.judge.specs.Answer.{Answer, accepted, refused, number_told, number_of_refusal}
use Rattle.judge.specs.declared.Refusal.{Refusal}
use Rattle.judge.proofs.Judged.{never_ok, never_zero_number}
use Rattle.times.specs.declared.time.ClockId.{ClockId}
use Rattle.values.specs.declared.clock_speed.ClockSpeed.{ClockSpeed}
use Rattle.values.specs.declared.value.Value.{Value}
use Rattle.commands.specs.Answers.{by_number}
use Rattle.commands.specs.ClockCommands.{done_as, run_clock_of}
use Rattle.commands.specs.declared.clock_command.ClockCommand.{ClockCommand}
use Rattle.commands.specs.declared.clock_command.ClockCommand.TheVariants as command
use Rattle.clock_table.specs.ClockTables.{add_clock_of}
use Rattle.clock_table.specs.declared.Clocks.{Clocks}
use Rattle.laws.proofs.Refusals.{refusal_leaves}
use Rattle.station.specs.Frames.{framed_told, frame_of}
use Rattle.station.specs.declared.Station.{Station}
use Rattle.run.specs.Runs.{told, after}
use Rattle.run.specs.declared.Call.{Call}
use Rattle.run.specs.declared.Call.TheVariants as call
use Rattle.record.specs.declared.Record.{Record}
use Rattle.recording.specs.Recordings.{tape_at, record_at}
use Rattle.recording.specs.declared.Read.{Read}
use Rattle.recording.specs.declared.Read.TheVariants as read
use Rattle.recording.proofs.Places.{There, is_over, is_unfinished, is_bad}
use Rattle.play.specs.Asked.{id_of, call_of, is_of, number_for, number_on, taken_on, taken}
use Rattle.play.specs.Replays.{whole, inside, at_line, at_record, end_of}

-- ---- a record's call c, once it was made, and the number n that was found for it

module _ (st : Station) (r : Record) {c : Call} {n : ℕ} (asked : c ≡ call_of r) (found : n ≡ number_for r (told st c)) where
  number_is : number_on st r ≡ n
  unfolding number_on
  number_is = rw (sym asked) (sym found)

  is_taken : n ≡ 0 → taken_on st r ≡ accepted (after st c)
  unfolding taken_on
  is_taken e = rw (number_is, eq-eqb n 0 e, sym asked)

  is_refused_lem : (n ≡ 0 → ⊥) → taken_on st r ≡ refused n
  unfolding taken_on
  is_refused_lem e = rw (number_is, ne_eqb n 0 e)

-- ---- what the code makes of a record: its result, and the station that it leaves

abbrev pub Takes : Station → Record → Result (Unit {0}) Refusal → Station → Type 0
Takes st r res st' = (taken res st' ≡ taken_on st r) × OnErr res (st' ≡ st)

-- a call that is done or refused by a number
took :
    (st : Station) (r : Record) (c : Call) → c ≡ call_of r → (st' : Station) → st' ≡ after st c → (res : Result (Unit {0}) Refusal)
    → told st c ≡ by_number (number_told (answer.told res)) → Takes st r res st'
took st r c asked st' left (Ok u) e =
    let found : 0 ≡ number_for r (told st c) = rw e refl in
    (ap accepted left ∙ sym (is_taken st r asked found refl), tt)
took st r c asked st' left (Err x) e =
    let no : told st c ≡ refused (number_of_refusal x) = e ∙ rw (never_zero_number x) refl in
    let found : number_of_refusal x ≡ number_for r (told st c) = rw no refl in
    (sym (is_refused_lem st r asked found (never_ok x)), left ∙ refusal_leaves st c (number_of_refusal x) no)

abbrev both : Station → Clocks → Station
both st t = record { clocks = t; modulators = st.modulators }

pub command_took :
    (st : Station) (r : Record) (c : ClockCommand) → call.Clock c ≡ call_of r → (d : Done Clocks) → run_clock_of st.clocks c ≡ done_as d
    → (res : Result (Unit {0}) Refusal) (t : Clocks) → done res t ≡ d → Takes st r res (both st t)
command_took st r c asked d runs res t e =
    took st r (call.Clock c) asked (both st t)
    (ap (both st) (ap (λ (x : Done Clocks). x.table) e ∙ sym (ap (λ x. x.table) runs)))
    res
    (ap (λ x. x.answer) runs ∙ ap (λ (x : Done Clocks). by_number x.refused) (sym e))

pub frame_took :
    (st : Station) (r : Record) (dt : Float) → call.Frame dt ≡ call_of r → (x : Result (List (Option ℕ)) Refusal) (st' : Station) → framed_told x st' ≡ frame_of st dt
    → (res : Result (Unit {0}) Refusal) → number_told (answer.told res) ≡ (framed_told x st').refused → (framed_told x st').station ≡ st' → Takes st r res st'
frame_took st r dt asked x st' e res n s =
    took st r (call.Frame dt) asked st'
    (sym s ∙ ap (λ f. f.station) e)
    res
    (ap (λ f. by_number f.refused) (sym e) ∙ ap by_number (sym n))

-- an add: refused by itself, or given an id
module _ (st : Station) (r : Record) (v : Value ClockSpeed) (asked : call.Clock (command.Add v) ≡ call_of r) (t : Clocks) where
  pub add_refused : (x : Refusal) → added (Err x) t ≡ add_clock_of st.clocks v → refused (number_of_refusal x) ≡ taken_on st r
  unfolding run_clock_of
  add_refused x e =
      let found : number_of_refusal x ≡ number_for r (told st (call.Clock (command.Add v))) = rw (← e) refl in
      sym (is_refused_lem st r asked found (never_ok x))

  module _ (id : ClockId) (e : added (Ok id) t ≡ add_clock_of st.clocks v) where
    given : is_of r id.slot id.generation ≡ number_for r (told st (call.Clock (command.Add v)))
    unfolding run_clock_of
    given = rw (← e) refl

    pub add_other : is_of r id.slot id.generation ≡ 14 → refused 14 ≡ taken_on st r
    add_other n = sym (is_refused_lem st r asked (sym n ∙ given) (λ z. absurd (cc)))

    pub add_taken : is_of r id.slot id.generation ≡ 0 → accepted (both st t) ≡ taken_on st r
    unfolding run_clock_of
    add_taken n = ap (λ x. accepted (both st x.table)) e ∙ sym (is_taken st r asked (sym n ∙ given) refl)

-- whether an id is the record's, by the code's test
different : (b : Bool) → not b ≡ true → b ≡ false
different true e = cc
different false e = refl

alike : (b : Bool) → not b ≡ false → b ≡ true
alike true e = refl
alike false e = cc

module _ (r : Record) (id own : ClockId) (is : own ≡ id_of r) where
  pub other_id : not (eqb id.slot own.slot && eqb id.generation own.generation) ≡ true → is_of r id.slot id.generation ≡ 14
  other_id e = let f = different _ (rw is at e) in rw f

  pub same_id : not (eqb id.slot own.slot && eqb id.generation own.generation) ≡ false → is_of r id.slot id.generation ≡ 0
  same_id e = let f = alike _ (rw is at e) in rw f

-- ---- the loop stands at a place, with record k to come

module _ {S : Type 0} (take : S → Record → Answer S) (s : List ℕ) (at k : ℕ) (st : S) where
  pub refuses : {r : Record} {j n : ℕ} → There s at r j → take st r ≡ refused n → record { state = st; ending = at_record k n } ≡ end_of take k st (tape_at s at)
  unfolding end_of
  refuses d e = rw (d.is, e)

  pub accepts : {r : Record} {j : ℕ} {st' : S} → There s at r j → take st r ≡ accepted st' → end_of take (k + 1) st' (tape_at s j) ≡ end_of take k st (tape_at s at)
  unfolding end_of
  accepts d e = rw (d.is, e)

  -- a is what `record_at` answered
  module _ (a : Read) (found : a ≡ record_at s at) where
    pub ends : a ≡ read.End → record { state = st; ending = whole } ≡ end_of take k st (tape_at s at)
    unfolding end_of
    ends e = rw (is_over (tape_at s at) (sym found ∙ e))

    pub ends_inside : a ≡ read.Unfinished → record { state = st; ending = inside } ≡ end_of take k st (tape_at s at)
    unfolding end_of
    ends_inside e = rw (is_unfinished (tape_at s at) (sym found ∙ e))

    pub ends_at : {j : ℕ} → a ≡ read.Bad j → record { state = st; ending = at_line j } ≡ end_of take k st (tape_at s at)
    unfolding end_of
    ends_at {j} e = rw (is_bad (tape_at s at) j (sym found ∙ e))
