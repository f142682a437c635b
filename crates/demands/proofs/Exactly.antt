-- Demand 1: the number that every call of `Entries` is given, and every judged call that is lent nothing, as the first
-- in the order whose condition holds; and the same read both ways. 01, "Refusal numbers". RULES, exact-refusals.
-- Assumes nothing.
use Prim.Native.Nat.{ℕ}
use mathlib.Core.Path.{◌≡◌, refl, sym, ◌∙◌}
use mathlib.Core.Bool.{Bool, true, false, cond, false≢true}
use mathlib.Core.Logic.{◌↔◌}
use mathlib.Core.List.{List}
use lib.Dec.{eqb}
use Rattle.judge.specs.Answer.{Answer, accepted, refused, number_told}
use Rattle.judge.specs.Judge.{Conditions, of_arguments, both_faults, dt_faults, number_of, first_fault, decided, judged}
use Rattle.judge.specs.Numbers.{«BUFFER»}
use Rattle.times.specs.Times.{clock_time_faults}
use Rattle.times.specs.Starts.{start_faults}
use Rattle.times.specs.Starts as starts
use Rattle.judge.specs.declared.Faults.{Faults}
use Rattle.times.specs.declared.time.ClockId.{ClockId}
use Rattle.values.specs.Speeds.{speed_tweens}
use Rattle.values.specs.Tweenables.{Tweens, float_tweens}
use Rattle.values.specs.Values.{value_faults}
use Rattle.parameter.specs.Parameters.{Set, Advanced, set_faults, try_new_of, try_set_of, try_update_of}
use Rattle.parameter.specs.declared.Parameter.{Parameter}
use Rattle.info.specs.Infos.{try_when_to_start_of, try_raw_in}
use Rattle.info.specs.ParametersIn.{try_update_in}
use Rattle.info.specs.declared.info.Info.{Info}
use Rattle.station.specs.Frames.{frame_of}
use Rattle.station.specs.Stations.{info_in}
use Rattle.station.specs.declared.Station.{Station}
use Rattle.report.specs.Reports.{unchanged, at_start, too_short, report_text, into_buffer, report_of}
use Rattle.laws.specs.Calls.{Call, clock, modulator, frame, refusal, done, call_number}
use Rattle.laws.specs.SoundStation.{All}
use Rattle.demands.specs.Entries.{Lent, Tables, OnKind, set, update, advance, read, make, Entry, on_station, on_float, on_speed, report, when, start_in, shift, number_on, number_given}
use Rattle.demands.specs.Conditions.{too_far_in, ticks_full_in, in_frame, of_call, of_report, of_parameter, conditions_of}
use Rattle.demands.specs.Order.{order, holds, first_in, among, Decides}
use Rattle.demands.proofs.lemmas.Asked.{first_exactly, first_none, judged_number, id_given, turn_given}
use Rattle.demands.proofs.lemmas.Lowest.{frame_number}
use Rattle.demands.proofs.lemmas.ByClock.{clock_number}
use Rattle.demands.proofs.lemmas.ByModulator.{modulator_number}
use Rattle.demands.proofs.lemmas.Lookups.{entry_number}
use Rattle.demands.proofs.lemmas.ByTime.{shift_number}

-- ---- the calls on the station

call_number_lem : (st : Station) → Tables st → (c : Call) → call_number st c ≡ first_in order (holds (of_call st c))
call_number_lem st t (clock c) = clock_number st t.clocks c
call_number_lem st t (modulator c) = modulator_number st t.modulators c
call_number_lem st t (frame dt) =
    let n = (frame_of st dt).refused in
    judged_number number_told done (refusal n) n refl refl ∙ frame_number st dt
    ∙ sym (turn_given (dt_faults dt) (in_frame too_far_in st dt) (in_frame ticks_full_in st dt))

-- ---- the caller's parameters, and the report

-- a call that acts on no entry
arguments_number : {R : Type 0} (number : R → ℕ) (f : Faults) (x y : R) → number x ≡ 0 → number y ≡ first_fault f → number (cond (eqb (first_fault f) 0) x y) ≡ first_in order (holds (of_arguments f))
arguments_number number f x y p q = judged_number number x y (first_fault f) p q ∙ sym (id_given false false f)

-- a judged answer that asks nothing behind the faults
judged_given : {A : Type 0} (f : Faults) (x : A) → number_told (judged f (accepted x)) ≡ first_in order (holds (of_arguments f))
judged_given f x = arguments_number number_told f (accepted x) (refused (first_fault f)) refl refl

report_number : (st : Station) → Tables st → (id : ClockId) (out : List ℕ) → number_told (report_of st.clocks id out).answer ≡ first_in order (holds (of_report st id out))
unfolding report_of first_in number_of
report_number st t id out =
    entry_number st.clocks.keys st.clocks.clocks t.clocks id.slot id.generation (λ (a : Answer (List ℕ)). number_told (into_buffer out a).answer) refused (λ m. refl)
    (λ i c. accepted (report_text id c)) (cond (too_short out) «BUFFER» 0) (λ l c k. go (report_text id c) (too_short out))
  where
    go : (text : List ℕ) (b : Bool) → number_told (decided (cond b «BUFFER» 0) (at_start text out) (λ n. unchanged n out)).answer ≡ cond b «BUFFER» 0
    go text true = refl
    go text false = refl

-- a call on a parameter of any kind, or on a value of it
kind_number : {T : Type 0} (k : Tweens T) (info : Info) (p : Parameter T) (c : OnKind T) → number_on k info p c ≡ first_in order (holds (of_parameter k p c))
unfolding try_set_of try_update_in try_update_of try_raw_in try_new_of
kind_number {T} k info p (set v w) = arguments_number (λ (r : Set T). r.refused) (set_faults k p v w) _ _ refl refl
kind_number {T} k info p (update dt) = arguments_number (λ (r : Advanced T). r.refused) (dt_faults dt) _ _ refl refl
kind_number {T} k info p (advance dt s) = arguments_number (λ (r : Advanced T). r.refused) (dt_faults dt) _ _ refl refl
kind_number k info p (read v) = judged_given (value_faults k v) _
kind_number k info p (make v d) = judged_given (both_faults (value_faults k v) (k.wrong d)) _

-- ---- every call

-- The number as one equation: the first in the order whose condition holds, for every call of `Entries`, which says
-- what it leaves out, on all that can be lent, valid or not: RULES, exact-refusals. `Tables` asks only for what the
-- arrays' lengths give, so every station that a caller can hold meets it.
-- It speaks of numbers alone, not of what an accepted call does. The conditions of an argument's number are the very
-- definitions that the entries' statements use (`dt_faults`, `set_faults`, ..), so a definition that forgot an argument
-- would meet it: `limits` of `Limits`, some 1,400 rows at the limits of each argument, rules that out. Those of the
-- other numbers are written anew in `Conditions`, on what the definitions compute: whether an id lives, and the last
-- generation of its slot; and in a frame what a clock sees in its turn, its speed, its advance, its sum and the whole
-- ticks of it.
pub number_given_lem : (l : Lent) → Tables l.station → (e : Entry) → number_given l e ≡ first_in order (holds (conditions_of l e))
unfolding try_when_to_start_of starts.try_update_of
number_given_lem l t (on_station c) = call_number_lem l.station t c
number_given_lem l t (on_float c) = kind_number float_tweens (info_in l.station) l.float c
number_given_lem l t (on_speed c) = kind_number speed_tweens (info_in l.station) l.speed c
number_given_lem l t (report id) = report_number l.station t id l.buffer
number_given_lem l t (when u) = judged_given (clock_time_faults u) _
number_given_lem l t (start_in s dt) = judged_given (both_faults (dt_faults dt) (start_faults s)) _
number_given_lem l t (shift u s) = shift_number u s

-- ---- the order, read both ways

module _ (c : Conditions) (m : ℕ) (e : m ≡ first_in order (holds c)) where
  by_order : (n : ℕ) → among n order ≡ true → (m ≡ n) ↔ Decides c n
  unfolding among
  by_order n a =
      let r = first_exactly (holds c) n (λ z. no (rw z at a)) order a in
      (λ q. let s = r.0 (sym e ∙ q) in record { own = s.0; earlier = s.1 }, λ d. e ∙ r.1 (d.own, d.earlier))
    where
      no : among 0 order ≡ true → ⊥
      no h = let z : ◌≡◌ {A = Bool} false true = h in absurd (false≢true z)

  none_by_order : (m ≡ 0) ↔ All (λ n. holds c n ≡ false) order
  unfolding among
  none_by_order = let r = first_none (holds c) order refl in (λ q. r.0 (sym e ∙ q), λ h. e ∙ r.1 h)

module _ (l : Lent) (t : Tables l.station) (e : Entry) where
  -- the same, of each number of the order: given, if and only if its condition holds and none before it in the order
  -- does: RULES, exact-refusals
  pub exactly : (n : ℕ) → among n order ≡ true → (number_given l e ≡ n) ↔ Decides (conditions_of l e) n
  exactly = by_order (conditions_of l e) (number_given l e) (number_given_lem l t e)

  -- and of 0, OK: accepted, if and only if no condition holds. This rules out a program that refuses too much: every
  -- call, every frame, every set to seconds per tick
  pub accepted_exactly : (number_given l e ≡ 0) ↔ All (λ n. holds (conditions_of l e) n ≡ false) order
  accepted_exactly = none_by_order (conditions_of l e) (number_given l e) (number_given_lem l t e)

-- ---- the judged calls that are lent nothing

-- Any answer that is `judged` with some faults and is accepted where there is none: a number is given, if and only if
-- its flag holds and none before it does, which leaves 1 to 6; and 0, if and only if no flag holds. Which faults a call
-- is judged with is its own definition's, held to RULES by `limits` of `Limits` and by reading.
module _ {A : Type 0} (f : Faults) (x : A) where
  pub judged_exactly : (n : ℕ) → among n order ≡ true → (number_told (judged f (accepted x)) ≡ n) ↔ Decides (of_arguments f) n
  judged_exactly = by_order (of_arguments f) (number_told (judged f (accepted x))) (judged_given f x)

  pub judged_accepted : (number_told (judged f (accepted x)) ≡ 0) ↔ All (λ n. holds (of_arguments f) n ≡ false) order
  judged_accepted = none_by_order (of_arguments f) (number_told (judged f (accepted x))) (judged_given f x)
