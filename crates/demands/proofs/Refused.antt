-- Demand 1: what a refusal hands back, and that it has a number, each in one theorem over every call. 01, "Refusal
-- numbers". RULES, refusal and ok. Assumes nothing.
use Prim.Native.Nat.{ℕ}
use mathlib.Core.Path.{◌≡◌, refl, sym, ap, ◌∙◌}
use mathlib.Core.Bool.{Bool, true, false, not, cond, false≢true}
use mathlib.Core.List.{List}
use lib.Dec.{ltb, eqb}
use lib.Ieee.{Float, neg}
use borrow.Author.Tests.{eq-eqb, eqb-false}
use Rattle.doubles.specs.Doubles.{sign_of}
use Rattle.judge.specs.Answer.{Answer, accepted, refused, is_refused, number_told}
use Rattle.judge.specs.Judge.{of_report, of_shift, both_faults, dt_faults, number_of, first_fault, judged}
use Rattle.judge.specs.declared.Faults.{Faults}
use Rattle.times.specs.Starts.{start_faults, try_update_of}
use Rattle.times.specs.Times.{clock_time_faults, shift_faults, too_many, ticks_more, too_little, try_add_ticks_of, try_sub_ticks_of, later_of, earlier_of, try_add_float_of, try_sub_float_of}
use Rattle.times.specs.declared.time.ClockId.{ClockId}
use Rattle.times.specs.declared.time.ClockTime.{ClockTime}
use Rattle.values.specs.Speeds.{speed_tweens}
use Rattle.values.specs.Tweenables.{Tweens, float_tweens}
use Rattle.values.specs.Values.{value_faults}
use Rattle.parameter.specs.Parameters.{try_new_of}
use Rattle.parameter.specs.declared.Parameter.{Parameter}
use Rattle.clock_table.specs.declared.Clocks.{Clocks}
use Rattle.info.specs.Infos.{try_when_to_start_of, try_raw_in, try_update_start_in}
use Rattle.ids.specs.Tables.{read_found, where_is}
use Rattle.clock_table.specs.ClockTables.{clock_table}
use Rattle.info.specs.ParametersIn.{parameter_due_of, source_of, try_update_in}
use Rattle.info.specs.declared.info.Info.{Info}
use Rattle.station.specs.Stations.{info_in}
use Rattle.report.specs.Reports.{unchanged as asItWas, at_start, too_short, into_buffer, report_text, report_of}
use Rattle.laws.proofs.Refusals.{Numbered, numbered_decided, numbered_read, call_numbered, refused_leaves, change_leaves, advance_leaves}
use Rattle.laws.specs.Calls.{told}
use Rattle.laws.proofs.lemmas.Cases.{cond_case}
use Rattle.demands.specs.Entries.{Lent, OnKind, set, update, advance, read, make, Entry, on_station, on_float, on_speed, report, when, start_in, Shift, add_ticks, sub_ticks, add_float, sub_float, shifted_of, shift, number_on, refusal_on, left_on, number_given, is_refusal, with_station, with_float, with_speed, with_buffer, handed_back}

-- a report writes nothing, or is not refused
unwritten : (out : List ℕ) (a : Answer (List ℕ)) → (number_told (into_buffer out a).answer ≡ 0 → ⊥) → (into_buffer out a).out ≡ out
unwritten out (refused n) h = refl
unwritten out (accepted text) h = go (eqb n 0) h
  where
    n : ℕ
    n = number_of (of_report false false (too_short out))

    go : (b : Bool) → (number_told (cond b (at_start text out) (asItWas n out)).answer ≡ 0 → ⊥) → (cond b (at_start text out) (asItWas n out)).out ≡ out
    go true h = absurd (h refl)
    go false h = refl

-- a refused call on a parameter of any kind leaves it
kind_unchanged : {T : Type 0} (k : Tweens T) (info : Info) (p : Parameter T) (c : OnKind T) → (number_on k info p c ≡ 0 → ⊥) → left_on k info p c ≡ p
unfolding try_update_in
kind_unchanged k info p (set v w) h = change_leaves k p v w h
kind_unchanged k info p (update dt) h = advance_leaves k p dt (parameter_due_of info p) (source_of info p) h
kind_unchanged k info p (advance dt s) h = advance_leaves k p dt s.when s.input h
kind_unchanged k info p (read v) h = refl
kind_unchanged k info p (make v d) h = refl

-- A refused call hands back all that it was lent, as it was: RULES, refusal. It asks nothing: whatever was lent, and
-- whatever the number. It does not say which calls are refused, which `exactly` of `Exactly` does, nor what an accepted
-- call hands back, which the entries' own definitions do. It does not speak of the reports of a refused frame:
-- `undone_of` sets them to none.
pub unchanged : (l : Lent) (e : Entry) → (number_given l e ≡ 0 → ⊥) → handed_back l e ≡ l
unfolding report_of
unchanged l (on_station c) h = ap (with_station l) (refused_leaves l.station c h)
unchanged l (on_float c) h = ap (with_float l) (kind_unchanged float_tweens (info_in l.station) l.float c h)
unchanged l (on_speed c) h = ap (with_speed l) (kind_unchanged speed_tweens (info_in l.station) l.speed c h)
unchanged l (report id) h = let t = l.station.clocks in ap (with_buffer l) (unwritten l.buffer (read_found clock_table t (where_is clock_table t id) (report_text id)) h)
unchanged l (when t) h = refl
unchanged l (start_in s dt) h = refl
unchanged l (shift t s) h = refl

-- ---- a refusal's number

-- an answer that has a number where it is a refusal
by_answer : {A : Type 0} (a : Answer A) → Numbered a → is_refused a ≡ true → number_told a ≡ 0 → ⊥
by_answer (accepted x) h e z = false≢true e
by_answer (refused n) h e z = h z

-- a number beside what is handed back says so by itself
by_itself : (n : ℕ) → not (eqb n 0) ≡ true → n ≡ 0 → ⊥
by_itself n e z = false≢true (sym (ap not (eq-eqb n 0 z)) ∙ e)

judged_numbered : {A : Type 0} (f : Faults) (x : A) → Numbered (judged f (accepted x))
judged_numbered f x = numbered_decided (first_fault f) x

report_numbered : (t : Clocks) (id : ClockId) (out : List ℕ) → Numbered (report_of t id out).answer
unfolding report_of
report_numbered t id out = go (read_found clock_table t (where_is clock_table t id) (report_text id)) (numbered_read clock_table t id (report_text id))
  where
    go : (a : Answer (List ℕ)) → Numbered a → Numbered (into_buffer out a).answer
    go (refused n) h = h
    go (accepted text) h = by (eqb n 0) (eqb-false n 0)
      where
        n : ℕ
        n = number_of (of_report false false (too_short out))

        by : (b : Bool) → (b ≡ false → n ≡ 0 → ⊥) → Numbered (cond b (at_start text out) (asItWas n out)).answer
        by true h = tt
        by false h = h refl

later_numbered : (t : ClockTime) (x : Float) → Numbered (later_of t x)
unfolding later_of
later_numbered t x = numbered_decided (number_of (of_shift (shift_faults t x) (too_many t.ticks (ticks_more t x)) false)) _

earlier_numbered : (t : ClockTime) (x : Float) → Numbered (earlier_of t x)
unfolding earlier_of
earlier_numbered t x = numbered_decided (number_of (of_shift (shift_faults t x) false (too_little t x))) _

shift_numbered : (t : ClockTime) (s : Shift) → Numbered (shifted_of t s)
unfolding try_add_ticks_of try_sub_ticks_of try_add_float_of try_sub_float_of
shift_numbered t (add_ticks n) = numbered_decided (number_of (of_shift (clock_time_faults t) (too_many t.ticks n) false)) _
shift_numbered t (sub_ticks n) = numbered_decided (number_of (of_shift (clock_time_faults t) false (ltb t.ticks n))) _
shift_numbered t (add_float x) = cond_case Numbered (earlier_of t (neg x)) (later_of t x) (earlier_numbered t (neg x)) (later_numbered t x) (sign_of x)
shift_numbered t (sub_float x) = cond_case Numbered (later_of t (neg x)) (earlier_of t x) (later_numbered t (neg x)) (earlier_numbered t x) (sign_of x)

kind_numbered : {T : Type 0} (k : Tweens T) (info : Info) (p : Parameter T) (c : OnKind T) → refusal_on k info p c ≡ true → number_on k info p c ≡ 0 → ⊥
unfolding try_raw_in try_new_of
kind_numbered k info p (set v w) = by_itself (number_on k info p (set v w))
kind_numbered k info p (update dt) = by_itself (number_on k info p (update dt))
kind_numbered k info p (advance dt s) = by_itself (number_on k info p (advance dt s))
kind_numbered k info p (read v) = by_answer (try_raw_in k info v) (judged_numbered (value_faults k v) _)
kind_numbered k info p (make v d) = by_answer (try_new_of k v d) (judged_numbered (both_faults (value_faults k v) (k.wrong d)) _)

-- A refusal's number is never 0, which says OK: so where `exactly` gives a call the number 0, the call is accepted.
-- RULES, ok.
pub has_number : (l : Lent) (e : Entry) → is_refusal l e ≡ true → number_given l e ≡ 0 → ⊥
unfolding try_when_to_start_of try_update_of
has_number l (on_station c) = by_answer (told l.station c) (call_numbered l.station c)
has_number l (on_float c) = kind_numbered float_tweens (info_in l.station) l.float c
has_number l (on_speed c) = kind_numbered speed_tweens (info_in l.station) l.speed c
has_number l (report id) = by_answer (report_of l.station.clocks id l.buffer).answer (report_numbered l.station.clocks id l.buffer)
has_number l (when t) = by_answer (try_when_to_start_of (info_in l.station) t) (judged_numbered (clock_time_faults t) _)
has_number l (start_in s dt) = by_answer (try_update_start_in (info_in l.station) s dt) (judged_numbered (both_faults (dt_faults dt) (start_faults s)) _)
has_number l (shift t s) = by_answer (shifted_of t s) (shift_numbered t s)
