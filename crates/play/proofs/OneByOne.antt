-- A replay ends where its records' calls end when they are made one by one: all of them, or those before the first that
-- is refused. And a recording that writes an accepted run of calls down is replayed to where that run ended. 02, the
-- replay of a shift; RULES, one-by-one and recorder. Assumes nothing.
use Prim.Native.Nat.{ℕ, ◌+◌}
use native.Mathlib.Omega.{arith}
use mathlib.Core.Logic.{◌⊎◌, inl, inr}
use mathlib.Core.Path.{◌≡◌, refl, sym, ap, ◌∙◌}
use mathlib.Core.Bool.{Bool, true, false, cond, ◌&&◌}
use mathlib.Core.List.{List, [], ◌∷◌, map}
use borrow.Author.Tests.{eqb-true, eq-eqb}
use lib.Dec.{eqb}
use lib.ListN.{length}
use Rattle.judge.specs.Answer.{Answer, accepted, refused, on_accepted}
use Rattle.judge.specs.Judge.{decided}
use Rattle.times.specs.declared.time.ClockId.{ClockId}
use Rattle.clock_table.specs.ClockTables.{add_clock_of, remove_of, tick_on_of, reset_clock_of, set_speed_of}
use Rattle.commands.specs.Answers.{of_clock, Given, done, named, by_number}
use Rattle.commands.specs.ClockCommands.{run_clock_of}
use Rattle.station.specs.Frames.{frame_of}
use Rattle.station.specs.Stations.{fresh_station}
use Rattle.station.specs.declared.Station.{Station}
use Rattle.run.specs.Runs.{told, after, after_all}
use Rattle.run.specs.declared.Call.{Call}
use Rattle.record.specs.declared.Op.{Op}
use Rattle.record.specs.declared.Op.TheVariants as op
use Rattle.record.specs.declared.Record.{Record}
use Rattle.recording.specs.Recordings.{Tape, next, over, unfinished, trace, records_of, is_whole, tape_at}
use Rattle.recording.specs.Writings.{written_of, Writable, All}
use Rattle.recording.proofs.Written.{read_back, whole_back}
use Rattle.laws.proofs.Refusals.{refusal_numbered}
use Rattle.play.specs.Asked.{double_of, id_of, speed_of, no_time, call_by, call_of, is_of, number_for, number_on, taken_on}
use Rattle.play.specs.Replays.{whole, at_record, Ended, on_answer, end_of, Replayed, replayed, replay_of}
use Rattle.play.specs.OneByOne.{awaited_by, Accepts, OtherId, Refuses, AllAccepted, EndsWith, Answers, EndsAlike, Noted}
use Rattle.play.specs.declared.Place.TheVariants as place
use Rattle.play.specs.Verdicts as verdict

false_is : false ≡ true → ⊥
false_is e = let z : ◌≡◌ {A = ℕ} 0 1 = cc in absurd (omega arith)

-- ---- one record: its number is 0 where its call answers what the record says, and else that of its refusal

-- what a number n says of an answer a to the record r, of which x is awaited
module _ (r : Record) (x : Given) (a : Answer Given) where
  pub record Says (n : ℕ) : Type 0 where
    pub zero : n ≡ 0 → a ≡ accepted x
    pub not_zero : (n ≡ 0 → ⊥) → (a ≡ refused n) ⊎ OtherId r a n

module _ (r : Record) where
  -- a call that answers by a number
  by_number_lem : (m : ℕ) → Says r done (by_number m) (number_for r (by_number m))
  by_number_lem m = by (eqb m 0) refl
    where
      by : (b : Bool) → eqb m 0 ≡ b → Says r done (cond b (accepted done) (refused m)) (number_for r (cond b (accepted done) (refused m)))
      by true e = record { zero = λ z. refl; not_zero = λ z. absurd (z refl) }
      by false e = record { zero = λ z. absurd (false_is (sym e ∙ eq-eqb m 0 z)); not_zero = λ z. inl refl }

  -- an add
  by_id_lem : (s g : ℕ) → Says r (named of_clock r.slot r.generation) (accepted (named of_clock s g)) (is_of r s g)
  by_id_lem s g = by (eqb s r.slot) (eqb g r.generation) refl refl
    where
      by : (b c : Bool) → eqb s r.slot ≡ b → eqb g r.generation ≡ c → Says r (named of_clock r.slot r.generation) (accepted (named of_clock s g)) (cond (b && c) 0 14)
      by true true e f = record { zero = λ z. rw (eqb-true s r.slot e, eqb-true g r.generation f); not_zero = λ z. absurd (z refl) }
      by true false e f = record {
        zero = λ z. absurd (omega arith);
        not_zero = λ z. inr record { slot = s; generation = g; given = refl; other = λ p q. false_is (sym f ∙ eq-eqb g r.generation q); number = refl };
      }
      by false c e f = record {
        zero = λ z. absurd (omega arith);
        not_zero = λ z. inr record { slot = s; generation = g; given = refl; other = λ p q. false_is (sym e ∙ eq-eqb s r.slot p); number = refl };
      }

  abbrev id_as : ClockId → Given
  id_as id = named of_clock id.slot id.generation

  by_add : (a : Answer ClockId) → ((n : ℕ) → on_accepted id_as a ≡ refused n → n ≡ 0 → ⊥) → Says r (named of_clock r.slot r.generation) (on_accepted id_as a) (number_for r (on_accepted id_as a))
  by_add (accepted id) h = by_id_lem id.slot id.generation
  by_add (refused n) h = record { zero = λ z. absurd (h n refl z); not_zero = λ z. inl refl }

says : (st : Station) (r : Record) (o : Op) → Says r (awaited_by r o) (told st (call_by r o)) (number_for r (told st (call_by r o)))
unfolding run_clock_of
says st r op.Add = by_add r (add_clock_of st.clocks (speed_of r)).answer (refusal_numbered st (call_by r op.Add))
says st r op.Drop = by_number_lem r (remove_of st.clocks (id_of r)).refused
says st r op.Start = by_number_lem r (tick_on_of true st.clocks (id_of r)).refused
says st r op.Stop = by_number_lem r (tick_on_of false st.clocks (id_of r)).refused
says st r op.Reset = by_number_lem r (reset_clock_of st.clocks (id_of r)).refused
says st r op.Speed = by_number_lem r (set_speed_of st.clocks (id_of r) (speed_of r) no_time).refused
says st r op.Frame = by_number_lem r (frame_of st (double_of r)).refused

accepts : (st : Station) (r : Record) → number_on st r ≡ 0 → Accepts st r
unfolding number_on
accepts st r = (says st r r.op).zero

refuses : (st : Station) (r : Record) → (number_on st r ≡ 0 → ⊥) → Refuses st r (number_on st r)
unfolding number_on
refuses st r = (says st r r.op).not_zero

awaited_zero : (r : Record) (o : Op) → number_for r (accepted (awaited_by r o)) ≡ 0
awaited_zero r op.Add = rw (eq-eqb r.slot r.slot refl, eq-eqb r.generation r.generation refl)
awaited_zero r op.Drop = refl
awaited_zero r op.Start = refl
awaited_zero r op.Stop = refl
awaited_zero r op.Reset = refl
awaited_zero r op.Speed = refl
awaited_zero r op.Frame = refl

accepted_zero : (st : Station) (r : Record) → Accepts st r → number_on st r ≡ 0
unfolding number_on
accepted_zero st r e = ap (number_for r) e ∙ awaited_zero r r.op

-- ---- every recording

-- what a record's number makes of a replay of t behind it
abbrev on : Tape → ℕ → Station → Record → ℕ → Ended Station
on t k st r n =
    on_answer taken_on (decided n (accepted (after st (call_of r))) refused) (λ st'. end_of taken_on (k + 1) st' t) (λ m. record { state = st; ending = at_record k m })

abbrev Alike : ℕ → Tape → Type 0
Alike n t = (k : ℕ) (st : Station) → EndsAlike k st n t (replayed n (end_of taken_on k st t))

module _ (n : ℕ) (t : Tape) (ih : Alike n t) (r : Record) (behind k : ℕ) (st : Station) where
  -- what is answered behind a record is answered from it on
  from_it : (e : Replayed) (left : List Record) {i j : ℕ} → i ≡ j → Answers e.station i left n t e.verdict → Answers e.station j left n (next r behind t) e.verdict
  unfolding EndsWith
  from_it e [] p a = a
  from_it e (q ∷ qs) p a = rw (sym p) a

  by : (b : Bool) → eqb (number_on st r) 0 ≡ b → EndsAlike k st n (next r behind t) (replayed n (on t k st r (number_on st r)))
  unfolding records_of AllAccepted after_all
  by true e =
      let d = ih (k + 1) (after st (call_of r)) in
      rw e (record {
        ran = r ∷ d.ran;
        left = d.left;
        all = ap (λ (l : List Record). r ∷ l) d.all;
        accepted = (accepts st r (eqb-true (number_on st r) 0 e), d.accepted);
        state = d.state;
        answer = from_it (replayed n (end_of taken_on (k + 1) (after st (call_of r)) t)) d.left (omega arith) d.answer;
      })
  by false e =
      let here : k ≡ k + 0 = omega arith in
      rw e (record {
        ran = [];
        left = r ∷ records_of t;
        all = refl;
        accepted = tt;
        state = refl;
        answer = record {
          number = number_on st r;
          refuses = refuses st r (λ z. false_is (sym e ∙ eq-eqb (number_on st r) 0 z));
          is = ap (λ (j : ℕ). verdict.Refused (number_on st r) (place.Record j)) here;
        };
      })

alike : (n : ℕ) (t : Tape) → Alike n t
unfolding end_of taken_on records_of EndsWith AllAccepted after_all
alike n (next r behind t) k st = by n t (alike n t) r behind k st (eqb (number_on st r) 0) refl
alike n over k st = record { ran = []; left = []; all = refl; accepted = tt; state = refl; answer = refl }
alike n unfinished k st = record { ran = []; left = []; all = refl; accepted = tt; state = refl; answer = refl }
alike n (trace at) k st = record { ran = []; left = []; all = refl; accepted = tt; state = refl; answer = refl }

pub one_by_one : (s : List ℕ) → EndsAlike 0 fresh_station (length s) (tape_at s 0) (replay_of s)
unfolding replay_of
one_by_one s = alike (length s) (tape_at s 0) 0 fresh_station

-- ---- a recording of an accepted run

whole_run : (t : Tape) (k : ℕ) (st : Station) → is_whole t ≡ true → AllAccepted st (records_of t) → end_of taken_on k st t ≡ record { state = after_all st (map call_of (records_of t)); ending = whole }
unfolding end_of taken_on records_of is_whole AllAccepted after_all
whole_run (next r behind t) k st w a = rw (eq-eqb (number_on st r) 0 (accepted_zero st r a.0)) (whole_run t (k + 1) (after st (call_of r)) w a.1)
whole_run over k st w a = refl
whole_run unfinished k st w a = absurd (false_is w)
whole_run (trace at) k st w a = absurd (false_is w)

-- what is written down was accepted, call by call
noted_calls : (st : Station) (cs : List Call) (rs : List Record) → Noted st cs rs → AllAccepted st rs × (map call_of rs ≡ cs)
unfolding Noted AllAccepted
noted_calls st [] [] n = (tt, refl)
noted_calls st [] (r ∷ rs) n = absurd n
noted_calls st (c ∷ cs) [] n = absurd n
noted_calls st (c ∷ cs) (r ∷ rs) n =
    let d = noted_calls (after st c) cs rs n.2 in
    rw n.0 ((n.1, d.0), ap (λ (l : List Call). c ∷ l) d.1)

pub accepted_run : (rs : List Record) → All Writable rs → AllAccepted fresh_station rs → replay_of (written_of rs) ≡ record { station = after_all fresh_station (map call_of rs); verdict = verdict.Accepted }
unfolding replay_of
accepted_run rs w a =
    let t = tape_at (written_of rs) 0 in
    let is : records_of t ≡ rs = read_back rs w in
    let all : AllAccepted fresh_station (records_of t) = rw is a in
    ap (replayed _) (whole_run t 0 fresh_station (whole_back rs w) all) ∙ rw is

pub recorded_run : (cs : List Call) (rs : List Record) → All Writable rs → Noted fresh_station cs rs → replay_of (written_of rs) ≡ record { station = after_all fresh_station cs; verdict = verdict.Accepted }
recorded_run cs rs w n =
    let d = noted_calls fresh_station cs rs n in
    accepted_run rs w d.0 ∙ rw d.1
