-- The number by which a frame is refused: that of the first clock, in slot order, that goes too far or is full. 01,
-- "Refusal numbers"; RULES, frame-refused. Assumes nothing.
use Prim.Native.Nat.{ℕ, zero, suc, ◌+◌}
use mathlib.Core.Path.{◌≡◌, refl, ◌∙◌}
use mathlib.Core.Bool.{Bool, true, false, ◌&&◌, ◌||◌, cond}
use mathlib.Core.List.{List, [], ◌∷◌}
use lib.IntN.{pos}
use lib.Dec.{eqb}
use lib.Ieee.{Float, fin, lt, le}
use borrow.Author.Tests.{eqb-true}
use Rattle.std.specs.Prelude.{Option}
use Rattle.doubles.specs.Doubles.{one_f}
use Rattle.ids.specs.Lists.{read_at}
use Rattle.ids.specs.declared.Key.{Key}
use Rattle.ticks.specs.WholeTicks.{taken_of}
use Rattle.ticks.specs.declared.Position.{Position}
use Rattle.judge.specs.Answer.{Answer, accepted, refused, is_refused}
use Rattle.judge.specs.Numbers.{TOO_FAR, TICKS_FULL}
use Rattle.judge.specs.Judge.{dt_faults, number_of, first_fault}
use Rattle.info.specs.declared.info.Info.{Info}
use Rattle.values.specs.declared.clock_speed.ClockSpeed.{ClockSpeed}
use Rattle.parameter.specs.declared.Parameter.{Parameter}
use Rattle.clock.specs.OneClock.{position_of, fresh_of, advance_of, sum_of, sped_of, no_report, by_turn, tick_of, update_clock_of}
use Rattle.clock.specs.declared.Clock.{Clock}
use Rattle.modulator_table.specs.declared.Modulators.{Modulators}
use Rattle.station.specs.Frames.{Try, went, stopped, seeing, watching, turned, modulators_turned, placed, then, clock_turn, clock_turns, closed, clocks_turned, no_reports, Framed, undone_of, framed, frame_of}
use Rattle.station.specs.Stations.{info_in}
use Rattle.station.specs.Turns.{turn_clock}
use Rattle.station.specs.declared.Station.{Station}
use Rattle.demands.specs.Conditions.{sped_in, too_far_in, ticks_full_in, slot_in, onward, lowest_in, in_frame}

-- ---- one slot's turn

-- it goes, with neither in the way; or it stops, by TOO_FAR where the advance is so, whatever the ticks, and else by
-- TICKS_FULL
data Turn : Try → Bool → Bool → Type 0 where
  goes : (cs : List Clock) (rs : List (Option ℕ)) → Turn (went cs rs) false false
  far : (b : Bool) → Turn (stopped TOO_FAR) true b
  full : Turn (stopped TICKS_FULL) false true

-- what is read of one slot by three readers
read_three :
    {A B C D : Type 0} (P : B → C → D → Type 0) (p : B) (q : C) (r : D) (f : A → B) (g : A → C) (h : A → D) → P p q r → ((x : A) → P (f x) (g x) (h x))
    → (l : List A) (i : ℕ) → P (read_at p f l i) (read_at q g l i) (read_at r h l i)
unfolding read_at
read_three P p q r f g h n s [] i = n
read_three P p q r f g h n s (x ∷ l) zero = s x
read_three P p q r f g h n s (x ∷ l) (suc i) = read_three P p q r f g h n s l i

module _ (info : Info) (dt : Float) (keys : List Key) where
  module _ (i : ℕ) (cs : List Clock) (rs : List (Option ℕ)) where
    clock_turn_lem : (c : Clock) → Turn (placed i cs rs (turn_clock (watching info cs) c dt)) (too_far_in (watching info cs) c dt) (ticks_full_in (watching info cs) c dt)
    unfolding turn_clock update_clock_of tick_of number_of
    clock_turn_lem c = ticks c.ticking
      where
        speed : Parameter ClockSpeed
        speed = sped_in (watching info cs) c dt

        took : Answer Position
        took = taken_of (position_of c.state).ticks (sum_of speed c.state dt)

        told : Bool
        told = fresh_of c.state || le one_f (sum_of speed c.state dt)

        advances : (b : Bool) (w : Answer Position) → Turn (placed i cs rs (by_turn speed told b w)) b (is_refused w)
        advances true w = far (is_refused w)
        advances false (refused n) = full
        advances false (accepted to) = goes _ _

        ticks : (b : Bool) → Turn (placed i cs rs (cond b (tick_of speed c.state dt) (accepted (record { clock = sped_of speed c; report = no_report })))) (b && lt (fin false 1 (pos 16)) (advance_of speed dt)) (b && is_refused took)
        ticks true = advances (lt (fin false 1 (pos 16)) (advance_of speed dt)) took
        ticks false = goes _ _

    slot_turn : Turn (clock_turn info dt keys i cs rs) (slot_in too_far_in info dt keys i cs) (slot_in ticks_full_in info dt keys i cs)
    slot_turn = read_three Turn (went cs rs) false false _ _ _ (goes cs rs) (λ k. used k.used) keys i
      where
        used :
            (b : Bool)
            → Turn (cond b (read_at (went cs rs) (λ c. placed i cs rs (turn_clock (watching info cs) c dt)) cs i) (went cs rs))
            (cond b (read_at false (λ c. too_far_in (watching info cs) c dt) cs i) false)
            (cond b (read_at false (λ c. ticks_full_in (watching info cs) c dt) cs i) false)
        used true = read_three Turn (went cs rs) false false _ _ _ (goes cs rs) clock_turn_lem cs i
        used false = goes cs rs

  -- ---- the turns

  abbrev number_by : Try → ℕ
  number_by (went cs rs) = 0
  number_by (stopped n) = n

  abbrev far_or_full : ℕ → ℕ → List Clock → List (Option ℕ) → ℕ
  far_or_full n i cs rs = cond (lowest_in too_far_in info dt keys n i cs rs) TOO_FAR (cond (lowest_in ticks_full_in info dt keys n i cs rs) TICKS_FULL 0)

  turns_number : (n i : ℕ) (cs : List Clock) (rs : List (Option ℕ)) → number_by (clock_turns info dt keys n i cs rs) ≡ far_or_full n i cs rs
  unfolding clock_turns lowest_in
  turns_number zero i cs rs = refl
  turns_number (suc n) i cs rs = go (clock_turn info dt keys i cs rs) _ _ (slot_turn i cs rs) (turns_number n (i + 1))
    where
      go :
          (t : Try) (a b : Bool) → Turn t a b → ((ds : List Clock) (qs : List (Option ℕ)) → number_by (clock_turns info dt keys n (i + 1) ds qs) ≡ far_or_full n (i + 1) ds qs)
          → number_by (then (clock_turns info dt keys n (i + 1)) t)
          ≡ cond (a || onward (lowest_in too_far_in info dt keys n (i + 1)) t) TOO_FAR (cond (b || onward (lowest_in ticks_full_in info dt keys n (i + 1)) t) TICKS_FULL 0)
      go t a b (goes ds qs) ih = ih ds qs
      go t a b (far c) ih = refl
      go t a b full ih = refl

-- ---- the frame

pub frame_number :
    (st : Station) (dt : Float)
    → (frame_of st dt).refused ≡ cond (eqb (first_fault (dt_faults dt)) 0) (cond (in_frame too_far_in st dt) TOO_FAR (cond (in_frame ticks_full_in st dt) TICKS_FULL 0)) (first_fault (dt_faults dt))
unfolding frame_of modulators_turned clocks_turned
frame_number st dt = go (eqb (first_fault (dt_faults dt)) 0)
  where
    seen : Info
    seen = seeing (info_in st) (turned (info_in st) dt st.modulators)

    tried : Try
    tried = clock_turns seen dt st.clocks.keys 16 0 st.clocks.clocks no_reports

    ms : Modulators
    ms = record { keys = st.modulators.keys; slots = turned (info_in st) dt st.modulators }

    undone : (n : ℕ) (r : Framed) → r.refused ≡ 0 → (b : Bool) → (b ≡ true → n ≡ 0) → (cond b r (undone_of st n)).refused ≡ n
    undone n r z true h = rw (z, h refl)
    undone n r z false h = refl

    by : (t : Try) → (framed st ms (closed st.clocks t)).refused ≡ number_by seen dt st.clocks.keys t
    by (went cs rs) = refl
    by (stopped n) = undone n (record { refused = 0; station = record { clocks = st.clocks; modulators = ms }; reports = no_reports }) refl (eqb n 0) (eqb-true n 0)

    go :
        (b : Bool) → (cond b (framed st ms (closed st.clocks tried)) (undone_of st (first_fault (dt_faults dt)))).refused
        ≡ cond b (cond (in_frame too_far_in st dt) TOO_FAR (cond (in_frame ticks_full_in st dt) TICKS_FULL 0)) (first_fault (dt_faults dt))
    go true = by tried ∙ turns_number seen dt st.clocks.keys 16 0 st.clocks.clocks no_reports
    go false = refl
