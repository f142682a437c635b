-- Where a clock stands in the course of a run, as a whole number: what a turn on the grid adds to it, and what a turn
-- leaves of a clock that does not tick. RULES, clock-update and whole-ticks. Assumes nothing.
use Prim.Native.Nat.{ℕ, ◌+◌, ◌-◌, ◌*◌, ◌/◌, ◌%◌, ◌^◌, ◌≤◌, ◌<◌}
use native.Mathlib.Nat.{add-mul, mul_assoc}
use native.Mathlib.Omega.{arith}
use mathlib.Core.Path.{◌≡◌, refl, sym, ap, ◌∙◌, subst}
use mathlib.Core.Bool.{Bool, true, false, ◌||◌}
use lib.IntN.{pos}
use lib.Ieee.{Float, fin, binary64, add, lt, le}
use lib.Ieee.Fits.{add-fits}
use Rattle.doubles.specs.Doubles.{one_f, scaled}
use Rattle.ticks.specs.WholeTicks.{taken_of}
use Rattle.ticks.specs.declared.Position.{Position}
use Rattle.times.specs.Times.{place_at}
use Rattle.judge.specs.Answer.{Answer, accepted, refused}
use Rattle.judge.specs.Judge.{number_of}
use Rattle.values.specs.Speeds.{speed_tweens}
use Rattle.values.specs.declared.clock_speed.ClockSpeed.{ClockSpeed}
use Rattle.parameter.specs.Parameters.{update_of}
use Rattle.parameter.specs.declared.Parameter.{Parameter}
use Rattle.info.specs.ParametersIn.{parameter_due_of, source_of}
use Rattle.clock.specs.OneClock.{Ticked, position_of, fresh_of, advance_of, sum_of, no_report, moved_to, by_turn, tick_of, update_clock_of}
use Rattle.clock.specs.declared.Clock.{Clock}
use Rattle.clock.specs.declared.ClockState.TheVariants.{Started}
use Rattle.station.specs.Turns.{turn_clock}
use Rattle.laws.proofs.lemmas.OneTurn.{Turned}
use Rattle.demands.proofs.lemmas.Exact.{Parts, parts_scaled, OnGrid, add_parts, took}

-- ---- a time on the grid

-- ticks and a fraction of whole parts of 2^-32, n from the start
pub record Standing (p : Position) (n : ℕ) : Type 0 where
  pub part : ℕ
  pub parts : Parts p.fraction false part
  pub short : part < 2 ^ 32
  pub room : p.ticks ≤ 2 ^ 64 - 1
  pub place : place_at p.ticks p.fraction ≡ n

place_is : (t : ℕ) (f : Float) (k : ℕ) → Parts f false k → place_at t f ≡ (t * 2 ^ 32 + k) * 2 ^ 1042
place_is t f k v =
    ap (λ (z : ℕ). t * 2 ^ 1074 + z) (parts_scaled f false k v)
    ∙ ap (λ (z : ℕ). z + k * 2 ^ 1042) (sym (mul_assoc t (2 ^ 32) (2 ^ 1042)))
    ∙ sym (add-mul (t * 2 ^ 32) k (2 ^ 1042))

-- whole ticks off the sum of the fraction and an advance
pub moved : (p to : Position) (n : ℕ) (x : Float) → Standing p n → OnGrid x → taken_of p.ticks (add binary64 p.fraction x) ≡ accepted to → Standing to (n + scaled x)
moved p to n x s g e =
    let a = s.part in
    let b = g.count in
    let l : a < 2 ^ 32 = s.short in
    let f : b ≤ 65536 * 2 ^ 32 = g.few in
    let k : a + b < 2 ^ 53 = omega arith in
    let r = took p.ticks (a + b) (add binary64 p.fraction x) to s.room (add-fits binary64 p.fraction x) (add_parts p.fraction x _ a b s.parts g.parts g.side k) k e in
    let t : to.ticks ≡ p.ticks + (a + b) / 2 ^ 32 = r.ticks in
    let count : to.ticks * 2 ^ 32 + (a + b) % 2 ^ 32 ≡ p.ticks * 2 ^ 32 + a + b = omega arith in
    record {
      part = (a + b) % 2 ^ 32;
      parts = r.part;
      short = omega arith;
      room = r.room;
      place =
          place_is to.ticks to.fraction ((a + b) % 2 ^ 32) r.part
          ∙ ap (λ (z : ℕ). z * 2 ^ 1042) count
          ∙ add-mul (p.ticks * 2 ^ 32 + a) b (2 ^ 1042)
          ∙ ap (λ (z : ℕ). z + b * 2 ^ 1042) (sym (place_is p.ticks p.fraction a s.parts) ∙ s.place)
          ∙ ap (λ (z : ℕ). n + z) (sym g.size);
    }

-- ---- a turn

-- what a turn by dt makes of a clock that ticks
pub record Ticks (dt : Float) (c d : Clock) : Type 0 where
  pub ticking : d.ticking ≡ true
  pub to : Position
  pub state : d.state ≡ Started to
  pub taken : taken_of (position_of c.state).ticks (sum_of d.speed c.state dt) ≡ accepted to

module _ (dt : Float) (c d : Clock) (t : Turned dt c d) where
  -- the speed first
  abbrev speed : Parameter ClockSpeed
  speed = (update_of speed_tweens c.speed dt (parameter_due_of t.seen c.speed) (source_of t.seen c.speed)).parameter

  pub ticks : c.ticking ≡ true → Ticks dt c d
  unfolding turn_clock update_clock_of tick_of number_of
  ticks h = far (lt (fin false 1 (pos 16)) (advance_of speed dt)) (rw h at t.is)
    where
      told : Bool
      told = fresh_of c.state || le one_f (sum_of speed c.state dt)

      by : (w : Answer Position) → taken_of (position_of c.state).ticks (sum_of speed c.state dt) ≡ w → by_turn speed told false w ≡ accepted (record { clock = d; report = t.report }) → Ticks dt c d
      by (refused n) e i = absurd (cc)
      by (accepted to) e i =
          let r : moved_to speed told to ≡ record { clock = d; report = t.report } = cc in
          subst (Ticks dt c) (ap (λ (q : Ticked). q.clock) r) (record { ticking = refl; to = to; state = refl; taken = e })

      far :
          (b : Bool) → by_turn speed told b (taken_of (position_of c.state).ticks (sum_of speed c.state dt)) ≡ accepted (record { clock = d; report = t.report })
          → Ticks dt c d
      far true i = absurd (cc)
      far false i = by (taken_of (position_of c.state).ticks (sum_of speed c.state dt)) refl i

  -- a clock that does not tick has no more of an update than its speed's: RULES, clock-update
  pub rests : c.ticking ≡ false → (d.ticking ≡ false) × (d.state ≡ c.state)
  unfolding turn_clock update_clock_of
  rests h =
      let now : Clock = record { ticking = false; speed = speed; state = c.state } in
      let was : Ticked = record { clock = now; report = no_report } in
      let i : accepted was ≡ accepted (record { clock = d; report = t.report }) = rw h at t.is in
      let r : was ≡ record { clock = d; report = t.report } = cc in
      let e : now ≡ d = ap (λ (q : Ticked). q.clock) r in
      (sym (ap (λ (q : Clock). q.ticking) e), sym (ap (λ (q : Clock). q.state) e))
