-- An accepted frame gives the clock of an id that lives exactly one turn, and a refused one none. RULES, frame-order
-- and frame-refused. Assumes nothing.
use Prim.Native.Nat.{ℕ, zero, suc, ◌+◌, ◌≤◌, ◌<◌}
use native.Mathlib.Decide.{ℕ_discrete}
use native.Mathlib.Omega.{arith}
use mathlib.Core.Path.{◌≡◌, refl, subst}
use mathlib.Core.Bool.{true, cond, false≢true}
use mathlib.Core.List.{List, [], ◌∷◌}
use lib.Ieee.{Float}
use borrow.Author.Tests.{ne_eqb}
use Rattle.ids.specs.Keys.{used_at}
use Rattle.ids.specs.Lists.{read_at}
use Rattle.ids.specs.declared.Key.{Key}
use Rattle.judge.specs.Answer.{accepted}
use Rattle.times.specs.declared.time.ClockId.{ClockId}
use Rattle.info.specs.declared.info.Info.{Info}
use Rattle.clock.specs.declared.Clock.{Clock}
use Rattle.std.specs.Prelude.{Option}
use Rattle.clock_table.specs.declared.Clocks.{Clocks}
use Rattle.station.specs.Frames.{Try, went, watching, placed, then, clock_turn, clock_turns, frame_of}
use Rattle.station.specs.Turns.{turn_clock}
use Rattle.station.specs.declared.Station.{Station}
use Rattle.laws.specs.Calls.{frame}
use Rattle.laws.proofs.Refusals.{refused_leaves}
use Rattle.laws.proofs.lemmas.Cases.{turn_case, Ends, next, weaker, turn_any, turned_clocks, frame_case}
use Rattle.laws.proofs.lemmas.Entries.{Holds, holds_read, holds_same, holds_other, lives_used, Names}

-- ---- one turn

-- d is what a turn by dt makes of c, whatever it sees
pub record Turned (dt : Float) (c d : Clock) : Type 0 where
  pub seen : Info
  pub report : Option ℕ
  pub is : turn_clock seen c dt ≡ accepted (record { clock = d; report = report })

-- the clock of the id behind it
pub record Goes (t : Clocks) (id : ClockId) (c : Clock) (dt : Float) : Type 0 where
  pub now : Clock
  pub names : Names t id now
  pub turned : Turned dt c now

-- ---- the turns so far

-- the clock in slot j has had its turn
record Gets (dt : Float) (c : Clock) (j : ℕ) (ds : List Clock) : Type 0 where
  now : Clock
  holds : Holds ds j now
  turned : Turned dt c now

used_read : {B : Type 0} (n x : B) (ks : List Key) (i : ℕ) → used_at ks i ≡ true → read_at n (λ k. cond k.used x n) ks i ≡ x
unfolding read_at
used_read n x [] i u = absurd (false≢true u)
used_read n x (k ∷ ks) zero u = rw u
used_read n x (k ∷ ks) (suc i) u = used_read n x ks i u

module _ (info : Info) (dt : Float) (keys : List Key) where
  turn_own : (i : ℕ) (cs : List Clock) (rs : List (Option ℕ)) (c : Clock) → used_at keys i ≡ true → Holds cs i c → Ends (Gets dt c i) (clock_turn info dt keys i cs rs)
  turn_own i cs rs c u h =
      rw (used_read (went cs rs) (read_at (went cs rs) turn cs i) keys i u, holds_read (went cs rs) turn cs i c h)
      (turn_case (watching info cs) c dt (λ m. turn_clock (watching info cs) c dt ≡ m → Ends (Gets dt c i) (placed i cs rs m))
      (λ t e. record { now = t.clock; holds = holds_same cs i c t.clock h; turned = record { seen = watching info cs; report = t.report; is = e } }) (λ n y e. y) refl)
    where
      turn : Clock → Try
      turn c = placed i cs rs (turn_clock (watching info cs) c dt)

  turns_before : (n i : ℕ) (cs : List Clock) (rs : List (Option ℕ)) (j : ℕ) (x : Clock) → j < i → Holds cs j x → Ends (λ ds. Holds ds j x) (clock_turns info dt keys n i cs rs)
  unfolding clock_turns
  turns_before zero i cs rs j x l h = h
  turns_before (suc n) i cs rs j x l h =
      next (λ ds. Holds ds j x) (λ ds. Holds ds j x) (clock_turns info dt keys n (i + 1)) (λ ds qs k. turns_before n (i + 1) ds qs j x (omega arith) k) (clock_turn info dt keys i cs rs)
      (turn_any info dt keys i cs rs (λ ds. Holds ds j x) h (λ d. holds_other cs i j x d (λ e. omega arith) h))

  turns_own : (n i : ℕ) (cs : List Clock) (rs : List (Option ℕ)) (j : ℕ) (c : Clock) → i ≤ j → j < i + n → used_at keys j ≡ true → Holds cs j c → Ends (Gets dt c j) (clock_turns info dt keys n i cs rs)
  unfolding clock_turns
  turns_own zero i cs rs j c l m u h = absurd (omega arith)
  turns_own (suc n) i cs rs j c l m u h = go (ℕ_discrete j i) (λ ds qs k o. turns_own n (i + 1) ds qs j c (omega arith) (omega arith) u k)
    where
      -- its turn is over
      kept : (ds : List Clock) (qs : List (Option ℕ)) → j ≡ i → Gets dt c j ds → Ends (Gets dt c j) (clock_turns info dt keys n (i + 1) ds qs)
      kept ds qs e k =
          weaker (λ ds. Holds ds j k.now) (Gets dt c j) (λ ds q. record { now = k.now; holds = q; turned = k.turned }) (clock_turns info dt keys n (i + 1) ds qs)
          (turns_before n (i + 1) ds qs j k.now (omega arith) k.holds)

      go :
          Dec (j ≡ i) → ((ds : List Clock) (qs : List (Option ℕ)) → Holds ds j c → (j ≡ i → ⊥) → Ends (Gets dt c j) (clock_turns info dt keys n (i + 1) ds qs))
          → Ends (Gets dt c j) (then (clock_turns info dt keys n (i + 1)) (clock_turn info dt keys i cs rs))
      go (yes e) again =
          next (Gets dt c j) (Gets dt c j) (clock_turns info dt keys n (i + 1)) (λ ds qs k. kept ds qs e k) (clock_turn info dt keys i cs rs)
          (rw e (turn_own i cs rs c (rw e at u) (rw e at h)))
      go (no e) again =
          next (λ ds. Holds ds j c) (Gets dt c j) (clock_turns info dt keys n (i + 1)) (λ ds qs k. again ds qs k e) (clock_turn info dt keys i cs rs)
          (turn_any info dt keys i cs rs (λ ds. Holds ds j c) h (λ d. holds_other cs i j c d e h))

-- ---- the frame

module _ (st : Station) (dt : Float) where
  abbrev with_clocks : List Clock → Clocks
  with_clocks ds = record { keys = st.clocks.keys; clocks = ds }

  pub frame_turns : (id : ClockId) (c : Clock) → Names st.clocks id c → id.slot < 16 → (frame_of st dt).refused ≡ 0 → Goes (frame_of st dt).station.clocks id c dt
  frame_turns id c n l =
      frame_case st dt (λ r. r.refused ≡ 0 → Goes r.station.clocks id c dt) (λ h cs rs e z. subst (Ends (λ ds. Goes (with_clocks ds) id c dt)) e ends) (λ m y z. absurd (y z))
    where
      ends : Ends (λ ds. Goes (with_clocks ds) id c dt) (turned_clocks st dt)
      ends =
          weaker (Gets dt c id.slot) (λ ds. Goes (with_clocks ds) id c dt) (λ ds g. record { now = g.now; names = record { lives = n.lives; holds = g.holds }; turned = g.turned }) (turned_clocks st dt)
          (turns_own _ dt st.clocks.keys 16 0 st.clocks.clocks _ id.slot c (omega arith) (omega arith) (lives_used st.clocks.keys id.slot id.generation n.lives) n.holds)

  pub frame_refused : ((frame_of st dt).refused ≡ 0 → ⊥) → (frame_of st dt).station ≡ st
  frame_refused n = refused_leaves st (frame dt) (rw (ne_eqb (frame_of st dt).refused 0 n) n)
