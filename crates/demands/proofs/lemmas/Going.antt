-- A clock that was started, and that no call stops, resets or removes, goes on through every call, on the grid, by the
-- advance of each accepted frame and by nothing else. RULES, exact-sum. Assumes nothing.
use Prim.Native.Nat.{ℕ, ◌+◌, ◌<◌}
use native.Mathlib.Decide.{ℕ_discrete}
use native.Mathlib.Nat.{add-zero}
use native.Mathlib.Omega.{arith}
use mathlib.Core.Path.{◌≡◌, refl, sym, ap, ◌∙◌, subst}
use mathlib.Core.Bool.{true, false, true≢false}
use mathlib.Core.List.{[], ◌∷◌}
use lib.Dec.{lit<}
use lib.Ieee.{Float}
use lib.Ieee.Fits.{mul-fits}
use borrow.Author.Tests.{eq-eqb, ne_eqb}
use Rattle.doubles.specs.Doubles.{zero_f, scaled}
use Rattle.values.specs.Speeds.{tps_of}
use Rattle.times.specs.declared.time.ClockId.{ClockId}
use Rattle.clock.specs.OneClock.{position_of, advance_of}
use Rattle.clock.specs.declared.Clock.{Clock}
use Rattle.clock.specs.declared.ClockState.{ClockState}
use Rattle.commands.specs.ClockCommands.{run_clock_of}
use Rattle.commands.specs.declared.clock_command.ClockCommand.{ClockCommand}
use Rattle.commands.specs.declared.clock_command.ClockCommand.TheVariants as command
use Rattle.station.specs.Frames.{frame_of}
use Rattle.station.specs.declared.Station.{Station}
use Rattle.laws.specs.Calls.{Call, clock, modulator, frame, after}
use Rattle.laws.specs.SoundStation.{All}
use Rattle.laws.proofs.lemmas.Entries.{Names, names_of, names_read}
use Rattle.laws.proofs.lemmas.OneClock.{Makes, leaves, starts, stops, resets, speeds, Made, command_makes}
use Rattle.laws.proofs.lemmas.OneTurn.{frame_turns, frame_refused}
use Rattle.demands.specs.Events.{advance_in, total}
use Rattle.demands.specs.Served.{Fresh, started, same_id, halts_by, halts, Grid}
use Rattle.demands.proofs.lemmas.Exact.{on_grid}
use Rattle.demands.proofs.lemmas.Standing.{Standing, moved, Ticks, ticks}

-- the clock of the id ticks, n from its start
pub record Going (st : Station) (id : ClockId) (n : ℕ) : Type 0 where
  pub slot : id.slot < 16
  pub clock : Clock
  pub names : Names st.clocks id clock
  pub ticking : clock.ticking ≡ true
  pub standing : Standing (position_of clock.state) n

own_id : (id : ClockId) → same_id id id ≡ true
own_id id = rw (eq-eqb id.slot id.slot refl, eq-eqb id.generation id.generation refl)

-- ---- commands

module _ (st : Station) (id : ClockId) (n : ℕ) (g : Going st id n) where
  command_goes : (x : ClockCommand) → halts_by id x ≡ false → Going (after st (clock x)) id n
  command_goes x h = go x h (command_makes st id g.clock g.names x (λ e. true≢false (sym (ap (halts_by id) e ∙ own_id id) ∙ h)))
    where
      by : (d : Clock) (x : ClockCommand) → halts_by id x ≡ false → Makes id g.clock x d → (d.ticking ≡ true) × (d.state ≡ g.clock.state)
      by d x h (leaves y n) = (g.ticking, refl)
      by d x h starts = (refl, refl)
      by d x h stops = absurd (true≢false (sym (own_id id) ∙ h))
      by d x h resets = absurd (true≢false (sym (own_id id) ∙ h))
      by d x h (speeds v w p) = (g.ticking, refl)

      go : (x : ClockCommand) → halts_by id x ≡ false → Made (run_clock_of st.clocks x).table id g.clock x → Going (after st (clock x)) id n
      go x h m =
          let r = by m.now x h m.by in
          record {
            slot = g.slot;
            clock = m.now;
            names = m.names;
            ticking = r.0;
            standing = subst (λ (s : ClockState). Standing (position_of s) n) (sym r.1) g.standing;
          }

  -- ---- frames

  frame_goes : (dt : Float) → All Grid (advance_in id st (frame dt)) → Going (after st (frame dt)) id (n + total (advance_in id st (frame dt)))
  unfolding advance_in total
  frame_goes dt a = go (ℕ_discrete (frame_of st dt).refused 0) a
    where
      nothing : advance_in id st (frame dt) ≡ [] → Going (frame_of st dt).station id n → Going (frame_of st dt).station id (n + total (advance_in id st (frame dt)))
      nothing e k = rw (e, add-zero n) k

      advance : (d : Clock) → (frame_of st dt).refused ≡ 0 → Names (frame_of st dt).station.clocks id d → advance_in id st (frame dt) ≡ advance_of d.speed dt ∷ []
      advance d e k = rw (eq-eqb (frame_of st dt).refused 0 e, names_read (frame_of st dt).station.clocks id d k (λ c. c))

      ticked : (d : Clock) → Names (frame_of st dt).station.clocks id d → Ticks dt g.clock d → Grid (advance_of d.speed dt) → Going (frame_of st dt).station id (n + scaled (advance_of d.speed dt))
      ticked d k t a = record {
        slot = g.slot;
        clock = d;
        names = k;
        ticking = t.ticking;
        standing =
            subst (λ (s : ClockState). Standing (position_of s) (n + scaled (advance_of d.speed dt))) (sym t.state)
            (moved (position_of g.clock.state) t.to n (advance_of d.speed dt) g.standing (on_grid (advance_of d.speed dt) (mul-fits _ (tps_of d.speed.raw) dt) a) t.taken);
      }

      go : Dec ((frame_of st dt).refused ≡ 0) → All Grid (advance_in id st (frame dt)) → Going (frame_of st dt).station id (n + total (advance_in id st (frame dt)))
      go (no r) a = nothing (rw (ne_eqb (frame_of st dt).refused 0 r)) (rw (frame_refused st dt r) g)
      go (yes e) a =
          let m = frame_turns st dt id g.clock g.names g.slot e in
          let is = advance m.now e m.names in
          rw (is, add-zero (scaled (advance_of m.now.speed dt))) (ticked m.now m.names (ticks dt g.clock m.now m.turned g.ticking) (rw is at a).0)

  -- ---- every call

  pub call_goes : (c : Call) → halts id c ≡ false → All Grid (advance_in id st c) → Going (after st c) id (n + total (advance_in id st c))
  unfolding advance_in total
  call_goes (clock x) h a = rw (add-zero n) (command_goes x h)
  call_goes (modulator x) h a = rw (add-zero n) (record { slot = g.slot; clock = g.clock; names = g.names; ticking = g.ticking; standing = g.standing })
  call_goes (frame dt) h a = frame_goes dt a

-- ---- the start

at_start_lem : Standing (record { ticks = 0; fraction = zero_f }) 0
unfolding scaled
at_start_lem = record { part = 0; parts = (refl, refl); short = lit< tt; room = omega arith; place = refl }

pub start_goes : (st : Station) (id : ClockId) → Fresh st id → Going (started st id) id 0
start_goes st id f = go (command_makes st id f.clock (names_of st.clocks id f.clock f.lives) (command.Start id) (λ e. cc))
  where
    by : (x : ClockCommand) (d : Clock) → x ≡ command.Start id → Makes id f.clock x d → (d.ticking ≡ true) × (d.state ≡ f.clock.state)
    by x d e (leaves y n) = absurd (n (rw e refl))
    by x d e starts = (refl, refl)
    by x d e stops = absurd (cc)
    by x d e resets = absurd (cc)
    by x d e (speeds v w p) = absurd (cc)

    go : Made (run_clock_of st.clocks (command.Start id)).table id f.clock (command.Start id) → Going (started st id) id 0
    go m =
        let r = by (command.Start id) m.now refl m.by in
        record {
          slot = f.slot;
          clock = m.now;
          names = m.names;
          ticking = r.0;
          standing = subst (λ (s : ClockState). Standing (position_of s) 0) (sym (r.1 ∙ f.unstarted)) at_start_lem;
        }
