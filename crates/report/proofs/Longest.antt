-- No report is longer than 96 bytes, and one is as long: RULES, report-buffer. And the one that 01 shows in "Worked
-- rows" is the report of its clock (`example`). That and `attained` stand for a reader. Assumes nothing.
use Prim.Native.Nat.{ℕ, ◌-◌, ◌^◌, ◌<◌, ◌≤◌}
use native.Mathlib.Omega.{arith}
use mathlib.Core.Path.{◌≡◌, refl}
use mathlib.Core.Bool.{not, true}
use mathlib.Core.List.{[], ◌∷◌}
use lib.Ieee.{Float, to_bits, binary64}
use lib.ListN.{length, length-append}
use Rattle.doubles.specs.Doubles.{zero_f, half_f}
use Rattle.digits.specs.Digits.{places_from, number_text, hex_text}
use Rattle.digits.proofs.Lengths.{number_exact, number_length, hex_length, flag_length}
use Rattle.values.specs.declared.clock_speed.ClockSpeed.TheVariants.{TicksPerSecond}
use Rattle.times.specs.declared.time.ClockId.{ClockId}
use Rattle.values.specs.declared.value.Value.TheVariants.{Fixed}
use Rattle.clock.specs.OneClock.{new_clock, position_of, fresh_of}
use Rattle.clock.specs.declared.Clock.{Clock}
use Rattle.clock.specs.declared.ClockState.TheVariants.{Started}
use Rattle.report.specs.Reports.{report_text}

pub longest : (id : ClockId) (c : Clock) → id.slot < 16 → id.generation < 2 ^ 32 → (position_of c.state).ticks < 2 ^ 64 → length (report_text id c) ≤ 96
longest id c s g t =
    simp length-append
    (omega (
      arith,
      number_length id.slot 2 (omega arith) (omega arith),
      number_length id.generation 10 (omega arith) (omega arith),
      flag_length c.ticking,
      flag_length (not (fresh_of c.state)),
      number_length (position_of c.state).ticks 20 (omega arith) (omega arith),
      hex_length (to_bits binary64 (position_of c.state).fraction),
    ))

-- ---- a ticking clock at a time

abbrev pub clock_at : ℕ → Float → Clock
clock_at ticks fraction = record {
  ticking = true;
  speed = (new_clock (Fixed (TicksPerSecond zero_f))).speed;
  state = Started (record { ticks = ticks; fraction = fraction });
}

abbrev pub id_of : ℕ → ℕ → ClockId
id_of slot generation = record { slot = slot; generation = generation }

-- the last slot, the last generation, the last tick
pub attained : length (report_text (id_of 15 4294967295) (clock_at (2 ^ 64 - 1) half_f)) ≡ 96
attained =
    simp length-append
    (omega (
      arith,
      number_exact 15 2 (omega arith, omega arith, λ _. omega arith),
      number_exact 4294967295 10 (omega arith, omega arith, λ _. omega arith),
      number_exact (2 ^ 64 - 1) 20 (omega arith, omega arith, λ _. omega arith),
      hex_length (to_bits binary64 half_f),
    ))

-- 01's own report: slot 2 in its first generation, ticking, started, at 3.5 ticks
pub example :
    report_text (id_of 2 1) (clock_at 3 half_f)
    ≡ 0x73 ∷ 0x6c ∷ 0x6f ∷ 0x74 ∷ 0x3d ∷ 0x32 ∷ 0x0a
    ∷ 0x67 ∷ 0x65 ∷ 0x6e ∷ 0x3d ∷ 0x31 ∷ 0x0a
    ∷ 0x74 ∷ 0x69 ∷ 0x63 ∷ 0x6b ∷ 0x69 ∷ 0x6e ∷ 0x67 ∷ 0x3d ∷ 0x31 ∷ 0x0a
    ∷ 0x73 ∷ 0x74 ∷ 0x61 ∷ 0x72 ∷ 0x74 ∷ 0x65 ∷ 0x64 ∷ 0x3d ∷ 0x31 ∷ 0x0a
    ∷ 0x74 ∷ 0x69 ∷ 0x63 ∷ 0x6b ∷ 0x73 ∷ 0x3d ∷ 0x33 ∷ 0x0a
    ∷ 0x66 ∷ 0x72 ∷ 0x61 ∷ 0x63 ∷ 0x74 ∷ 0x69 ∷ 0x6f ∷ 0x6e ∷ 0x3d
    ∷ 0x33 ∷ 0x66 ∷ 0x65 ∷ 0x30 ∷ 0x30 ∷ 0x30 ∷ 0x30 ∷ 0x30 ∷ 0x30 ∷ 0x30 ∷ 0x30 ∷ 0x30 ∷ 0x30 ∷ 0x30 ∷ 0x30 ∷ 0x30 ∷ 0x0a ∷ []
unfolding number_text places_from hex_text to_bits
example = refl
