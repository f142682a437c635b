-- The report of a clock that lives, in the buffer: one under 96 bytes is refused, and in any other the lines stand
-- whole at the start, and every later byte is as before. RULES, report-buffer. Assumes nothing.
use Prim.Native.Nat.{ℕ, ◌<◌, ◌≤◌}
use native.Mathlib.Nat.{zero-add}
use native.Mathlib.Omega.{arith}
use mathlib.Core.Path.{◌≡◌, sym, ap, ◌∙◌}
use mathlib.Core.List.{List, ◌++◌}
use lib.ListN.{length, drop}
use lib.Seq.{take-length}
use borrow.Author.Tests.{lt-ltb, le-ltb}
use Rattle.digits.specs.Puts.{Put, place, put_all, whole}
use Rattle.digits.proofs.Room.{room}
use Rattle.digits.proofs.Pieces.{whole_fits}
use Rattle.std.specs.Prelude.{Ok, Err}
use Rattle.judge.specs.Answer.{accepted}
use Rattle.judge.specs.Judge.{number_of}
use Rattle.judge.specs.declared.Refusal.TheVariants.{Buffer}
use Rattle.times.specs.declared.time.ClockId.{ClockId}
use Rattle.clock.specs.declared.Clock.{Clock}
use Rattle.report.specs.Reports.{clock_lines, report_text, reported, at_start, into_buffer}

-- a text that fits, put at the start
module _ (texts : List (List ℕ)) (out : List ℕ) (fits : length (whole texts) ≤ length out) where
  put_first : put_all (place out 0) texts ≡ place (whole texts ++ drop (length (whole texts)) out) (length (whole texts))
  put_first =
      whole_fits texts out 0 (omega arith)
      ∙ sym (room out 0 (whole texts) (omega arith))
      ∙ rw (zero-add (length (whole texts)), take-length (whole texts))

  pub at_start_lem : {o : List ℕ} {n : ℕ} → place o n ≡ put_all (place out 0) texts → reported (Ok n) o ≡ at_start (whole texts) out
  at_start_lem e = ap (λ (p : Put). reported (Ok p.at) p.out) (e ∙ put_first)

module _ (id : ClockId) (c : Clock) (out : List ℕ) where
  -- BUFFER
  pub too_small : length out < 96 → reported (Err Buffer) out ≡ into_buffer out (accepted (report_text id c))
  unfolding number_of
  too_small h = rw (lt-ltb (length out) 96 h)

  pub written :
      {o : List ℕ} {n : ℕ} → 96 ≤ length out → length (report_text id c) ≤ 96 → place o n ≡ put_all (place out 0) (clock_lines id c)
      → reported (Ok n) o ≡ into_buffer out (accepted (report_text id c))
  unfolding number_of
  written h l e = at_start_lem (clock_lines id c) out (omega (arith, l)) e ∙ rw (le-ltb (length out) 96 h)
