-- The reports of all clocks that live, at the start of a buffer that the caller lends. RULES, reports. Assumes nothing.
use Rattle.std.specs.Prelude.{ℕ, ◌+◌, Bool, false, cond, List, [], ◌∷◌, ◌++◌, ltb, length}
use Rattle.judge.specs.Judge.{of_report, number_of, decided}
use Rattle.times.specs.declared.time.ClockId.{ClockId}
use Rattle.ids.specs.declared.Key.{Key}
use Rattle.clock.specs.declared.Clock.{Clock}
use Rattle.clock_table.specs.declared.Clocks.{Clocks}
use Rattle.report.specs.Reports.{Outcome, clock_lines, report_text, unchanged, at_start}

-- ---- the text

-- the clock in slot i lives under this id, where the slot's key is k: RULES, reports
abbrev pub id_in : ℕ → Key → ClockId
id_in i k = record { slot = i; generation = k.generation }

-- the clocks whose keys are used, the first key being slot i's: the report of each, in front of those of the slots
-- above it, with nothing between two: RULES, reports
unfoldable pub living_from : ℕ → List Key → List Clock → List ℕ
living_from i [] cs = []
living_from i (k ∷ ks) [] = []
living_from i (k ∷ ks) (c ∷ cs) = cond k.used (report_text (id_in i k) c) [] ++ living_from (i + 1) ks cs

abbrev pub living_text : Clocks → List ℕ
living_text t = living_from 0 t.keys t.clocks

-- what one slot gives, by its lines: RULES, reports
abbrev pub slot_lines : ℕ → Key → Clock → List (List ℕ)
slot_lines i k c = cond k.used (clock_lines (id_in i k) c) []

-- ---- the answer, and the buffer at exit

-- a buffer has to hold 16 of the longest report, however many clocks live: RULES, reports
abbrev pub short_for_all : List ℕ → Bool
short_for_all out = ltb (length out) 1536

-- BUFFER is the only refusal: RULES, reports
unfoldable pub all_reports_of : Clocks → List ℕ → Outcome
all_reports_of t out = decided (number_of (of_report false false (short_for_all out))) (at_start (living_text t) out) (λ n. unchanged n out)
