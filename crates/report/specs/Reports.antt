-- A clock's report: six lines at the start of a buffer that the caller lends. 01, "Worked rows"; RULES, report. Assumes
-- nothing.
use Rattle.std.specs.Prelude.{ℕ, Bool, false, not, List, [], ◌∷◌, ◌++◌, ltb, length, drop, Result}
use Rattle.digits.specs.Digits.{number_text, flag_text, float_text}
use Rattle.digits.specs.Puts.{whole, line_end}
use Rattle.ticks.specs.declared.Position.{Position}
use Rattle.judge.specs.Answer.{Answer, accepted, refused, told}
use Rattle.judge.specs.Judge.{of_report, number_of, decided}
use Rattle.judge.specs.declared.Refusal.{Refusal}
use Rattle.times.specs.declared.time.ClockId.{ClockId}
use Rattle.clock.specs.OneClock.{position_of, fresh_of}
use Rattle.ids.specs.Tables.{where_is, read_found}
use Rattle.clock_table.specs.ClockTables.{clock_table}
use Rattle.clock.specs.declared.Clock.{Clock}
use Rattle.clock_table.specs.declared.Clocks.{Clocks}

-- ---- the text

-- the lines' names: slot, gen, ticking, started, ticks, fraction, each with its equals sign: RULES, report
abbrev pub slot_word : List ℕ
slot_word = 0x73 ∷ 0x6c ∷ 0x6f ∷ 0x74 ∷ 0x3d ∷ []

abbrev pub gen_word : List ℕ
gen_word = 0x67 ∷ 0x65 ∷ 0x6e ∷ 0x3d ∷ []

abbrev pub ticking_word : List ℕ
ticking_word = 0x74 ∷ 0x69 ∷ 0x63 ∷ 0x6b ∷ 0x69 ∷ 0x6e ∷ 0x67 ∷ 0x3d ∷ []

abbrev pub started_word : List ℕ
started_word = 0x73 ∷ 0x74 ∷ 0x61 ∷ 0x72 ∷ 0x74 ∷ 0x65 ∷ 0x64 ∷ 0x3d ∷ []

abbrev pub ticks_word : List ℕ
ticks_word = 0x74 ∷ 0x69 ∷ 0x63 ∷ 0x6b ∷ 0x73 ∷ 0x3d ∷ []

abbrev pub fraction_word : List ℕ
fraction_word = 0x66 ∷ 0x72 ∷ 0x61 ∷ 0x63 ∷ 0x74 ∷ 0x69 ∷ 0x6f ∷ 0x6e ∷ 0x3d ∷ []

-- a line: its name, what it tells, and LF
abbrev pub field : List ℕ → List ℕ → List (List ℕ)
field name told = name ∷ told ∷ line_end ∷ []

abbrev pub report_lines : ClockId → Bool → Bool → Position → List (List ℕ)
report_lines id ticking started p =
    field slot_word (number_text id.slot)
    ++ field gen_word (number_text id.generation)
    ++ field ticking_word (flag_text ticking)
    ++ field started_word (flag_text started)
    ++ field ticks_word (number_text p.ticks)
    ++ field fraction_word (float_text p.fraction)

-- of the clock with that id; one that is not started stands at tick 0 and fraction 0.0: RULES, unstarted-clock
abbrev pub clock_lines : ClockId → Clock → List (List ℕ)
clock_lines id c = report_lines id c.ticking (not (fresh_of c.state)) (position_of c.state)

abbrev pub report_text : ClockId → Clock → List ℕ
report_text id c = whole (clock_lines id c)

-- ---- the answer, and the buffer at exit

pub record Outcome : Type 0 where
  pub answer : Answer ℕ
  pub out : List ℕ

abbrev pub reported : Result ℕ Refusal → List ℕ → Outcome
reported r out = record { answer = told r; out = out }

-- a refused report leaves the buffer: RULES, refusal
abbrev pub unchanged : ℕ → List ℕ → Outcome
unchanged n out = record { answer = refused n; out = out }

-- the text stands at the front, and what the buffer held behind it stays: RULES, report-buffer
abbrev pub at_start : List ℕ → List ℕ → Outcome
at_start text out = record { answer = accepted (length text); out = text ++ drop (length text) out }

-- the longest report has 96 bytes: RULES, short-buffer
abbrev pub too_short : List ℕ → Bool
too_short out = ltb (length out) 96

-- the number of the lookup, where no clock lives under the id; then BUFFER: RULES, gone, never-issued and order
abbrev pub into_buffer : List ℕ → Answer (List ℕ) → Outcome
into_buffer out (refused n) = unchanged n out
into_buffer out (accepted text) = decided (number_of (of_report false false (too_short out))) (at_start text out) (λ n. unchanged n out)

unfoldable pub report_of : Clocks → ClockId → List ℕ → Outcome
report_of t id out = into_buffer out (read_found clock_table t (where_is clock_table t id) (report_text id))
