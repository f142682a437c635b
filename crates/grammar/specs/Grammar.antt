-- The grammar of docs/BENCH.md: what stands at a place of a line, and the place behind it. A line is the list of its
-- bytes. Assumes nothing.
use Rattle.std.specs.Prelude.{ℕ, ◌+◌, Bool, true, cond, not, ◌&&◌, List, [], ◌∷◌, Option, None, Some, eqb, leb, Float, length, take, drop}
use Rattle.std.specs.Float.{binary64}
use Rattle.std.specs.Float.Ieee.{of_bits}
use Rattle.text.specs.Words.{run, word_at, part_of}
pub use Rattle.text.specs.Words.{same_bytes}
use Rattle.text.specs.Numbers.{hex16_of, decimal_of}
use Rattle.text.specs.declared.Word.{Word}
use Rattle.text.specs.declared.words.Words.{Words}
use Rattle.values.specs.declared.clock_speed.ClockSpeed.{ClockSpeed}
use Rattle.values.specs.declared.clock_speed.ClockSpeed.TheVariants.{SecondsPerTick, TicksPerSecond, TicksPerMinute}
use Rattle.times.specs.Times as times
use Rattle.times.specs.declared.start_time.StartTime.{StartTime}
use Rattle.times.specs.declared.start_time.StartTime.TheVariants.{Immediate, Delayed, At}
use Rattle.times.specs.declared.time.ClockId.{ClockId}
use Rattle.times.specs.declared.time.ClockTime.{ClockTime}
use Rattle.times.specs.declared.tween.Easing.{Easing}
use Rattle.times.specs.declared.tween.Easing.TheVariants.{Linear, InPowi, OutPowi, InOutPowi}
use Rattle.values.specs.declared.value.Mapping.{Mapping}
use Rattle.values.specs.declared.value.Value.{Value}
use Rattle.values.specs.declared.value.Value.TheVariants.{Fixed, FromModulator}
use Rattle.waveform.specs.declared.Waveform.{Waveform}
use Rattle.waveform.specs.declared.Waveform.TheVariants.{Triangle, Saw, Pulse}

-- ---- words

-- what the first word at a place or behind it gives
unfoldable pub first_word : {A : Type 0} → List ℕ → ℕ → (Word → A) → A
first_word s at f = f (word_at s at)

-- whether a word is the one named
abbrev pub named : List ℕ → Word → List ℕ → Bool
named s w name = same_bytes (part_of s w) name

-- "blanks before the first and after the last word are allowed": whether they are all that is left
unfoldable pub all_blanks : List ℕ → Bool
all_blanks [] = true
all_blanks (b ∷ bs) = eqb b 0x20 && all_blanks bs

abbrev pub ended_at : List ℕ → ℕ → Bool
ended_at s at = all_blanks (drop at s)

-- the grammar's words, each by its bytes
abbrev pub «spt» : List ℕ
«spt» = 0x73 ∷ 0x70 ∷ 0x74 ∷ []

abbrev pub «tps» : List ℕ
«tps» = 0x74 ∷ 0x70 ∷ 0x73 ∷ []

abbrev pub «tpm» : List ℕ
«tpm» = 0x74 ∷ 0x70 ∷ 0x6d ∷ []

abbrev pub «lin» : List ℕ
«lin» = 0x6c ∷ 0x69 ∷ 0x6e ∷ []

abbrev pub «in» : List ℕ
«in» = 0x69 ∷ 0x6e ∷ []

abbrev pub «out» : List ℕ
«out» = 0x6f ∷ 0x75 ∷ 0x74 ∷ []

abbrev pub «io» : List ℕ
«io» = 0x69 ∷ 0x6f ∷ []

abbrev pub «imm» : List ℕ
«imm» = 0x69 ∷ 0x6d ∷ 0x6d ∷ []

abbrev pub «del» : List ℕ
«del» = 0x64 ∷ 0x65 ∷ 0x6c ∷ []

abbrev pub «clk» : List ℕ
«clk» = 0x63 ∷ 0x6c ∷ 0x6b ∷ []

abbrev pub «fix» : List ℕ
«fix» = 0x66 ∷ 0x69 ∷ 0x78 ∷ []

abbrev pub «mod» : List ℕ
«mod» = 0x6d ∷ 0x6f ∷ 0x64 ∷ []

abbrev pub «tri» : List ℕ
«tri» = 0x74 ∷ 0x72 ∷ 0x69 ∷ []

abbrev pub «saw» : List ℕ
«saw» = 0x73 ∷ 0x61 ∷ 0x77 ∷ []

abbrev pub «pul» : List ℕ
«pul» = 0x70 ∷ 0x75 ∷ 0x6c ∷ []

-- ---- what is read

-- a thing of the grammar at a place of a line, and the place behind it; none where it does not stand there
abbrev pub Read : Type 0 → Type 0
Read A = Option (A × ℕ)

-- what was read, with the place behind it
abbrev pub at_place : {A : Type 0} → Option A → ℕ → Read A
at_place (Some x) to = Some (x, to)
at_place None to = None

-- what is read, and the place behind it, go on to what is read next; where the one is none, the whole is none
abbrev pub with_read : {A B : Type 0} → B → Read A → (A → ℕ → B) → B
with_read none (Some (x, to)) next = next x to
with_read none None next = none

-- ---- numbers

-- "F: 16 lower-case hex digits, a double's bits", "a NaN pattern on input is the one NaN"
abbrev pub float_of : Option ℕ → ℕ → Read Float
float_of (Some bits) to = Some (of_bits binary64 bits, to)
float_of None to = None

unfoldable pub float_at : List ℕ → ℕ → Read Float
float_at s at = first_word s at (λ w. float_of (hex16_of (part_of s w)) w.to)

-- "N: decimal u64, no leading zeros anywhere", "NS: the same, nanoseconds"
unfoldable pub number_at : List ℕ → ℕ → Read ℕ
number_at s at = first_word s at (λ w. at_place (decimal_of (part_of s w)) w.to)

-- "decimal, up to 4294967295"
abbrev pub up_to32_bits : Option ℕ → Option ℕ
up_to32_bits (Some n) = cond (leb n 4294967295) (Some n) None
up_to32_bits None = None

unfoldable pub decimal32_of : List ℕ → Option ℕ
decimal32_of p = up_to32_bits (decimal_of p)

-- "a power over 2^32-1 is `error`"
unfoldable pub power_at : List ℕ → ℕ → Read ℕ
power_at s at = first_word s at (λ w. at_place (decimal32_of (part_of s w)) w.to)

-- "ID: SLOT:GENERATION, each decimal, up to 4294967295": what stands in a word before its first colon, and what stands
-- behind it, which is nothing where there is no colon
abbrev pub no_colon : ℕ → Bool
no_colon b = not (eqb b 0x3a)

abbrev pub id_of : Option ℕ → Option ℕ → ℕ → Option (ℕ × ℕ × ℕ)
id_of (Some slot) (Some generation) to = Some (slot, generation, to)
id_of (Some slot) None to = None
id_of None generation to = None

unfoldable pub id_in : List ℕ → ℕ → Option (ℕ × ℕ × ℕ)
id_in p to = id_of (decimal32_of (take (run no_colon p) p)) (decimal32_of (drop (run no_colon p + 1) p)) to

unfoldable pub id_at : List ℕ → ℕ → Option (ℕ × ℕ × ℕ)
id_at s at = first_word s at (λ w. id_in (part_of s w) w.to)

abbrev pub with_id : {A : Type 0} → A → Option (ℕ × ℕ × ℕ) → (ℕ → ℕ → ℕ → A) → A
with_id none (Some (slot, generation, to)) next = next slot generation to
with_id none None next = none

-- an id's two numbers, with the place behind them
abbrev pub id_behind : Option (ℕ × ℕ) → ℕ → Option (ℕ × ℕ × ℕ)
id_behind (Some (slot, generation)) to = Some (slot, generation, to)
id_behind None to = None

-- what the reader of an id answers, and the words that it leaves
abbrev pub id_left_by : Words → Option (ℕ × ℕ × ℕ) → Option (ℕ × ℕ) × Words
id_left_by ws (Some (slot, generation, to)) = (Some (slot, generation), record ws { at = to })
id_left_by ws None = (None, record ws { at = length ws.line.now })

-- ---- one thing behind another

-- "SPEED: spt F | tps F | tpm F"
unfoldable pub speed_at : List ℕ → ℕ → Read ClockSpeed
speed_at s at =
    first_word s at (λ w.
    with_read None (float_at s w.to) (λ x to.
    cond (named s w «spt») (Some (SecondsPerTick x, to))
    (cond (named s w «tps») (Some (TicksPerSecond x, to))
    (cond (named s w «tpm») (Some (TicksPerMinute x, to)) None))))

-- "EASE: lin | in N | out N | io N"
unfoldable pub ease_at : List ℕ → ℕ → Read Easing
ease_at s at =
    first_word s at (λ w.
    cond (named s w «lin») (Some (Linear, w.to))
    (with_read None (power_at s w.to) (λ n to.
    cond (named s w «in») (Some (InPowi n, to))
    (cond (named s w «out») (Some (OutPowi n, to))
    (cond (named s w «io») (Some (InOutPowi n, to)) None)))))

-- "N F": a time of a clock
unfoldable pub time_at : List ℕ → ℕ → ClockId → Read ClockTime
time_at s at clock =
    with_read None (number_at s at) (λ ticks a.
    with_read None (float_at s a) (λ fraction to.
    Some (times.time_at clock ticks fraction, to)))

-- "ID N F": a clock and a time of it
unfoldable pub clock_time_at : List ℕ → ℕ → Read ClockTime
clock_time_at s at =
    with_id None (id_at s at) (λ slot generation a.
    time_at s a (record { slot = slot; generation = generation }))

-- "del NS", behind its first word
unfoldable pub delay_at : List ℕ → ℕ → Read StartTime
delay_at s at = with_read None (number_at s at) (λ ns to. Some (Delayed ns, to))

-- "START: imm | del NS | clk ID N F"
unfoldable pub start_at : List ℕ → ℕ → Read StartTime
start_at s at =
    first_word s at (λ w.
    cond (named s w «imm») (Some (Immediate, w.to))
    (cond (named s w «del») (delay_at s w.to)
    (cond (named s w «clk») (with_read None (clock_time_at s w.to) (λ t to. Some (At t, to))) None)))

-- ---- mappings and values, whose ends are read in one way: of doubles by F, of speeds by SPEED

-- "F F END END EASE (in lo, in hi, out lo, out hi, easing)"
unfoldable pub mapping_at : {A : Type 0} → (List ℕ → ℕ → Read A) → List ℕ → ℕ → Read (Mapping A)
mapping_at end s at =
    with_read None (float_at s at) (λ inLo a.
    with_read None (float_at s a) (λ inHi b.
    with_read None (end s b) (λ outLo c.
    with_read None (end s c) (λ outHi d.
    with_read None (ease_at s d) (λ easing to.
    Some (record { in_lo = inLo; in_hi = inHi; out_lo = outLo; out_hi = outHi; easing = easing }, to))))))

-- "FMAP: F F F F EASE (in lo, in hi, out lo, out hi, easing)"
abbrev pub float_map_at : List ℕ → ℕ → Read (Mapping Float)
float_map_at = mapping_at float_at

-- "SMAP: F F SPEED SPEED EASE (in lo, in hi, out lo, out hi, easing)"
abbrev pub speed_map_at : List ℕ → ℕ → Read (Mapping ClockSpeed)
speed_map_at = mapping_at speed_at

-- "fix END | mod ID MAP"
unfoldable pub value_at : {A : Type 0} → (List ℕ → ℕ → Read A) → List ℕ → ℕ → Read (Value A)
value_at end s at =
    first_word s at (λ w.
    cond (named s w «fix») (with_read None (end s w.to) (λ x to. Some (Fixed x, to)))
    (cond (named s w «mod»)
    (with_id None (id_at s w.to) (λ slot generation a.
    with_read None (mapping_at end s a) (λ m to.
    Some (FromModulator (record { slot = slot; generation = generation }) m, to))))
    None))

-- "FVAL: fix F | mod ID FMAP"
abbrev pub float_value_at : List ℕ → ℕ → Read (Value Float)
float_value_at = value_at float_at

-- "SVAL: fix SPEED | mod ID SMAP"
abbrev pub speed_value_at : List ℕ → ℕ → Read (Value ClockSpeed)
speed_value_at = value_at speed_at

-- "WAVE: tri | saw | pul F"
unfoldable pub wave_at : List ℕ → ℕ → Read Waveform
wave_at s at =
    first_word s at (λ w.
    cond (named s w «tri») (Some (Triangle, w.to))
    (cond (named s w «saw») (Some (Saw, w.to))
    (cond (named s w «pul») (with_read None (float_at s w.to) (λ width to. Some (Pulse width, to))) None)))
