-- Answers as docs/BENCH.md writes them: the pieces of each text. Assumes nothing.
use Rattle.std.specs.Prelude.{ℕ, List, [], ◌∷◌, ◌++◌, Float, Result, Ok, Err}
use Rattle.digits.specs.Digits.{number_text, float_text}
use Rattle.values.specs.declared.clock_speed.ClockSpeed.{ClockSpeed}
use Rattle.values.specs.declared.clock_speed.ClockSpeed.TheVariants.{SecondsPerTick, TicksPerSecond, TicksPerMinute}
use Rattle.judge.specs.Answer.{Answer, accepted, refused}
use Rattle.times.specs.declared.start_time.StartTime.{StartTime}
use Rattle.times.specs.declared.start_time.StartTime.TheVariants.{Immediate, Delayed, At}
use Rattle.times.specs.declared.time.ClockTime.{ClockTime}
use Rattle.times.specs.declared.tween.Easing.{Easing}
use Rattle.times.specs.declared.tween.Easing.TheVariants.{Linear, InPowi, OutPowi, InOutPowi}
use Rattle.values.specs.declared.value.Mapping.{Mapping}
use Rattle.values.specs.declared.value.Value.{Value}
use Rattle.values.specs.declared.value.Value.TheVariants.{Fixed, FromModulator}

-- ---- words: each with the blank that parts it from what follows, if something does

-- "Words are separated by one or more blanks, the byte 0x20 alone": one is written
abbrev pub blank : List ℕ
blank = 0x20 ∷ []

-- ":", of "SLOT:GENERATION"
abbrev pub colon : List ℕ
colon = 0x3a ∷ []

-- "spt", "tps", "tpm"
abbrev pub spt : List ℕ
spt = 0x73 ∷ 0x70 ∷ 0x74 ∷ blank

abbrev pub tps : List ℕ
tps = 0x74 ∷ 0x70 ∷ 0x73 ∷ blank

abbrev pub tpm : List ℕ
tpm = 0x74 ∷ 0x70 ∷ 0x6d ∷ blank

-- "lin", "in", "out", "io"
abbrev pub lin : List ℕ
lin = 0x6c ∷ 0x69 ∷ 0x6e ∷ []

abbrev pub in_word : List ℕ
in_word = 0x69 ∷ 0x6e ∷ blank

abbrev pub out_word : List ℕ
out_word = 0x6f ∷ 0x75 ∷ 0x74 ∷ blank

abbrev pub io_word : List ℕ
io_word = 0x69 ∷ 0x6f ∷ blank

-- "imm", "del", "clk"
abbrev pub imm : List ℕ
imm = 0x69 ∷ 0x6d ∷ 0x6d ∷ []

abbrev pub del : List ℕ
del = 0x64 ∷ 0x65 ∷ 0x6c ∷ blank

abbrev pub clk : List ℕ
clk = 0x63 ∷ 0x6c ∷ 0x6b ∷ blank

-- "fix", "mod"
abbrev pub fix_word : List ℕ
fix_word = 0x66 ∷ 0x69 ∷ 0x78 ∷ blank

abbrev pub mod_word : List ℕ
mod_word = 0x6d ∷ 0x6f ∷ 0x64 ∷ blank

-- "refused"
abbrev pub refused_word : List ℕ
refused_word = 0x72 ∷ 0x65 ∷ 0x66 ∷ 0x75 ∷ 0x73 ∷ 0x65 ∷ 0x64 ∷ blank

-- ---- texts of several pieces

-- "ID: SLOT:GENERATION, each decimal, up to 4294967295"
abbrev pub id_text : ℕ → ℕ → List (List ℕ)
id_text slot generation = number_text slot ∷ colon ∷ number_text generation ∷ []

-- "F: 16 lower-case hex digits, a double's bits"
abbrev pub float_pieces : Float → List (List ℕ)
float_pieces x = float_text x ∷ []

-- "SPEED: spt F | tps F | tpm F"
abbrev pub speed_text : ClockSpeed → List (List ℕ)
speed_text (SecondsPerTick x) = spt ∷ float_text x ∷ []
speed_text (TicksPerSecond x) = tps ∷ float_text x ∷ []
speed_text (TicksPerMinute x) = tpm ∷ float_text x ∷ []

-- "EASE: lin | in N | out N | io N"
abbrev pub ease_text : Easing → List (List ℕ)
ease_text Linear = lin ∷ []
ease_text (InPowi n) = in_word ∷ number_text n ∷ []
ease_text (OutPowi n) = out_word ∷ number_text n ∷ []
ease_text (InOutPowi n) = io_word ∷ number_text n ∷ []

-- a time, "N F": its whole ticks, and its fraction of one
abbrev pub time_text : ClockTime → List (List ℕ)
time_text t = number_text t.ticks ∷ blank ∷ float_text t.fraction ∷ []

-- "START: imm | del NS | clk ID N F"
abbrev pub start_text : StartTime → List (List ℕ)
start_text Immediate = imm ∷ []
start_text (Delayed ns) = del ∷ number_text ns ∷ []
start_text (At t) = clk ∷ (id_text t.clock.slot t.clock.generation ++ (blank ∷ time_text t))

-- "FMAP: F F F F EASE (in lo, in hi, out lo, out hi, easing)"
abbrev pub float_map_text : Mapping Float → List (List ℕ)
float_map_text m =
    float_text m.in_lo ∷ blank ∷ float_text m.in_hi ∷ blank ∷ float_text m.out_lo ∷ blank ∷ float_text m.out_hi ∷ blank ∷ ease_text m.easing

-- "FVAL: fix F | mod ID FMAP"
abbrev pub float_value_text : Value Float → List (List ℕ)
float_value_text (Fixed x) = fix_word ∷ float_text x ∷ []
float_value_text (FromModulator i m) = mod_word ∷ (id_text i.slot i.generation ++ (blank ∷ float_map_text m))

-- ---- whole answers: "answers each with one line"

-- "A refused call is answered `refused N`"
abbrev pub refused_text : ℕ → List (List ℕ)
refused_text n = refused_word ∷ number_text n ∷ []

-- what an answer is, by the text of the value that it answers with
abbrev pub reply_text : {A : Type 0} → (A → List (List ℕ)) → Answer A → List (List ℕ)
reply_text text (accepted x) = text x
reply_text text (refused n) = refused_text n

-- what a result says, by the number of what refuses it: `told` of the crate `judge` for any kind of refusal
abbrev pub told_by : {A R : Type 0} → (R → ℕ) → Result A R → Answer A
told_by number (Ok x) = accepted x
told_by number (Err r) = refused (number r)

-- the number of a number
abbrev pub itself : ℕ → ℕ
itself n = n
