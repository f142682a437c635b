-- Document 01, "start_time.rs" and "tween.rs": durations and delays, which are whole nanoseconds, and their seconds:
-- RULES, duration. `fin s m e` is m * up e / down e in size, and `closest a b` the whole number nearest to a / b, a
-- tie to the even one. Assumes nothing.
use Rattle.std.specs.Prelude.{ℕ, ◌-◌, ◌*◌, ◌/◌, ◌%◌, ◌^◌, min, true, false, cond, pos, Float}
use Rattle.std.specs.Float.{nan, inf, fin, binary64}
use Rattle.std.specs.Float.Ieee.{up, down, add, div, of_int}
use Rattle.std.specs.Float.Ieee.Nearest.{closest}
use Rattle.judge.specs.Answer.{Answer, accepted}
use Rattle.judge.specs.Judge.{span_faults, judged}

-- the exact value of dt in nanoseconds, rounded, and at most what a u64 holds; 0 for a NaN and behind a minus sign.
-- Which dt a call accepts is for the judgement alone to say: RULES, dt-to-nanoseconds
unfoldable pub nanos_of : Float → ℕ
nanos_of nan = 0
nanos_of (inf s) = cond s 0 (2 ^ 64 - 1)
nanos_of (fin true m e) = 0
nanos_of (fin false m e) = min (closest (m * up e * 1000000000) (down e)) (2 ^ 64 - 1)

-- the full seconds, and the nanoseconds that remain over 1e9, as two doubles that are added: RULES, duration-seconds
unfoldable pub seconds_of : ℕ → Float
seconds_of n = add binary64 (of_int binary64 (pos (n / 1000000000))) (div binary64 (of_int binary64 (pos (n % 1000000000))) (of_int binary64 (pos 1000000000)))

unfoldable pub try_seconds_of : ℕ → Answer Float
try_seconds_of n = judged (span_faults n) (accepted (seconds_of n))
