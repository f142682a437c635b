-- The station's answers, as docs/BENCH.md has them: the pieces of each answer's text. Assumes nothing.
use Rattle.std.specs.Prelude.{ℕ, ◌+◌, cond, List, [], ◌∷◌, ◌++◌, eqb, Option, Some, None, Result, Ok, Err}
use Rattle.ids.specs.declared.Key.{Key}
use Rattle.judge.specs.Answer.{told}
use Rattle.judge.specs.declared.Refusal.{Refusal}
use Rattle.answers.specs.Answers.{blank, id_text, speed_text, time_text, refused_text, reply_text, told_by}
use Rattle.digits.specs.Digits.{number_text, flag_text, float_text}
use Rattle.commands.specs.declared.CallAnswer.{CallAnswer}
use Rattle.commands.specs.declared.CallAnswer.TheVariants as answer

-- "ok"
abbrev pub ok_text : List (List ℕ)
ok_text = (0x6f ∷ 0x6b ∷ []) ∷ []

-- that, or `refused N`
abbrev pub done_text : Result (Unit {0}) Refusal → List (List ℕ)
done_text r = reply_text (λ u. ok_text) (told r)

-- "`id ID`"
abbrev pub id_reply : ℕ → ℕ → List (List ℕ)
id_reply slot generation = (0x69 ∷ 0x64 ∷ blank) ∷ id_text slot generation

-- "`ok`", "`id ID`", "`N F`", "`0` or `1`", "`SPEED`", "`F`"
abbrev pub given_text : CallAnswer → List (List ℕ)
given_text answer.Done = ok_text
given_text (answer.Clock i) = id_reply i.slot i.generation
given_text (answer.Modulator i) = id_reply i.slot i.generation
given_text (answer.Time t) = time_text t
given_text (answer.Flag b) = flag_text b ∷ []
given_text (answer.Speed s) = speed_text s
given_text (answer.Value x) = float_text x ∷ []

-- that, or `refused N`, by the number of what refuses it
abbrev pub answer_text : {R : Type 0} → (R → ℕ) → Result CallAnswer R → List (List ℕ)
answer_text number r = reply_text given_text (told_by number r)

-- "=" and "-"
abbrev pub equals_sign : List ℕ
equals_sign = 0x3d ∷ []

abbrev pub dash : List ℕ
dash = 0x2d ∷ []

-- "(the tick reported)" or "`-` (none)"
abbrev pub reported_tick : Option ℕ → List ℕ
reported_tick (Some n) = number_text n
reported_tick None = dash

-- "` SLOT=N` (the tick reported) or ` SLOT=-` (none)"
abbrev pub tick_text : ℕ → Option ℕ → List (List ℕ)
tick_text slot r = blank ∷ number_text slot ∷ equals_sign ∷ reported_tick r ∷ []

-- "for each living clock in slot order", from slot i on
unfoldable pub ticks_text : ℕ → List Key → List (Option ℕ) → List (List ℕ)
ticks_text i [] rs = []
ticks_text i (k ∷ ks) [] = []
ticks_text i (k ∷ ks) (r ∷ rs) = cond k.used (tick_text i r) [] ++ ticks_text (i + 1) ks rs

-- "`frame`, then" the reports
abbrev pub frame_text : List Key → List (Option ℕ) → List (List ℕ)
frame_text ks rs = (0x66 ∷ 0x72 ∷ 0x61 ∷ 0x6d ∷ 0x65 ∷ []) ∷ ticks_text 0 ks rs

-- "every LF shown as `;`"
abbrev pub shown_of : ℕ → ℕ
shown_of b = cond (eqb b 0x0a) 0x3b b

-- "the whole buffer", or "`refused N`, a blank, and the buffer as it is then"
abbrev pub reported_text : {R : Type 0} → (R → ℕ) → Result ℕ R → List ℕ → List (List ℕ)
reported_text number (Ok n) buffer = buffer ∷ []
reported_text number (Err r) buffer = refused_text (number r) ++ (blank ∷ buffer ∷ [])
