-- Any two outcomes that a statement allows coincide: `One` of the crate `doubles` says it of the very clause that the
-- check reads off the source. No two answers of a replay tell the same. RULES, one-outcome. Assumes nothing.
use mathlib.Core.Path.{◌≡◌, refl, sym, ap, ◌∙◌}
use Rattle.std.specs.Prelude.{Result, Ok, Err}
use Rattle.doubles.proofs.Outcomes.{One}
use Rattle.judge.specs.Answer.{number_of_refusal}
use Rattle.judge.proofs.Outcomes.{same_refusal}
use Rattle.play.specs.Replays.{Replayed, told_verdict, told_replay}
use Rattle.play.specs.declared.Refused.{Refused}
use Rattle.play.specs.declared.Replayed as code
use Rattle.play.proofs.replay.Reads as replay
use Rattle.play.proofs.replay.Kinds as replay-kinds

same_verdict : (x y : Result (Unit {0}) Refused) → told_verdict x ≡ told_verdict y → x ≡ y
same_verdict (Ok i) (Ok j) e = refl
same_verdict (Ok i) (Err s) e = absurd (cc)
same_verdict (Err r) (Ok j) e = absurd (cc)
same_verdict (Err r) (Err s) e =
    let n : number_of_refusal r.why ≡ number_of_refusal s.why = cc in
    let p : r.place ≡ s.place = cc in
    rw (same_refusal r.why s.why n, p)

same_replay : (x y : code.Replayed) → told_replay x ≡ told_replay y → x ≡ y
same_replay x y e =
    let st : x.station ≡ y.station = ap (λ (r : Replayed). r.station) e in
    let v : x.verdict ≡ y.verdict = same_verdict x.verdict y.verdict (ap (λ (r : Replayed). r.verdict) e) in
    rw (st, v)

pub one_replay : One 1 replay-kinds.ps replay-kinds.r replay.Post
one_replay κs a x y s t e f = same_replay x y (e ∙ sym f)
