-- What a result says by its refusal's number is what `told` says of it. Assumes nothing.
use mathlib.Core.Path.{◌≡◌, refl}
use Rattle.std.specs.Prelude.{Result, Ok, Err}
use Rattle.judge.specs.Answer.{told, number_of_refusal}
use Rattle.judge.specs.declared.Refusal.{Refusal}
use Rattle.answers.specs.Answers.{told_by}

pub told_by_refusal : {A : Type 0} (r : Result A Refusal) → told_by number_of_refusal r ≡ told r
told_by_refusal (Ok x) = refl
told_by_refusal (Err e) = refl
