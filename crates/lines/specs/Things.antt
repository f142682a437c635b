-- The grammar of docs/BENCH.md: TWEEN, and where a line ends. Assumes nothing.
use Rattle.std.specs.Prelude.{ℕ, List, Option, None, Some}
use Rattle.std.specs.Bool.{then_some}
use Rattle.times.specs.declared.tween.Tween.{Tween}
use Rattle.grammar.specs.Grammar.{Read, ended_at, number_at, ease_at, start_at, with_read}

-- "TWEEN: START NS EASE (NS is the duration)"
unfoldable pub tween_at : List ℕ → ℕ → Read Tween
tween_at s at =
    with_read None (start_at s at) (λ x a.
    with_read None (number_at s a) (λ ns b.
    with_read None (ease_at s b) (λ e to.
    Some (record { start_time = x; duration = ns; easing = e }, to))))

-- a line with more words than its call has is no call
abbrev pub whole : {A : Type 0} → List ℕ → ℕ → A → Option A
whole s to command = then_some (ended_at s to) command
