-- The text of a frame's slots: what a turn of `frame` puts is the text of the turn's slot. Assumes nothing.
use Prim.Native.Nat.{ℕ, ◌+◌, ◌<◌}
use native.Mathlib.Numerals.{add-one}
use mathlib.Core.Path.{◌≡◌, sym, ap, ◌∙◌}
use mathlib.Core.Bool.{true, false}
use mathlib.Core.List.{List, [], ◌∷◌, ◌++◌}
use lib.ListN.{length, get_or, drop}
use lib.Seq.{drop-cons, drop-length}
use Rattle.std.specs.Prelude.{Option, None}
use Rattle.ids.specs.declared.Key.{Key}
use Rattle.digits.specs.Puts.{line_end, line_of}
use Rattle.digits.specs.Outs.{put_in}
use Rattle.digits.specs.declared.Out.{Out}
use Rattle.replies.specs.Replies.{tick_text, ticks_text}

-- the slots from i on
abbrev rest : List Key → List (Option ℕ) → ℕ → List (List ℕ)
rest ks rs i = ticks_text i (drop i ks) (drop i rs)

-- what is put so far, with the text of the slots that are left behind it, is p with the text of all of them behind it
abbrev pub Left : List Key → List (Option ℕ) → Out → Out → ℕ → Type 0
Left ks rs p q i = put_in q (line_of (rest ks rs i)) ≡ put_in p (line_of (ticks_text 0 ks rs))

module _ (ks : List Key) (rs : List (Option ℕ)) (i : ℕ) (k : Key) (hk : i < length ks) (hr : i < length rs) where
  told : (r : Option ℕ) → (get_or ks i k).used ≡ true → rest ks rs i ≡ tick_text i (get_or rs i r) ++ rest ks rs (i + 1)
  unfolding ticks_text
  told r u = rw (drop-cons ks i k hk, drop-cons rs i r hr, add-one i, u)

  untold : (get_or ks i k).used ≡ false → rest ks rs i ≡ rest ks rs (i + 1)
  unfolding ticks_text
  untold u = rw (drop-cons ks i k hk, drop-cons rs i None hr, add-one i, u)

  pub put_one : (r : Option ℕ) (p q : Out) {o : Out} → (get_or ks i k).used ≡ true → o ≡ put_in q (tick_text i (get_or rs i r)) → Left ks rs p q i → Left ks rs p o (i + 1)
  put_one r p q u e left = rw e (sym (ap (λ (t : List (List ℕ)). put_in q (line_of t)) (told r u)) ∙ left)

  pub put_none : (p q : Out) → (get_or ks i k).used ≡ false → Left ks rs p q i → Left ks rs p q (i + 1)
  put_none p q u left = sym (ap (λ (t : List (List ℕ)). put_in q (line_of t)) (untold u)) ∙ left

nothing : (ks : List Key) (rs : List (Option ℕ)) (i : ℕ) → length ks ≡ i → rest ks rs i ≡ []
unfolding ticks_text
nothing ks rs i h = rw (← h, drop-length ks)

pub none_left : (ks : List Key) (rs : List (Option ℕ)) (i : ℕ) (p q : Out) {o : Out} → length ks ≡ i → o ≡ put_in q (line_end ∷ []) → Left ks rs p q i → o ≡ put_in p (line_of (ticks_text 0 ks rs))
none_left ks rs i p q h e left = e ∙ sym (ap (λ (t : List (List ℕ)). put_in q (line_of t)) (nothing ks rs i h)) ∙ left
