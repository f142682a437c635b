-- The clocks' turns of a frame: what one turn does to the answer of the turns that are left, and the invariant of the
-- loop that makes them until one refuses. RULES, frame-order. Assumes nothing.
use Prim.Native.Nat.{ℕ, suc, ◌+◌, ◌-◌, ◌<◌, ◌≤◌}
use native.Mathlib.Omega.{arith}
use mathlib.Core.Path.{◌≡◌, refl, sym, ap, ◌∙◌}
use mathlib.Core.Bool.{true, false}
use mathlib.Core.List.{List, map}
use lib.Ieee.{Float}
use lib.ListN.{length, get_or, set, length-set}
use Rattle.std.specs.Prelude.{Option, Ok}
use Rattle.std.proofs.lemmas.List.{get_or-set_same}
use Rattle.ids.specs.declared.Key.{Key}
use Rattle.ids.proofs.Places.{read_at_lem}
use Rattle.clock.specs.declared.ClockInfo.{ClockInfo}
use Rattle.info.specs.declared.info.Info.{Info}
use Rattle.clock.specs.OneClock.{info_of, moved_told}
use Rattle.clock.specs.declared.Clock.{Clock}
use Rattle.judge.specs.Answer.{refused}
use Rattle.station.specs.Turns.{turn_clock}
use Rattle.station.specs.Frames.{no_reports, went, stopped, watching, placed, clock_turn, then, clock_turns, tried, all_turns}
use Rattle.station.proofs.Filled.{map_set}

-- the turn of slot i, by the key and the clock that the code reads
module _ (info : Info) (dt : Float) (keys : List Key) (cs : List Clock) (rs : List (Option ℕ)) (i : ℕ) (k : Key) (hk : i < length keys) where
  turn_skipped : (get_or keys i k).used ≡ false → clock_turn info dt keys i cs rs ≡ went cs rs
  turn_skipped u = read_at_lem _ _ keys i k hk ∙ rw u

  turn_made :
      (d : Clock) → i < length cs → (get_or keys i k).used ≡ true
      → clock_turn info dt keys i cs rs ≡ placed i cs rs (turn_clock (watching info cs) (get_or cs i d) dt)
  turn_made d hc u = read_at_lem _ _ keys i k hk ∙ rw u (read_at_lem _ _ cs i d hc)

module _ (info : Info) (dt : Float) (keys : List Key) (cs : List Clock) (rs : List (Option ℕ)) (m i : ℕ) where
  turns_more : (n : ℕ) → m ≡ suc n → clock_turns info dt keys m i cs rs ≡ then (clock_turns info dt keys n (i + 1)) (clock_turn info dt keys i cs rs)
  unfolding clock_turns
  turns_more n e = rw e

  turns_none : m ≡ 0 → clock_turns info dt keys m i cs rs ≡ went cs rs
  unfolding clock_turns
  turns_none e = rw e

-- i turns are made: the turns that are left give the whole answer, and what is seen shows the clocks as they stand
pub record Left (info : Info) (dt : Float) (keys : List Key) (old new : List Clock) (seen : Info) (rs : List (Option ℕ)) (i : ℕ) : Type 0 where
  pub upto : i ≤ 16
  pub clocks_16 : length new ≡ 16
  pub shown : seen ≡ watching info new
  pub rest : clock_turns info dt keys (16 - i) i new rs ≡ all_turns info dt keys old

pub left_all : (info : Info) (dt : Float) (keys : List Key) (cs : List Clock) → length cs ≡ 16 → info.clocks ≡ map info_of cs → Left info dt keys cs cs info no_reports 0
left_all info dt keys cs n e = record {
  upto = omega arith;
  clocks_16 = n;
  shown = rw (← e);
  rest = refl;
}

module _ (info : Info) (dt : Float) (keys : List Key) (old new : List Clock) (seen : Info) (rs : List (Option ℕ)) (i : ℕ) where
  pub left_none : 16 ≤ i → Left info dt keys old new seen rs i → tried (Ok rs) new ≡ all_turns info dt keys old
  left_none h l = sym (turns_none info dt keys new rs (16 - i) i (omega arith)) ∙ l.rest

  module _ (k : Key) (n : length keys ≡ 16) (h : i < 16) (l : Left info dt keys old new seen rs i) where
    -- the whole answer, by the turn of slot i
    by_turn_lem : then (clock_turns info dt keys (16 - (i + 1)) (i + 1)) (clock_turn info dt keys i new rs) ≡ all_turns info dt keys old
    by_turn_lem = sym (turns_more info dt keys new rs (16 - i) i (16 - (i + 1)) (omega arith)) ∙ l.rest

    -- the turn of slot i, where a clock is, by what the code sees
    turned_to_lem : (d : Clock) → (get_or keys i k).used ≡ true → clock_turn info dt keys i new rs ≡ placed i new rs (turn_clock seen (get_or new i d) dt)
    turned_to_lem d u =
        let hk : i < length keys = omega arith in
        let hc : i < length new = omega (arith, l.clocks_16) in
        rw l.shown (turn_made info dt keys new rs i k hk d hc u)

    -- a clock that refuses
    pub left_stopped : (d : Clock) (m : ℕ) → (get_or keys i k).used ≡ true → refused m ≡ turn_clock seen (get_or new i d) dt → stopped m ≡ all_turns info dt keys old
    left_stopped d m u e = rw (turned_to_lem d u, ← e) at by_turn_lem

    module _ (next : List Clock) (after : Info) (told : List (Option ℕ)) where
      -- an empty slot
      pub left_skipped : (get_or keys i k).used ≡ false → next ≡ new → after ≡ seen → told ≡ rs → Left info dt keys old next after told (i + 1)
      left_skipped u e f g =
          let hk : i < length keys = omega arith in
          rw (e, f, g) (record {
            upto = omega arith;
            clocks_16 = l.clocks_16;
            shown = l.shown;
            rest = rw (turn_skipped info dt keys new rs i k hk u) at by_turn_lem;
          })

      -- a clock after its turn, what it reported, and what is seen of it
      pub left_made :
          (d c : Clock) (r : Option ℕ) (x : ClockInfo) → (get_or keys i k).used ≡ true → moved_told (Ok r) c ≡ turn_clock seen (get_or new i d) dt
          → x ≡ info_of (get_or (set new i c) i d) → next ≡ set new i c
          → after ≡ record { clock_keys = seen.clock_keys; clocks = set seen.clocks i x; modulator_keys = seen.modulator_keys; values = seen.values }
          → told ≡ set rs i r → Left info dt keys old next after told (i + 1)
      left_made d c r x u ec ex e f g =
          let hc : i < length new = omega (arith, l.clocks_16) in
          let shows : x ≡ info_of c = ex ∙ ap info_of (get_or-set_same new i c d hc) in
          rw (e, f, g) (record {
            upto = omega arith;
            clocks_16 = length-set new i c ∙ l.clocks_16;
            shown = rw (l.shown, map_set info_of new i c, shows);
            rest = rw (turned_to_lem d u, ← ec) at by_turn_lem;
          })
