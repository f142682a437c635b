-- The modulators' turns of a frame: what one turn does to the answer of the turns that are left, and the invariant of
-- the loop that makes them. RULES, frame-order. Assumes nothing.
use Prim.Native.Nat.{ℕ, suc, ◌+◌, ◌-◌, ◌<◌, ◌≤◌}
use native.Mathlib.Omega.{arith}
use mathlib.Core.Path.{◌≡◌, refl, sym, ap, ◌∙◌}
use mathlib.Core.Bool.{true, false}
use mathlib.Core.List.{List, map}
use lib.Ieee.{Float}
use lib.ListN.{length, get_or, set, length-set}
use Rattle.std.proofs.lemmas.List.{get_or-set_same}
use Rattle.ids.specs.declared.Key.{Key}
use Rattle.ids.proofs.Places.{read_at_lem}
use Rattle.info.specs.declared.info.Info.{Info}
use Rattle.modulator_table.specs.ModulatorTables.{slot_of, slot_value}
use Rattle.modulator_table.specs.declared.Slot.{Slot}
use Rattle.station.specs.Turns.{turn_modulator, turn_slot}
use Rattle.station.specs.Frames.{seeing, modulator_turn, modulator_turns, slots_turned}
use Rattle.station.proofs.Filled.{map_set}

-- the turn of slot i, by the key and the slot that the code reads
module _ (info : Info) (dt : Float) (keys : List Key) (slots : List Slot) (i : ℕ) (k : Key) (hk : i < length keys) where
  turn_skipped : (get_or keys i k).used ≡ false → modulator_turn info dt keys i slots ≡ slots
  turn_skipped u = read_at_lem _ _ keys i k hk ∙ rw u

  turn_made :
      (s : Slot) → i < length slots → (get_or keys i k).used ≡ true
      → modulator_turn info dt keys i slots ≡ set slots i (slot_of (turn_modulator (seeing info slots) (get_or slots i s).modulator dt))
  turn_made s hs u = read_at_lem _ _ keys i k hk ∙ rw u (read_at_lem _ _ slots i s hs)

module _ (info : Info) (dt : Float) (keys : List Key) (slots : List Slot) (m i : ℕ) where
  turns_more : (n : ℕ) → m ≡ suc n → modulator_turns info dt keys m i slots ≡ modulator_turns info dt keys n (i + 1) (modulator_turn info dt keys i slots)
  unfolding modulator_turns
  turns_more n e = rw e

  turns_none : m ≡ 0 → modulator_turns info dt keys m i slots ≡ slots
  unfolding modulator_turns
  turns_none e = rw e

-- i turns are made: the turns that are left give the whole answer, and what is seen shows the slots as they stand
pub record Left (info : Info) (dt : Float) (keys : List Key) (old new : List Slot) (seen : Info) (i : ℕ) : Type 0 where
  pub upto : i ≤ 16
  pub slots_16 : length new ≡ 16
  pub shown : seen ≡ seeing info new
  pub rest : modulator_turns info dt keys (16 - i) i new ≡ slots_turned info dt keys old

pub left_all : (info : Info) (dt : Float) (keys : List Key) (slots : List Slot) → length slots ≡ 16 → info.values ≡ map slot_value slots → Left info dt keys slots slots info 0
left_all info dt keys slots n e = record {
  upto = omega arith;
  slots_16 = n;
  shown = rw (← e);
  rest = refl;
}

module _ (info : Info) (dt : Float) (keys : List Key) (old new : List Slot) (seen : Info) (i : ℕ) where
  pub left_none : 16 ≤ i → Left info dt keys old new seen i → new ≡ slots_turned info dt keys old
  left_none h l = sym (turns_none info dt keys new (16 - i) i (omega arith)) ∙ l.rest

  module _ (next : List Slot) (after : Info) (k : Key) (n : length keys ≡ 16) (h : i < 16) (l : Left info dt keys old new seen i) where
    -- the whole answer, by the turn of slot i
    by_turn_lem : modulator_turns info dt keys (16 - (i + 1)) (i + 1) (modulator_turn info dt keys i new) ≡ slots_turned info dt keys old
    by_turn_lem = sym (turns_more info dt keys new (16 - i) i (16 - (i + 1)) (omega arith)) ∙ l.rest

    -- an empty slot
    pub left_skipped : (get_or keys i k).used ≡ false → next ≡ new → after ≡ seen → Left info dt keys old next after (i + 1)
    left_skipped u e f =
        let hk : i < length keys = omega arith in
        rw (e, f) (record {
          upto = omega arith;
          slots_16 = l.slots_16;
          shown = l.shown;
          rest = rw (turn_skipped info dt keys new i k hk u) at by_turn_lem;
        })

    -- a slot after its turn, and its value x
    pub left_made :
        (s made : Slot) (x : Float) → (get_or keys i k).used ≡ true
        → made ≡ turn_slot seen (get_or new i s) dt → x ≡ slot_value (get_or (set new i made) i s)
        → next ≡ set new i made
        → after ≡ record { clock_keys = seen.clock_keys; clocks = seen.clocks; modulator_keys = seen.modulator_keys; values = set seen.values i x }
        → Left info dt keys old next after (i + 1)
    left_made s made x u es ex e f =
        let hk : i < length keys = omega arith in
        let hs : i < length new = omega (arith, l.slots_16) in
        let turned : modulator_turn info dt keys i new ≡ set new i made = turn_made info dt keys new i k hk s hs u ∙ rw (es, l.shown) in
        let shows : x ≡ slot_value made = ex ∙ ap slot_value (get_or-set_same new i made s hs) in
        rw (e, f) (record {
          upto = omega arith;
          slots_16 = length-set new i made ∙ l.slots_16;
          shown = rw (l.shown, map_set slot_value new i made, shows);
          rest = rw turned at by_turn_lem;
        })
