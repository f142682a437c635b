-- `Out::put` is proved: a text that fits is copied to its place, and one that does not fit changes nothing. Assumes
-- nothing.
use native.Mathlib.Omega.{arith}
use mathlib.Core.Path.{ap, ◌∙◌}
use mathlib.Core.List.{List}
use Prim.Native.Nat.{ℕ, ◌+◌}
use lib.ListN.{length}
use Rattle.std.proofs.lemmas.Slice.{put_mid-paste}
use Rattle.digits.specs.Puts.{place}
use Rattle.digits.specs.Outs.{holding}
use Rattle.digits.proofs.Room.{no_room_lem, room}
use Rattle.digits.proofs.Out.put.Goals as goal

pub returns-then-self : goal.returns-then-self
returns-then-self c = ap (holding c.args.self.now) (no_room_lem _ _ _ (omega arith))

pub returns-then-self-bytes : goal.returns-then-self-bytes
returns-then-self-bytes c = ap (holding c.args.self.now) (no_room_lem _ _ _ (omega arith))

pub returns : goal.returns
returns c =
    let o = c.args.self.now in
    let n = length c.args.bytes.now in
    ap (λ (bs : List ℕ). holding o (place bs (o.at + n))) (put_mid-paste o.at _ o.bytes.now _ c.args.bytes.now n c.copy_from_slice.ensures.after (omega arith) (omega arith))
    ∙ ap (holding o) (room o.bytes.now o.at c.args.bytes.now (omega arith))
