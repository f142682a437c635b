-- Any two outcomes that a statement allows coincide, for each public function of the crate: `One` and `Same` of the
-- crate `doubles` say it of the very clause that the check reads off the source, `Same` of what a clock is at exit too.
-- A clause says what the result and the clock are, or what they tell, and no two tell the same. RULES, one-outcome.
-- Assumes nothing.
use Prim.Native.Nat.{ℕ}
use mathlib.Core.Path.{◌≡◌, refl, sym, ap, ◌∙◌}
use Rattle.std.specs.Prelude.{Result, Ok, Err, Option, OnErr}
use Rattle.doubles.proofs.Outcomes.{One, Same, equal}
use Rattle.judge.specs.Answer.{Answer, accepted, refused, number_of_refusal}
use Rattle.judge.specs.declared.Refusal.{Refusal}
use Rattle.judge.proofs.Outcomes.{same_refusal}
use Rattle.clock.specs.OneClock.{Ticked, moved_told}
use Rattle.clock.specs.declared.Clock.{Clock}
use Rattle.clock.proofs.ClockState.position.Reads as position
use Rattle.clock.proofs.ClockState.position.Kinds as position-kinds
use Rattle.clock.proofs.Clock.new.Reads as new
use Rattle.clock.proofs.Clock.new.Kinds as new-kinds
use Rattle.clock.proofs.Clock.info.Reads as info
use Rattle.clock.proofs.Clock.info.Kinds as info-kinds
use Rattle.clock.proofs.Clock.set_ticking.Reads as set-ticking
use Rattle.clock.proofs.Clock.set_ticking.Kinds as set-ticking-kinds
use Rattle.clock.proofs.Clock.set_speed.Reads as set-speed
use Rattle.clock.proofs.Clock.set_speed.Kinds as set-speed-kinds
use Rattle.clock.proofs.Clock.reset.Reads as reset
use Rattle.clock.proofs.Clock.reset.Kinds as reset-kinds
use Rattle.clock.proofs.Clock.update.Reads as update
use Rattle.clock.proofs.Clock.update.Kinds as update-kinds

-- what an accepted update tells
abbrev ticked : Clock → Option ℕ → Answer Ticked → Ticked
ticked c r (accepted t) = t
ticked c r (refused n) = record { clock = c; report = r }

-- two updates that tell the same are one, where a refused one leaves the clock
pub same_moved : (was c d : Clock) (x y : Result (Option ℕ) Refusal) → moved_told x c ≡ moved_told y d → OnErr x (c ≡ was) → OnErr y (d ≡ was) → (x ≡ y) × (c ≡ d)
same_moved was c d (Ok i) (Ok j) e p q = (ap (λ (a : Answer Ticked). Ok (ticked c i a).report) e, ap (λ (a : Answer Ticked). (ticked c i a).clock) e)
same_moved was c d (Ok i) (Err s) e p q = cc
same_moved was c d (Err r) (Ok j) e p q = cc
same_moved was c d (Err r) (Err s) e p q =
    let n : number_of_refusal r ≡ number_of_refusal s = cc in
    (ap Err (same_refusal r s n), p ∙ sym q)

pub one_position : One 0 position-kinds.ps position-kinds.r position.Post
one_position κs a x y s t = equal

pub one_new : One 0 new-kinds.ps new-kinds.r new.Post
one_new κs a x y s t = equal

pub one_info : One 1 info-kinds.ps info-kinds.r info.Post
one_info κs a x y s t = equal

pub one_set_ticking : Same 1 set-ticking-kinds.ps set-ticking-kinds.r set-ticking.Post (λ κs s. s.0.now)
one_set_ticking κs a x y s t p q = (refl, equal p q)

pub one_set_speed : Same 1 set-speed-kinds.ps set-speed-kinds.r set-speed.Post (λ κs s. s.0.now)
one_set_speed κs a x y s t p q = (refl, equal p q)

pub one_reset : Same 1 reset-kinds.ps reset-kinds.r reset.Post (λ κs s. s.0.now)
one_reset κs a x y s t p q = (refl, equal p q)

pub one_update : Same 1 update-kinds.ps update-kinds.r update.Post (λ κs s. s.0.now)
one_update κs a x y s t p q = same_moved _ _ _ x y (equal p.0 q.0) p.1 q.1
