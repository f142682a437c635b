-- Any two outcomes that a statement allows coincide, for the public function of the module: `Same` of the crate
-- `doubles` says it of the very clause that the check reads off the source, the result and what the station is at exit.
-- A clause says what they tell, and no two tell the same. RULES, one-outcome. Assumes nothing.
use Prim.Native.Nat.{ℕ}
use mathlib.Core.Path.{◌≡◌, sym, ap}
use mathlib.Core.List.{List}
use Rattle.std.specs.Prelude.{Option, Result, Ok, Err}
use Rattle.doubles.proofs.Outcomes.{Same, equal}
use Rattle.judge.specs.declared.Refusal.{Refusal}
use Rattle.judge.proofs.Judged.{never_ok}
use Rattle.judge.proofs.Outcomes.{same_refusal}
use Rattle.station.specs.Frames.{Framed, framed_told}
use Rattle.station.specs.declared.Station.{Station}
use Rattle.station.proofs.Station.frame.Reads as frame
use Rattle.station.proofs.Station.frame.Kinds as frame-kinds

-- two frames that tell the same are one
pub same_framed :
    (x y : Result (List (Option ℕ)) Refusal) (s t : Station) → framed_told x s ≡ framed_told y t → (x ≡ y) × (s ≡ t)
same_framed x y s t e = (by x y e, station)
  where
    station : s ≡ t
    station = side x y e
      where
        side : (x y : Result (List (Option ℕ)) Refusal) → framed_told x s ≡ framed_told y t → s ≡ t
        side (Ok r) (Ok q) e = ap (λ (f : Framed). f.station) e
        side (Ok r) (Err n) e = ap (λ (f : Framed). f.station) e
        side (Err m) (Ok q) e = ap (λ (f : Framed). f.station) e
        side (Err m) (Err n) e = ap (λ (f : Framed). f.station) e

    by : (x y : Result (List (Option ℕ)) Refusal) → framed_told x s ≡ framed_told y t → x ≡ y
    by (Ok r) (Ok q) e = ap (λ (f : Framed). Ok f.reports) e
    by (Ok r) (Err n) e = absurd (never_ok n (sym (ap (λ (f : Framed). f.refused) e)))
    by (Err m) (Ok q) e = absurd (never_ok m (ap (λ (f : Framed). f.refused) e))
    by (Err m) (Err n) e = ap Err (same_refusal m n (ap (λ (f : Framed). f.refused) e))

pub one_frame : Same 1 frame-kinds.ps frame-kinds.r frame.Post (λ κs s. s.0.now)
one_frame κs a x y s t p q = same_framed x y _ _ (equal p q)
