-- What an update and a set make of a parameter's tween, whatever its kind: which one is under way, and with what time.
-- RULES, at-rest, step and set. Assumes nothing.
use mathlib.Core.Path.{◌≡◌, refl, sym, ◌∙◌}
use mathlib.Core.Bool.{Bool, true, false, cond}
use Prim.Native.Nat.{ℕ}
use lib.Dec.{eqb}
use lib.Ieee.{Float}
use Rattle.std.specs.Prelude.{Option}
use borrow.Author.Tests.{eqb-false}
use Rattle.judge.specs.Judge.{bad_dt, dt_faults, first_fault}
use Rattle.judge.specs.Numbers.{BAD_DT}
use Rattle.times.specs.declared.start_time.When.{When}
use Rattle.times.specs.declared.tween.Tween.{Tween}
use Rattle.values.specs.Tweenables.{Tweens}
use Rattle.values.specs.declared.value.Value.{Value}
use Rattle.parameter.specs.Courses.{new_course, step_of}
use Rattle.parameter.specs.Parameters.{Set, set_of, set_faults, try_set_of, by_step, tweened_of, update_of, try_update_of}
use Rattle.parameter.specs.declared.State.TheVariants.{Idle, Tweening}
use Rattle.parameter.specs.declared.Tweening as tweening
use Rattle.parameter.specs.declared.Parameter.{Parameter}
use Rattle.parameter.specs.declared.course.Stepped.{Stepped}
use Rattle.parameter.specs.declared.course.Stepped.TheVariants.{Waits, Goes, Ends}
use Rattle.info.specs.ParametersIn.{course_due_of, source_of, try_update_in}
use Rattle.info.specs.declared.info.Info.{Info}
use Rattle.demands.specs.Kinds.{Progress, resting, running, progress_in}

-- ---- refusals

-- an update is refused by its dt alone
dt_bad : (dt : Float) → bad_dt dt ≡ true → first_fault (dt_faults dt) ≡ BAD_DT
unfolding first_fault
dt_bad dt e = rw e

dt_good : (dt : Float) → bad_dt dt ≡ false → first_fault (dt_faults dt) ≡ 0
unfolding first_fault
dt_good dt e = rw e

-- of two results, the one that is not refused
chosen : {R P : Type 0} (number : R → ℕ) (part : R → P) (x y : R) (n : ℕ) → number y ≡ n → number (cond (eqb n 0) x y) ≡ 0 → part (cond (eqb n 0) x y) ≡ part x
chosen number part x y n e = go (eqb n 0) (eqb-false n 0)
  where
    go : (b : Bool) → (b ≡ false → n ≡ 0 → ⊥) → number (cond b x y) ≡ 0 → part (cond b x y) ≡ part x
    go true h a = refl
    go false h a = absurd (h refl (sym e ∙ a))

-- ---- a step

abbrev pub step_progress : Stepped → Progress
step_progress (Waits c) = running c
step_progress (Goes c) = running c
step_progress Ends = resting

-- a tween after an accepted update
abbrev pub stepped : Progress → Float → When → Progress
stepped resting dt x = resting
stepped (running c) dt x = step_progress (step_of c dt x)

-- what is asked of the clocks: at rest nothing, so that any answer will do
abbrev pub Asked : Info → When → Progress → Type 0
Asked info x resting = Unit {0}
Asked info x (running c) = course_due_of info c ≡ x

-- the mark that skips updates is never set while a tween is under way
abbrev pub Awake : Bool → Progress → Type 0
Awake n resting = Unit {0}
Awake n (running c) = n ≡ false

-- a parameter that came to q, by a set or an update
abbrev pub Came : {T : Type 0} → Parameter T → Progress → Type 0
Came p q = (progress_in p.state ≡ q) × Awake p.stagnant (progress_in p.state)

-- ---- updates and sets

module _ {T : Type 0} (k : Tweens T) where
  by_state_cases :
      (P : Parameter T → Type 0) → ((v : Value T) (y : T) (n : Bool) → P (record { state = Idle v; raw = y; stagnant = n }))
      → ((t : tweening.Tweening T) (y : T) (n : Bool) → P (record { state = Tweening t; raw = y; stagnant = n })) → (p : Parameter T) → P p
  by_state_cases P a b p = elim p.state as (λ s. P (record { state = s; raw = p.raw; stagnant = p.stagnant })) [ Idle v ↦ a v p.raw p.stagnant | Tweening t ↦ b t p.raw p.stagnant ]

  -- the caller's update is the one by the start test and the modulator's value
  pub sees : (p : Parameter T) (info : Info) (dt : Float) (x : When) → Asked info x (progress_in p.state) → try_update_in k info p dt ≡ try_update_of k p dt x (source_of info p)
  unfolding try_update_in update_of tweened_of try_update_of
  sees = by_state_cases _ (λ v y n info dt x h. refl) (λ t y n info dt x h. rw h)

  -- dt alone decides whether it is refused, and a refused one hands back what came in: RULES, bad-dt and refusal
  pub refuses : (p : Parameter T) (dt : Float) (x : When) (i : Option Float) → bad_dt dt ≡ true → ((try_update_of k p dt x i).refused ≡ BAD_DT) × ((try_update_of k p dt x i).parameter ≡ p)
  unfolding try_update_of
  refuses p dt x i e = rw (dt_bad dt e) (refl, refl)

  pub accepts : (p : Parameter T) (dt : Float) (x : When) (i : Option Float) → bad_dt dt ≡ false → (try_update_of k p dt x i).refused ≡ 0
  unfolding try_update_of
  accepts p dt x i e = rw (dt_good dt e) refl

  -- at rest it stays there, and under way it takes the step of its course: RULES, at-rest and step
  pub steps :
      (p : Parameter T) (dt : Float) (x : When) (i : Option Float) → bad_dt dt ≡ false → Awake p.stagnant (progress_in p.state)
      → Came (try_update_of k p dt x i).parameter (stepped (progress_in p.state) dt x)
  unfolding update_of tweened_of try_update_of
  steps =
      by_state_cases _
      (λ v y n dt x i e h. rw (dt_good dt e)
      (elim n as (λ m. Came (update_of k (record { state = Idle v; raw = y; stagnant = m }) dt x i).parameter resting) [ true ↦ (refl, tt) | false ↦ (refl, tt) ]))
      (λ t y n dt x i e h. rw (dt_good dt e, h)
      (elim (step_of t.course dt x) as (λ s. Came (by_step k t s i y).parameter (step_progress s)) [ Waits c ↦ (refl, refl) | Goes c ↦ (refl, refl) | Ends ↦ (refl, tt) ]))

  -- an accepted set leaves its tween at time 0: RULES, set
  pub sets : (p : Parameter T) (v : Value T) (w : Tween) → (try_set_of k p v w).refused ≡ 0 → Came (try_set_of k p v w).parameter (running (new_course w))
  unfolding try_set_of
  sets p v w a =
      rw (chosen (λ (r : Set T). r.refused) (λ (r : Set T). r.parameter) (record { refused = 0; parameter = set_of p v w }) _ (first_fault (set_faults k p v w)) refl a)
      (refl, refl)
