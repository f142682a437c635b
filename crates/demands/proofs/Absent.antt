-- Whoever waits for an id that does not live, gone or never issued, waits on, and what is linked to one keeps its
-- value. 02, dead or never ours. RULES, never, wait and missing-modulator. Assumes nothing.
use mathlib.Core.Path.{◌≡◌, refl, ap, ◌∙◌}
use mathlib.Core.Bool.{Bool, true, false, cond}
use lib.Dec.{eqb}
use lib.Ieee.{Float}
use Rattle.std.specs.Prelude.{Option, None}
use Rattle.ids.proofs.Places.{find_missing}
use Rattle.judge.specs.Judge.{dt_faults, first_fault}
use Rattle.times.specs.declared.start_time.StartTime.TheVariants.{At}
use Rattle.times.specs.declared.start_time.When.TheVariants.{Never}
use Rattle.times.specs.declared.time.ClockTime.{ClockTime}
use Rattle.values.specs.Speeds.{speed_tweens}
use Rattle.values.specs.Tweenables.{Tweens, float_tweens}
use Rattle.values.specs.declared.value.Mapping.{Mapping}
use Rattle.values.specs.declared.value.ModulatorId.{ModulatorId}
use Rattle.values.specs.declared.value.Value.{Value}
use Rattle.values.specs.declared.value.Value.TheVariants.{FromModulator}
use Rattle.parameter.specs.Courses.{step_of}
use Rattle.parameter.specs.Parameters.{Updated, Advanced, by_step, by_state, tweened_of, update_of, try_update_of}
use Rattle.parameter.specs.declared.course.Course.{Course}
use Rattle.parameter.specs.declared.course.Stepped.{Stepped}
use Rattle.parameter.specs.declared.course.Stepped.TheVariants.{Waits, Goes, Ends}
use Rattle.parameter.specs.declared.Parameter.{Parameter}
use Rattle.parameter.specs.declared.State.{State}
use Rattle.parameter.specs.declared.State.TheVariants as state
use Rattle.parameter.specs.declared.Tweening.{Tweening}
use Rattle.info.specs.Infos.{when_to_start_of, modulator_value_of, input_of}
use Rattle.info.specs.ParametersIn.{course_due_of, parameter_due_in, source_in, try_update_in}
use Rattle.station.specs.Stations.{info_in}
use Rattle.station.specs.declared.Station.{Station}
use Rattle.laws.specs.Calls.{of_clock, of_modulator, lives}
use Rattle.laws.proofs.lemmas.Cases.{cond_case}
use Rattle.demands.specs.Links.{value_in}

either : {A : Type 0} (b : Bool) (x : A) → cond b x x ≡ x
either true x = refl
either false x = refl

module _ (st : Station) where
  -- a wait for it is due never, and a link to it finds nothing
  pub waits_never : (t : ClockTime) → lives of_clock st t.clock.slot t.clock.generation ≡ false → when_to_start_of (info_in st) t ≡ Never
  unfolding when_to_start_of info_in
  waits_never t d = rw (find_missing st.clocks.keys t.clock.slot t.clock.generation d)

  pub link_none : (id : ModulatorId) → lives of_modulator st id.slot id.generation ≡ false → modulator_value_of (info_in st) id ≡ None
  unfolding modulator_value_of info_in
  link_none id d = rw (find_missing st.modulators.keys id.slot id.generation d)

  -- ---- a tween that waits for it

  module _ (c : Course) (t : ClockTime) (e : c.tween.start_time ≡ At t) (d : lives of_clock st t.clock.slot t.clock.generation ≡ false) (dt : Float) where
    -- the tween stands as it was: RULES, wait
    pub waits_on : step_of c dt (course_due_of (info_in st) c) ≡ Waits c
    unfolding step_of
    waits_on = rw (e, waits_never t d)

  -- so an update, accepted or refused, leaves a parameter of any kind in its state
  abbrev pub LeftWaiting : {T : Type 0} → Tweens T → Type 0
  LeftWaiting {T} k =
      (p : Parameter T) (w : Tweening T) (t : ClockTime) → p.state ≡ state.Tweening w → w.course.tween.start_time ≡ At t
      → lives of_clock st t.clock.slot t.clock.generation ≡ false → (dt : Float) → (try_update_in k (info_in st) p dt).parameter.state ≡ p.state

  pub any_waits : {T : Type 0} (k : Tweens T) → LeftWaiting k
  unfolding try_update_in try_update_of update_of tweened_of
  any_waits {T} k p w t s e d dt =
      rw s
      (cond_case (λ (r : Advanced T). r.parameter.state ≡ state.Tweening w) _ _
      (cond_case (λ (u : Updated T). u.parameter.state ≡ state.Tweening w) _ _ refl (rw (waits_on w.course t e d dt)) p.stagnant)
      refl (eqb (first_fault (dt_faults dt)) 0))

  pub float_waits : LeftWaiting float_tweens
  float_waits = any_waits float_tweens

  pub speed_waits : LeftWaiting speed_tweens
  speed_waits = any_waits speed_tweens

  -- ---- a value that is linked to it

  -- an update, accepted or refused, leaves the value that the parameter shows: RULES, missing-modulator
  module _ (id : ModulatorId) (d : lives of_modulator st id.slot id.generation ≡ false) (dt : Float) where
    abbrev pub Stays : {T : Type 0} → Tweens T → Type 0
    Stays {T} k = (p : Parameter T) (m : Mapping T) → value_in p.state ≡ FromModulator id m → (try_update_in k (info_in st) p dt).parameter.raw ≡ p.raw

    pub any_stays : {T : Type 0} (k : Tweens T) → Stays k
    unfolding try_update_in try_update_of update_of tweened_of
    any_stays {T} k p m e =
        cond_case (λ (r : Advanced T). r.parameter.raw ≡ p.raw) _ _
        (cond_case (λ (u : Updated T). u.parameter.raw ≡ p.raw) _ _ refl (by p.state e) p.stagnant)
        refl (eqb (first_fault (dt_faults dt)) 0)
      where
        unseen : (v : Value T) → v ≡ FromModulator id m → input_of (info_in st) v ≡ None
        unseen v q = rw (q, link_none id d)

        step : (t : Tweening T) → t.target ≡ FromModulator id m → (s : Stepped) → (by_step k t s None p.raw).parameter.raw ≡ p.raw
        step t q (Waits c) = rw q (either (eqb c.tween.duration 0) p.raw)
        step t q (Goes c) = rw q (either (eqb c.tween.duration 0) p.raw)
        step t q Ends = rw q

        by : (s : State T) → value_in s ≡ FromModulator id m → (by_state k s dt (parameter_due_in (info_in st) s) (source_in (info_in st) s) p.raw).parameter.raw ≡ p.raw
        by (state.Idle v) q = rw (q, link_none id d)
        by (state.Tweening t) q =
            let s : Stepped = step_of t.course dt (course_due_of (info_in st) t.course) in
            ap (λ (i : Option Float). (by_step k t s i p.raw).parameter.raw) (unseen t.target q) ∙ step t q s

    pub float_stays : Stays float_tweens
    float_stays = any_stays float_tweens

    pub speed_stays : Stays speed_tweens
    speed_stays = any_stays speed_tweens
