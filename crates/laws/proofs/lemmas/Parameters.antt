-- A parameter stays sound under every call, of whatever kind its values are, by what `Mixes` says of that kind. RULES,
-- no-nan and running-speeds. Assumes nothing.
use mathlib.Core.Path.{◌≡◌, refl, ◌∙◌}
use mathlib.Core.Bool.{Bool, true, false, cond, false≢true}
use lib.Dec.{T, eqb}
use lib.Ieee.{Float}
use lib.Ieee.Scale.{finite}
use Rattle.std.specs.Prelude.{Option, Some, None}
use Rattle.doubles.specs.Intervals.{InUnit}
use Rattle.judge.specs.Judge.{no_faults, dt_faults}
use Rattle.times.specs.Easings.{tween_faults}
use Rattle.times.specs.declared.start_time.When.{When}
use Rattle.times.specs.declared.tween.Tween.{Tween}
use Rattle.values.specs.Values.{mapping_faults, value_faults, map_of, raw_of}
use Rattle.values.specs.declared.value.Mapping.{Mapping}
use Rattle.values.specs.declared.value.Value.{Value}
use Rattle.values.specs.declared.value.Value.TheVariants.{Fixed, FromModulator}
use Rattle.parameter.specs.Courses.{step_of, amount_at}
use Rattle.parameter.specs.Parameters.{Set, Advanced, fixed_of, new_of, first_of, or_last, target_unit, target_faults, set_of, set_faults, try_set_of, settled_of, towards, mixed_of, under_way_of, by_step, tweened_of, by_state, update_of, try_update_of}
use Rattle.parameter.specs.declared.course.Course.{Course}
use Rattle.parameter.specs.declared.course.Stepped.{Stepped}
use Rattle.parameter.specs.declared.course.Stepped.TheVariants.{Waits, Goes, Ends}
use Rattle.parameter.specs.declared.Tweening.{Tweening}
use Rattle.parameter.specs.declared.State.{State}
use Rattle.parameter.specs.declared.State.TheVariants as states
use Rattle.parameter.specs.declared.Parameter.{Parameter}
use Rattle.laws.specs.Sound.{Asked, MappingDoubles, ValueDoubles, SoundInput, SoundValue, SoundCourse, SoundTweening, SoundState, SoundParameter}
use Rattle.laws.proofs.lemmas.Accepted.{no_faults_lem, judged_case}
use Rattle.laws.proofs.lemmas.Underway.{SoundStepped, amount_unit, begun, step_sound}

-- what is proved of each kind of values apart; `Target` holds of what a tween may go towards
pub record Mixes {A : Type 0} (q : Asked A) (Target : A → Type 0) : Type 0 where
  pub accepted : (x : A) → q.Doubles x → q.tweens.wrong x ≡ no_faults → Target x
  pub mapped : (m : Mapping A) (x : Float) → MappingDoubles q m → T (finite x) → mapping_faults q.tweens m ≡ no_faults → Target (map_of q.tweens m x)
  -- a mapping's outputs have the unit of its upper end
  pub reads : (a : A) (m : Mapping A) (x : Float) → q.tweens.unreadable a (map_of q.tweens m x) ≡ q.tweens.unreadable a m.out_hi
  pub shown : (x : A) → Target x → q.Shown x
  pub mixed : (a b : A) (t : Float) → q.Shown a → Target b → q.tweens.unreadable a b ≡ no_faults → InUnit t → q.Shown (q.tweens.between a b t)

-- a fixed value, read by f, is what f reads
rests : {A : Type 0} (f : Value A → A) → ((x : A) → f (Fixed x) ≡ x) → (v : Value A) → fixed_of v ≡ true → states.Idle v ≡ states.Idle (Fixed (f v))
rests f h (Fixed x) e = rw (h x)
rests f h (FromModulator i m) e = absurd (false≢true e)

module _ {A : Type 0} (q : Asked A) {Target : A → Type 0} (x : Mixes q Target) where
  -- ---- what a value gives

  -- where its modulator lives: what a tween may go towards, in the unit of the value
  abbrev Given : Value A → Option A → Type 0
  Given v (Some b) = Target b × ((a : A) → q.tweens.unreadable a b ≡ q.tweens.unreadable a (target_unit v))
  Given v None = Unit {0}

  given : (v : Value A) (i : Option Float) → SoundValue q v → SoundInput i → Given v (raw_of q.tweens v i)
  given (Fixed b) i h k = (x.accepted b h.doubles h.accepted, λ a. refl)
  given (FromModulator id m) (Some n) h k = (x.mapped m n h.doubles k.1 h.accepted, λ a. x.reads a m n)
  given (FromModulator id m) None h k = tt

  -- ---- what an update gives

  settled : (v : Value A) (i : Option Float) (last : A) → SoundValue q v → SoundInput i → q.Shown last → q.Shown (settled_of q.tweens v i last)
  settled v i last h k r = go (raw_of q.tweens v i) (given v i h k)
    where
      go : (b : Option A) → Given v b → q.Shown (or_last b last)
      go (Some b) g = x.shown b g.0
      go None g = r

  mixed : (t : Tweening A) (c : Course) (i : Option Float) (last : A) → SoundTweening q t → SoundCourse c → SoundInput i → q.Shown last → q.Shown (mixed_of q.tweens t c i last)
  mixed t c i last h s k r = go (eqb c.tween.duration 0) refl
    where
      to : (b : Option A) → Given t.target b → eqb c.tween.duration 0 ≡ false → q.Shown (towards q.tweens t.start c b last)
      to (Some b) g z = x.mixed t.start b (amount_at c) h.start g.0 (g.1 t.start ∙ h.readable) (amount_unit c s z)
      to None g z = r

      go : (b : Bool) → eqb c.tween.duration 0 ≡ b → q.Shown (cond b last (towards q.tweens t.start c (raw_of q.tweens t.target i) last))
      go true z = r
      go false z = to (raw_of q.tweens t.target i) (given t.target i h.target k) z

  module _ (i : Option Float) (last : A) (k : SoundInput i) (r : q.Shown last) where
    underway : (t : Tweening A) (c : Course) → SoundTweening q t → SoundCourse c → SoundParameter q (under_way_of q.tweens t c i last).parameter
    underway t c h s = record {
      raw = mixed t c i last h s k r;
      state = record { start = h.start; target = h.target; course = s; readable = h.readable };
      resting = λ e. absurd (false≢true e);
    }

    stepped : (t : Tweening A) (s : Stepped) → SoundTweening q t → SoundStepped s → SoundParameter q (by_step q.tweens t s i last).parameter
    stepped t (Waits c) h s = underway t c h s
    stepped t (Goes c) h s = underway t c h s
    stepped t Ends h s = record { raw = settled t.target i last h.target k r; state = h.target; resting = rests (λ v. settled_of q.tweens v i last) (λ b. refl) t.target }

    updated : (s : State A) (dt : Float) (w : When) → SoundState q s → dt_faults dt ≡ no_faults → SoundParameter q (by_state q.tweens s dt w i last).parameter
    unfolding tweened_of
    updated (states.Idle v) dt w h d = record { raw = settled v i last h k r; state = h; resting = λ e. absurd (false≢true e) }
    updated (states.Tweening t) dt w h d = stepped t (step_of t.course dt w) h (step_sound t.course dt w h.course d)

  -- ---- the calls

  pub new_sound : (v : Value A) (d : A) → ValueDoubles q v → q.Doubles d → value_faults q.tweens v ≡ no_faults → q.tweens.wrong d ≡ no_faults → SoundParameter q (new_of v d)
  new_sound v d F G h k = record { raw = go v F h; state = record { doubles = F; accepted = h }; resting = rests (λ v. first_of v d) (λ b. refl) v }
    where
      go : (v : Value A) → ValueDoubles q v → value_faults q.tweens v ≡ no_faults → q.Shown (first_of v d)
      go (Fixed b) F h = x.shown b (x.accepted b F h)
      go (FromModulator i m) F h = x.shown d (x.accepted d G k)

  module _ (p : Parameter A) (s : SoundParameter q p) where
    -- a start that the target's unit can read
    pub begin_sound :
        (v : Value A) (t : Tween) → ValueDoubles q v → target_faults q.tweens v t ≡ no_faults → q.tweens.unreadable p.raw (target_unit v) ≡ no_faults
        → SoundParameter q (set_of p v t)
    begin_sound v t F h k =
        let b = no_faults_lem (value_faults q.tweens v) (tween_faults t) h in
        record {
          raw = s.raw;
          state = record { start = s.raw; target = record { doubles = F; accepted = b.0 }; course = begun t b.1; readable = k };
          resting = λ e. absurd (false≢true e);
        }

    pub set_sound : (v : Value A) (t : Tween) → ValueDoubles q v → set_faults q.tweens p v t ≡ no_faults → SoundParameter q (set_of p v t)
    set_sound v t F h = let a = no_faults_lem (target_faults q.tweens v t) (q.tweens.unreadable p.raw (target_unit v)) h in begin_sound v t F a.0 a.1

    pub update_sound : (dt : Float) (w : When) (i : Option Float) → dt_faults dt ≡ no_faults → SoundInput i → SoundParameter q (update_of q.tweens p dt w i).parameter
    unfolding update_of
    update_sound dt w i h k = go p.stagnant
      where
        go : (b : Bool) → SoundParameter q (cond b (record { finished = false; parameter = p }) (by_state q.tweens p.state dt w i p.raw)).parameter
        go true = s
        go false = updated i p.raw k s.raw p.state dt w s.state h

    -- a refusal changes nothing
    pub change_sound : (v : Value A) (t : Tween) → ValueDoubles q v → SoundParameter q (try_set_of q.tweens p v t).parameter
    unfolding try_set_of
    change_sound v t F = judged_case (λ (r : Set A). SoundParameter q r.parameter) (set_faults q.tweens p v t) _ _ (set_sound v t F) s

    pub advance_sound : (dt : Float) (w : When) (i : Option Float) → SoundInput i → SoundParameter q (try_update_of q.tweens p dt w i).parameter
    unfolding try_update_of
    advance_sound dt w i k = judged_case (λ (r : Advanced A). SoundParameter q r.parameter) (dt_faults dt) _ _ (λ h. update_sound dt w i h k) s
