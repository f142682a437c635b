-- The names of the calls of docs/BENCH.md, each by its bytes, and the call that each is. Assumes nothing.
use Rattle.std.specs.Prelude.{ℕ, cond, List, [], ◌∷◌, ◌++◌, Option, None, Some, slice_range, ◌≡◌}
use Rattle.text.specs.Words.{same_bytes}
use Rattle.names.specs.declared.Call.{Call}
use Rattle.names.specs.declared.Call.TheVariants as call
use Rattle.names.specs.declared.CurveCall.TheVariants as curve
use Rattle.names.specs.declared.DoubleCall.TheVariants as double
use Rattle.names.specs.declared.LimitCall.TheVariants as limit
use Rattle.names.specs.declared.OneClock.TheVariants as oneClock
use Rattle.names.specs.declared.OneModulator.TheVariants as oneModulator
use Rattle.names.specs.declared.OutputCall.TheVariants as output
use Rattle.names.specs.declared.ParameterCall.TheVariants as parameter
use Rattle.names.specs.declared.QuestionCall.TheVariants as question
use Rattle.names.specs.declared.SpeedCall.TheVariants as speed
use Rattle.names.specs.declared.TimeCall.TheVariants as time

-- ---- the names

-- "clock.add"
abbrev pub «clock_add» : List ℕ
«clock_add» = 0x63 ∷ 0x6c ∷ 0x6f ∷ 0x63 ∷ 0x6b ∷ 0x2e ∷ 0x61 ∷ 0x64 ∷ 0x64 ∷ []

-- "clock.drop"
abbrev pub «clock_drop» : List ℕ
«clock_drop» = 0x63 ∷ 0x6c ∷ 0x6f ∷ 0x63 ∷ 0x6b ∷ 0x2e ∷ 0x64 ∷ 0x72 ∷ 0x6f ∷ 0x70 ∷ []

-- "clock.start"
abbrev pub «clock_start» : List ℕ
«clock_start» = 0x63 ∷ 0x6c ∷ 0x6f ∷ 0x63 ∷ 0x6b ∷ 0x2e ∷ 0x73 ∷ 0x74 ∷ 0x61 ∷ 0x72 ∷ 0x74 ∷ []

-- "clock.stop"
abbrev pub «clock_stop» : List ℕ
«clock_stop» = 0x63 ∷ 0x6c ∷ 0x6f ∷ 0x63 ∷ 0x6b ∷ 0x2e ∷ 0x73 ∷ 0x74 ∷ 0x6f ∷ 0x70 ∷ []

-- "clock.reset"
abbrev pub «clock_reset» : List ℕ
«clock_reset» = 0x63 ∷ 0x6c ∷ 0x6f ∷ 0x63 ∷ 0x6b ∷ 0x2e ∷ 0x72 ∷ 0x65 ∷ 0x73 ∷ 0x65 ∷ 0x74 ∷ []

-- "clock.speed"
abbrev pub «clock_speed» : List ℕ
«clock_speed» = 0x63 ∷ 0x6c ∷ 0x6f ∷ 0x63 ∷ 0x6b ∷ 0x2e ∷ 0x73 ∷ 0x70 ∷ 0x65 ∷ 0x65 ∷ 0x64 ∷ []

-- "clock.time"
abbrev pub «clock_time» : List ℕ
«clock_time» = 0x63 ∷ 0x6c ∷ 0x6f ∷ 0x63 ∷ 0x6b ∷ 0x2e ∷ 0x74 ∷ 0x69 ∷ 0x6d ∷ 0x65 ∷ []

-- "clock.ticking"
abbrev pub «clock_ticking» : List ℕ
«clock_ticking» = 0x63 ∷ 0x6c ∷ 0x6f ∷ 0x63 ∷ 0x6b ∷ 0x2e ∷ 0x74 ∷ 0x69 ∷ 0x63 ∷ 0x6b ∷ 0x69 ∷ 0x6e ∷ 0x67 ∷ []

-- "clock.getspeed"
abbrev pub «clock_getspeed» : List ℕ
«clock_getspeed» = 0x63 ∷ 0x6c ∷ 0x6f ∷ 0x63 ∷ 0x6b ∷ 0x2e ∷ 0x67 ∷ 0x65 ∷ 0x74 ∷ 0x73 ∷ 0x70 ∷ 0x65 ∷ 0x65 ∷ 0x64 ∷ []

-- "clock.report"
abbrev pub «clock_report» : List ℕ
«clock_report» = 0x63 ∷ 0x6c ∷ 0x6f ∷ 0x63 ∷ 0x6b ∷ 0x2e ∷ 0x72 ∷ 0x65 ∷ 0x70 ∷ 0x6f ∷ 0x72 ∷ 0x74 ∷ []

-- "clock.preset"
abbrev pub «clock_preset» : List ℕ
«clock_preset» = 0x63 ∷ 0x6c ∷ 0x6f ∷ 0x63 ∷ 0x6b ∷ 0x2e ∷ 0x70 ∷ 0x72 ∷ 0x65 ∷ 0x73 ∷ 0x65 ∷ 0x74 ∷ []

-- "clock.gen"
abbrev pub «clock_gen» : List ℕ
«clock_gen» = 0x63 ∷ 0x6c ∷ 0x6f ∷ 0x63 ∷ 0x6b ∷ 0x2e ∷ 0x67 ∷ 0x65 ∷ 0x6e ∷ []

-- "dur.secs"
abbrev pub «dur_secs» : List ℕ
«dur_secs» = 0x64 ∷ 0x75 ∷ 0x72 ∷ 0x2e ∷ 0x73 ∷ 0x65 ∷ 0x63 ∷ 0x73 ∷ []

-- "ease"
abbrev pub «ease» : List ℕ
«ease» = 0x65 ∷ 0x61 ∷ 0x73 ∷ 0x65 ∷ []

-- "f.trunc"
abbrev pub «f_trunc» : List ℕ
«f_trunc» = 0x66 ∷ 0x2e ∷ 0x74 ∷ 0x72 ∷ 0x75 ∷ 0x6e ∷ 0x63 ∷ []

-- "f.fract"
abbrev pub «f_fract» : List ℕ
«f_fract» = 0x66 ∷ 0x2e ∷ 0x66 ∷ 0x72 ∷ 0x61 ∷ 0x63 ∷ 0x74 ∷ []

-- "f.ceil"
abbrev pub «f_ceil» : List ℕ
«f_ceil» = 0x66 ∷ 0x2e ∷ 0x63 ∷ 0x65 ∷ 0x69 ∷ 0x6c ∷ []

-- "f.abs"
abbrev pub «f_abs» : List ℕ
«f_abs» = 0x66 ∷ 0x2e ∷ 0x61 ∷ 0x62 ∷ 0x73 ∷ []

-- "f.clamp"
abbrev pub «f_clamp» : List ℕ
«f_clamp» = 0x66 ∷ 0x2e ∷ 0x63 ∷ 0x6c ∷ 0x61 ∷ 0x6d ∷ 0x70 ∷ []

-- "fp.new"
abbrev pub «fp_new» : List ℕ
«fp_new» = 0x66 ∷ 0x70 ∷ 0x2e ∷ 0x6e ∷ 0x65 ∷ 0x77 ∷ []

-- "fp.set"
abbrev pub «fp_set» : List ℕ
«fp_set» = 0x66 ∷ 0x70 ∷ 0x2e ∷ 0x73 ∷ 0x65 ∷ 0x74 ∷ []

-- "fp.up"
abbrev pub «fp_up» : List ℕ
«fp_up» = 0x66 ∷ 0x70 ∷ 0x2e ∷ 0x75 ∷ 0x70 ∷ []

-- "fp.val"
abbrev pub «fp_val» : List ℕ
«fp_val» = 0x66 ∷ 0x70 ∷ 0x2e ∷ 0x76 ∷ 0x61 ∷ 0x6c ∷ []

-- "frame"
abbrev pub «frame» : List ℕ
«frame» = 0x66 ∷ 0x72 ∷ 0x61 ∷ 0x6d ∷ 0x65 ∷ []

-- "lerp"
abbrev pub «lerp» : List ℕ
«lerp» = 0x6c ∷ 0x65 ∷ 0x72 ∷ 0x70 ∷ []

-- "lfo.add"
abbrev pub «lfo_add» : List ℕ
«lfo_add» = 0x6c ∷ 0x66 ∷ 0x6f ∷ 0x2e ∷ 0x61 ∷ 0x64 ∷ 0x64 ∷ []

-- "lfo.freq"
abbrev pub «lfo_freq» : List ℕ
«lfo_freq» = 0x6c ∷ 0x66 ∷ 0x6f ∷ 0x2e ∷ 0x66 ∷ 0x72 ∷ 0x65 ∷ 0x71 ∷ []

-- "lfo.amp"
abbrev pub «lfo_amp» : List ℕ
«lfo_amp» = 0x6c ∷ 0x66 ∷ 0x6f ∷ 0x2e ∷ 0x61 ∷ 0x6d ∷ 0x70 ∷ []

-- "lfo.off"
abbrev pub «lfo_off» : List ℕ
«lfo_off» = 0x6c ∷ 0x66 ∷ 0x6f ∷ 0x2e ∷ 0x6f ∷ 0x66 ∷ 0x66 ∷ []

-- "lfo.wave"
abbrev pub «lfo_wave» : List ℕ
«lfo_wave» = 0x6c ∷ 0x66 ∷ 0x6f ∷ 0x2e ∷ 0x77 ∷ 0x61 ∷ 0x76 ∷ 0x65 ∷ []

-- "lfo.phase"
abbrev pub «lfo_phase» : List ℕ
«lfo_phase» = 0x6c ∷ 0x66 ∷ 0x6f ∷ 0x2e ∷ 0x70 ∷ 0x68 ∷ 0x61 ∷ 0x73 ∷ 0x65 ∷ []

-- "map.f"
abbrev pub «map_f» : List ℕ
«map_f» = 0x6d ∷ 0x61 ∷ 0x70 ∷ 0x2e ∷ 0x66 ∷ []

-- "map.s"
abbrev pub «map_s» : List ℕ
«map_s» = 0x6d ∷ 0x61 ∷ 0x70 ∷ 0x2e ∷ 0x73 ∷ []

-- "map.add"
abbrev pub «map_add» : List ℕ
«map_add» = 0x6d ∷ 0x61 ∷ 0x70 ∷ 0x2e ∷ 0x61 ∷ 0x64 ∷ 0x64 ∷ []

-- "map.sub"
abbrev pub «map_sub» : List ℕ
«map_sub» = 0x6d ∷ 0x61 ∷ 0x70 ∷ 0x2e ∷ 0x73 ∷ 0x75 ∷ 0x62 ∷ []

-- "map.mul"
abbrev pub «map_mul» : List ℕ
«map_mul» = 0x6d ∷ 0x61 ∷ 0x70 ∷ 0x2e ∷ 0x6d ∷ 0x75 ∷ 0x6c ∷ []

-- "map.div"
abbrev pub «map_div» : List ℕ
«map_div» = 0x6d ∷ 0x61 ∷ 0x70 ∷ 0x2e ∷ 0x64 ∷ 0x69 ∷ 0x76 ∷ []

-- "map.rem"
abbrev pub «map_rem» : List ℕ
«map_rem» = 0x6d ∷ 0x61 ∷ 0x70 ∷ 0x2e ∷ 0x72 ∷ 0x65 ∷ 0x6d ∷ []

-- "map.neg"
abbrev pub «map_neg» : List ℕ
«map_neg» = 0x6d ∷ 0x61 ∷ 0x70 ∷ 0x2e ∷ 0x6e ∷ 0x65 ∷ 0x67 ∷ []

-- "mod.value"
abbrev pub «mod_value» : List ℕ
«mod_value» = 0x6d ∷ 0x6f ∷ 0x64 ∷ 0x2e ∷ 0x76 ∷ 0x61 ∷ 0x6c ∷ 0x75 ∷ 0x65 ∷ []

-- "mod.drop"
abbrev pub «mod_drop» : List ℕ
«mod_drop» = 0x6d ∷ 0x6f ∷ 0x64 ∷ 0x2e ∷ 0x64 ∷ 0x72 ∷ 0x6f ∷ 0x70 ∷ []

-- "mod.gen"
abbrev pub «mod_gen» : List ℕ
«mod_gen» = 0x6d ∷ 0x6f ∷ 0x64 ∷ 0x2e ∷ 0x67 ∷ 0x65 ∷ 0x6e ∷ []

-- "new"
abbrev pub «new» : List ℕ
«new» = 0x6e ∷ 0x65 ∷ 0x77 ∷ []

-- "sp.new"
abbrev pub «sp_new» : List ℕ
«sp_new» = 0x73 ∷ 0x70 ∷ 0x2e ∷ 0x6e ∷ 0x65 ∷ 0x77 ∷ []

-- "sp.set"
abbrev pub «sp_set» : List ℕ
«sp_set» = 0x73 ∷ 0x70 ∷ 0x2e ∷ 0x73 ∷ 0x65 ∷ 0x74 ∷ []

-- "sp.up"
abbrev pub «sp_up» : List ℕ
«sp_up» = 0x73 ∷ 0x70 ∷ 0x2e ∷ 0x75 ∷ 0x70 ∷ []

-- "sp.val"
abbrev pub «sp_val» : List ℕ
«sp_val» = 0x73 ∷ 0x70 ∷ 0x2e ∷ 0x76 ∷ 0x61 ∷ 0x6c ∷ []

-- "speed.lerp"
abbrev pub «speed_lerp» : List ℕ
«speed_lerp» = 0x73 ∷ 0x70 ∷ 0x65 ∷ 0x65 ∷ 0x64 ∷ 0x2e ∷ 0x6c ∷ 0x65 ∷ 0x72 ∷ 0x70 ∷ []

-- "speed.spt"
abbrev pub «speed_spt» : List ℕ
«speed_spt» = 0x73 ∷ 0x70 ∷ 0x65 ∷ 0x65 ∷ 0x64 ∷ 0x2e ∷ 0x73 ∷ 0x70 ∷ 0x74 ∷ []

-- "speed.tps"
abbrev pub «speed_tps» : List ℕ
«speed_tps» = 0x73 ∷ 0x70 ∷ 0x65 ∷ 0x65 ∷ 0x64 ∷ 0x2e ∷ 0x74 ∷ 0x70 ∷ 0x73 ∷ []

-- "speed.tpm"
abbrev pub «speed_tpm» : List ℕ
«speed_tpm» = 0x73 ∷ 0x70 ∷ 0x65 ∷ 0x65 ∷ 0x64 ∷ 0x2e ∷ 0x74 ∷ 0x70 ∷ 0x6d ∷ []

-- "start.up"
abbrev pub «start_up» : List ℕ
«start_up» = 0x73 ∷ 0x74 ∷ 0x61 ∷ 0x72 ∷ 0x74 ∷ 0x2e ∷ 0x75 ∷ 0x70 ∷ []

-- "sval.raw"
abbrev pub «sval_raw» : List ℕ
«sval_raw» = 0x73 ∷ 0x76 ∷ 0x61 ∷ 0x6c ∷ 0x2e ∷ 0x72 ∷ 0x61 ∷ 0x77 ∷ []

-- "time.fromu"
abbrev pub «time_fromu» : List ℕ
«time_fromu» = 0x74 ∷ 0x69 ∷ 0x6d ∷ 0x65 ∷ 0x2e ∷ 0x66 ∷ 0x72 ∷ 0x6f ∷ 0x6d ∷ 0x75 ∷ []

-- "time.fromf"
abbrev pub «time_fromf» : List ℕ
«time_fromf» = 0x74 ∷ 0x69 ∷ 0x6d ∷ 0x65 ∷ 0x2e ∷ 0x66 ∷ 0x72 ∷ 0x6f ∷ 0x6d ∷ 0x66 ∷ []

-- "time.addf"
abbrev pub «time_addf» : List ℕ
«time_addf» = 0x74 ∷ 0x69 ∷ 0x6d ∷ 0x65 ∷ 0x2e ∷ 0x61 ∷ 0x64 ∷ 0x64 ∷ 0x66 ∷ []

-- "time.subf"
abbrev pub «time_subf» : List ℕ
«time_subf» = 0x74 ∷ 0x69 ∷ 0x6d ∷ 0x65 ∷ 0x2e ∷ 0x73 ∷ 0x75 ∷ 0x62 ∷ 0x66 ∷ []

-- "time.addu"
abbrev pub «time_addu» : List ℕ
«time_addu» = 0x74 ∷ 0x69 ∷ 0x6d ∷ 0x65 ∷ 0x2e ∷ 0x61 ∷ 0x64 ∷ 0x64 ∷ 0x75 ∷ []

-- "time.subu"
abbrev pub «time_subu» : List ℕ
«time_subu» = 0x74 ∷ 0x69 ∷ 0x6d ∷ 0x65 ∷ 0x2e ∷ 0x73 ∷ 0x75 ∷ 0x62 ∷ 0x75 ∷ []

-- "time.cmp"
abbrev pub «time_cmp» : List ℕ
«time_cmp» = 0x74 ∷ 0x69 ∷ 0x6d ∷ 0x65 ∷ 0x2e ∷ 0x63 ∷ 0x6d ∷ 0x70 ∷ []

-- "tween.default"
abbrev pub «tween_default» : List ℕ
«tween_default» = 0x74 ∷ 0x77 ∷ 0x65 ∷ 0x65 ∷ 0x6e ∷ 0x2e ∷ 0x64 ∷ 0x65 ∷ 0x66 ∷ 0x61 ∷ 0x75 ∷ 0x6c ∷ 0x74 ∷ []

-- "tweener.add"
abbrev pub «tweener_add» : List ℕ
«tweener_add» = 0x74 ∷ 0x77 ∷ 0x65 ∷ 0x65 ∷ 0x6e ∷ 0x65 ∷ 0x72 ∷ 0x2e ∷ 0x61 ∷ 0x64 ∷ 0x64 ∷ []

-- "tweener.set"
abbrev pub «tweener_set» : List ℕ
«tweener_set» = 0x74 ∷ 0x77 ∷ 0x65 ∷ 0x65 ∷ 0x6e ∷ 0x65 ∷ 0x72 ∷ 0x2e ∷ 0x73 ∷ 0x65 ∷ 0x74 ∷ []

-- "val.add"
abbrev pub «val_add» : List ℕ
«val_add» = 0x76 ∷ 0x61 ∷ 0x6c ∷ 0x2e ∷ 0x61 ∷ 0x64 ∷ 0x64 ∷ []

-- "val.sub"
abbrev pub «val_sub» : List ℕ
«val_sub» = 0x76 ∷ 0x61 ∷ 0x6c ∷ 0x2e ∷ 0x73 ∷ 0x75 ∷ 0x62 ∷ []

-- "val.mul"
abbrev pub «val_mul» : List ℕ
«val_mul» = 0x76 ∷ 0x61 ∷ 0x6c ∷ 0x2e ∷ 0x6d ∷ 0x75 ∷ 0x6c ∷ []

-- "val.div"
abbrev pub «val_div» : List ℕ
«val_div» = 0x76 ∷ 0x61 ∷ 0x6c ∷ 0x2e ∷ 0x64 ∷ 0x69 ∷ 0x76 ∷ []

-- "val.rem"
abbrev pub «val_rem» : List ℕ
«val_rem» = 0x76 ∷ 0x61 ∷ 0x6c ∷ 0x2e ∷ 0x72 ∷ 0x65 ∷ 0x6d ∷ []

-- "val.neg"
abbrev pub «val_neg» : List ℕ
«val_neg» = 0x76 ∷ 0x61 ∷ 0x6c ∷ 0x2e ∷ 0x6e ∷ 0x65 ∷ 0x67 ∷ []

-- "val.raw"
abbrev pub «val_raw» : List ℕ
«val_raw» = 0x76 ∷ 0x61 ∷ 0x6c ∷ 0x2e ∷ 0x72 ∷ 0x61 ∷ 0x77 ∷ []

-- "wave"
abbrev pub «wave» : List ℕ
«wave» = 0x77 ∷ 0x61 ∷ 0x76 ∷ 0x65 ∷ []

-- "when"
abbrev pub «when» : List ℕ
«when» = 0x77 ∷ 0x68 ∷ 0x65 ∷ 0x6e ∷ []

-- ---- the table, by first letters

pub record Row : Type 0 where
  pub name : List ℕ
  pub call : Call

-- a name, and the call that it is
abbrev pub names : List ℕ → Call → Row
names n c = record { name = n; call = c }

abbrev pub rows_c : List Row
rows_c =
    names «clock_add» call.AddClock ∷
    names «clock_drop» (call.OneClock oneClock.Drop) ∷
    names «clock_start» (call.OneClock oneClock.Start) ∷
    names «clock_stop» (call.OneClock oneClock.Stop) ∷
    names «clock_reset» (call.OneClock oneClock.Reset) ∷
    names «clock_speed» call.SetClockSpeed ∷
    names «clock_time» (call.OneClock oneClock.Time) ∷
    names «clock_ticking» (call.OneClock oneClock.Ticking) ∷
    names «clock_getspeed» (call.OneClock oneClock.GetSpeed) ∷
    names «clock_report» call.Report ∷
    names «clock_preset» (call.Limit limit.Preset) ∷
    names «clock_gen» (call.Limit limit.ClockGen) ∷ []

abbrev pub rows_d : List Row
rows_d =
    names «dur_secs» (call.Curve curve.DurSecs) ∷ []

abbrev pub rows_e : List Row
rows_e =
    names «ease» (call.Curve curve.Ease) ∷ []

abbrev pub rows_f : List Row
rows_f =
    names «f_trunc» (call.Double double.Trunc) ∷
    names «f_fract» (call.Double double.Fract) ∷
    names «f_ceil» (call.Double double.Ceil) ∷
    names «f_abs» (call.Double double.Abs) ∷
    names «f_clamp» (call.Double double.Clamp) ∷
    names «fp_new» (call.FloatParameter parameter.New) ∷
    names «fp_set» (call.FloatParameter parameter.Set) ∷
    names «fp_up» (call.FloatParameter parameter.Up) ∷
    names «fp_val» (call.FloatParameter parameter.Val) ∷
    names «frame» call.Frame ∷ []

abbrev pub rows_l : List Row
rows_l =
    names «lerp» (call.Curve curve.Lerp) ∷
    names «lfo_add» call.AddLfo ∷
    names «lfo_freq» (call.OneModulator oneModulator.Freq) ∷
    names «lfo_amp» (call.OneModulator oneModulator.Amp) ∷
    names «lfo_off» (call.OneModulator oneModulator.Off) ∷
    names «lfo_wave» (call.OneModulator oneModulator.Wave) ∷
    names «lfo_phase» (call.OneModulator oneModulator.Phase) ∷ []

abbrev pub rows_m : List Row
rows_m =
    names «map_f» call.MapFloat ∷
    names «map_s» call.MapSpeed ∷
    names «map_add» (call.Map output.Add) ∷
    names «map_sub» (call.Map output.Sub) ∷
    names «map_mul» (call.Map output.Mul) ∷
    names «map_div» (call.Map output.Div) ∷
    names «map_rem» (call.Map output.Rem) ∷
    names «map_neg» (call.Map output.Neg) ∷
    names «mod_value» (call.OneModulator oneModulator.Value) ∷
    names «mod_drop» (call.OneModulator oneModulator.Drop) ∷
    names «mod_gen» (call.Limit limit.ModGen) ∷ []

abbrev pub rows_n : List Row
rows_n =
    names «new» call.New ∷ []

abbrev pub rows_s : List Row
rows_s =
    names «sp_new» (call.SpeedParameter parameter.New) ∷
    names «sp_set» (call.SpeedParameter parameter.Set) ∷
    names «sp_up» (call.SpeedParameter parameter.Up) ∷
    names «sp_val» (call.SpeedParameter parameter.Val) ∷
    names «speed_lerp» call.SpeedLerp ∷
    names «speed_spt» (call.Speed speed.Spt) ∷
    names «speed_tps» (call.Speed speed.Tps) ∷
    names «speed_tpm» (call.Speed speed.Tpm) ∷
    names «start_up» (call.Question question.StartUp) ∷
    names «sval_raw» (call.Question question.SvalRaw) ∷ []

abbrev pub rows_t : List Row
rows_t =
    names «time_fromu» (call.Time time.FromU) ∷
    names «time_fromf» (call.Time time.FromF) ∷
    names «time_addf» (call.Time time.AddF) ∷
    names «time_subf» (call.Time time.SubF) ∷
    names «time_addu» (call.Time time.AddU) ∷
    names «time_subu» (call.Time time.SubU) ∷
    names «time_cmp» (call.Time time.Cmp) ∷
    names «tween_default» (call.Curve curve.TweenDefault) ∷
    names «tweener_add» call.AddTweener ∷
    names «tweener_set» (call.OneModulator oneModulator.Set) ∷ []

abbrev pub rows_v : List Row
rows_v =
    names «val_add» (call.Value output.Add) ∷
    names «val_sub» (call.Value output.Sub) ∷
    names «val_mul» (call.Value output.Mul) ∷
    names «val_div» (call.Value output.Div) ∷
    names «val_rem» (call.Value output.Rem) ∷
    names «val_neg» (call.Value output.Neg) ∷
    names «val_raw» (call.Question question.ValRaw) ∷ []

abbrev pub rows_w : List Row
rows_w =
    names «wave» (call.Curve curve.Wave) ∷
    names «when» (call.Question question.When) ∷ []

abbrev pub rows : List Row
rows = rows_c ++ (rows_d ++ (rows_e ++ (rows_f ++ (rows_l ++ (rows_m ++ (rows_n ++ (rows_s ++ (rows_t ++ (rows_v ++ rows_w)))))))))

-- one row: its call, where the word is its name, and else what the other rows say
unfoldable pub row_of : List ℕ → List ℕ → Call → Option Call → Option Call
row_of w name call other = cond (same_bytes w name) (Some call) other

-- the call of the row whose name the word is, where there is such a row. No name stands twice: `once` in
-- proofs/Once.antt
unfoldable pub call_in : List ℕ → List Row → Option Call
call_in w [] = None
call_in w (r ∷ rs) = row_of w r.name r.call (call_in w rs)

unfoldable pub call_of : List ℕ → Option Call
call_of w = call_in w rows

-- the rows from one place up to another are enough for each word that begins with a byte
pub record Enough (first from to : ℕ) : Type 0 where
  pub answers : (w : List ℕ) → call_in (first ∷ w) (slice_range rows from to) ≡ call_of (first ∷ w)
