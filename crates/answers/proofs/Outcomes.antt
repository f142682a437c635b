-- Any two outcomes that a statement allows coincide, the result and the `Out`: `Same` of the crate `doubles` says it of
-- the very clause that the check reads off the source (`Reads.Post`). RULES, one-outcome. Assumes nothing.
use denote.RattleType.{RattleType}
use denote.Param.Laws.{Laws, IsCopy}
use mir.Syntax.{Dict}
use Rattle.std.specs.declared.clone.Clone
use Rattle.doubles.proofs.Outcomes.{One, equal}
use Rattle.digits.proofs.Outcomes.{Same, same}
use Rattle.answers.specs.declared.Numbered
use Rattle.answers.specs.declared.Shown
use Rattle.answers.proofs.speed.Reads as speed
use Rattle.answers.proofs.speed.Kinds as speed-kinds
use Rattle.answers.proofs.ease.Reads as ease
use Rattle.answers.proofs.ease.Kinds as ease-kinds
use Rattle.answers.proofs.time.Reads as time
use Rattle.answers.proofs.time.Kinds as time-kinds
use Rattle.answers.proofs.id.Reads as id
use Rattle.answers.proofs.id.Kinds as id-kinds
use Rattle.answers.proofs.start.Reads as start
use Rattle.answers.proofs.start.Kinds as start-kinds
use Rattle.answers.proofs.float_map.Reads as float-map
use Rattle.answers.proofs.float_map.Kinds as float-map-kinds
use Rattle.answers.proofs.float_value.Reads as float_value
use Rattle.answers.proofs.float_value.Kinds as float-value-kinds
use Rattle.answers.proofs.refused_by.Reads as refused-by
use Rattle.answers.proofs.refused_by.Kinds as refused-by-kinds
use Rattle.answers.proofs.refused.Reads as refused
use Rattle.answers.proofs.refused.Kinds as refused-kinds
use Rattle.answers.proofs.RefusalNumbered.number.Reads as number-of-refusal
use Rattle.answers.proofs.RefusalNumbered.number.Kinds as number-of-refusal-kinds
use Rattle.answers.proofs.U32Numbered.number.Reads as number-of-number
use Rattle.answers.proofs.U32Numbered.number.Kinds as number-of-number-kinds
use Rattle.answers.proofs.F64Shown.show.Reads as show-float
use Rattle.answers.proofs.F64Shown.show.Kinds as show-float-kinds
use Rattle.answers.proofs.ClockSpeedShown.show.Reads as show-speed
use Rattle.answers.proofs.ClockSpeedShown.show.Kinds as show-speed-kinds
use Rattle.answers.proofs.ClockTimeShown.show.Reads as show-time
use Rattle.answers.proofs.ClockTimeShown.show.Kinds as show-time-kinds
use Rattle.answers.proofs.MappingF64Shown.show.Reads as show-float-map
use Rattle.answers.proofs.MappingF64Shown.show.Kinds as show-float-map-kinds
use Rattle.answers.proofs.ValueF64Shown.show.Reads as show-float-value
use Rattle.answers.proofs.ValueF64Shown.show.Kinds as show-float-value-kinds
use Rattle.answers.proofs.reply.Reads as reply
use Rattle.answers.proofs.reply.Kinds as reply-kinds

pub one_speed : Same 2 speed-kinds.ps speed-kinds.r speed.Post (λ κs s. s.0.now)
one_speed κs a x y s t = same

pub one_ease : Same 2 ease-kinds.ps ease-kinds.r ease.Post (λ κs s. s.0.now)
one_ease κs a x y s t = same

pub one_time : Same 2 time-kinds.ps time-kinds.r time.Post (λ κs s. s.0.now)
one_time κs a x y s t = same

pub one_id : Same 2 id-kinds.ps id-kinds.r id.Post (λ κs s. s.0.now)
one_id κs a x y s t = same

pub one_start : Same 2 start-kinds.ps start-kinds.r start.Post (λ κs s. s.0.now)
one_start κs a x y s t = same

pub one_float_map : Same 2 float-map-kinds.ps float-map-kinds.r float-map.Post (λ κs s. s.0.now)
one_float_map κs a x y s t = same

pub one_float_value : Same 2 float-value-kinds.ps float-value-kinds.r float_value.Post (λ κs s. s.0.now)
one_float_value κs a x y s t = same

pub one_refused_by : Same 2 refused-by-kinds.ps refused-by-kinds.r refused-by.Post (λ κs s. s.0.now)
one_refused_by κs a x y s t = same

pub one_number_of_refusal : One 0 number-of-refusal-kinds.ps number-of-refusal-kinds.r number-of-refusal.Post
one_number_of_refusal κs a x y s t = equal

pub one_number_of_number : One 0 number-of-number-kinds.ps number-of-number-kinds.r number-of-number.Post
one_number_of_number κs a x y s t = equal

-- of each kind of refusal that has a number
pub one_refused :
    (R : RattleType) (L : Laws R) (C : IsCopy R) (k : Numbered.Ghosts R.Denot) (d : Dict) (c : Clone.Ghosts R.Denot) (e : Dict)
    → Same 3 (refused-kinds.ps R L C) (refused-kinds.r R L C) (refused.Post R L C k d c e) (λ κs s. s.0.now)
one_refused R L C k d c e κs a x y s t = same

pub one_show_float : Same 2 show-float-kinds.ps show-float-kinds.r show-float.Post (λ κs s. s.1.0.now)
one_show_float κs a x y s t = same

pub one_show_speed : Same 2 show-speed-kinds.ps show-speed-kinds.r show-speed.Post (λ κs s. s.1.0.now)
one_show_speed κs a x y s t = same

pub one_show_time : Same 2 show-time-kinds.ps show-time-kinds.r show-time.Post (λ κs s. s.1.0.now)
one_show_time κs a x y s t = same

pub one_show_float_map : Same 2 show-float-map-kinds.ps show-float-map-kinds.r show-float-map.Post (λ κs s. s.1.0.now)
one_show_float_map κs a x y s t = same

pub one_show_float_value : Same 2 show-float-value-kinds.ps show-float-value-kinds.r show-float-value.Post (λ κs s. s.1.0.now)
one_show_float_value κs a x y s t = same

-- of each kind of value that has a text, and each kind of refusal
pub one_reply :
    (T R : RattleType) (L : Laws T) (M : Laws R) (C : IsCopy T) (D : IsCopy R) (k : Shown.Ghosts T.Denot) (d : Dict) (c : Clone.Ghosts T.Denot) (e : Dict)
    (l : Numbered.Ghosts R.Denot) (f : Dict) (b : Clone.Ghosts R.Denot) (g : Dict)
    → Same 4 (reply-kinds.ps T R L M C D) (reply-kinds.r T R L M C D) (reply.Post T R L M C D k d c e l f b g) (λ κs s. s.0.now)
one_reply T R L M C D k d c e l f b g κs a x y s t = same
