-- Any two outcomes that a statement allows coincide, what was read and the words that are left
-- (`Rattle.doubles.proofs.Outcomes` has the law). RULES, one-outcome. Assumes nothing.
use Prim.Native.Nat.{ℕ}
use mathlib.Core.List.{List}
use contract.Lifetimes.{Lfts}
use denote.Triple.Clauses.{AtExit}
use borrow.Fn.Kinds.{ParamKind, ResultKind, Out, ended_of}
use denote.RattleType.{RattleType}
use denote.Param.Laws.{Laws, IsCopy}
use mir.Syntax.{Dict}
use Rattle.std.specs.declared.clone.Clone
use Rattle.doubles.proofs.Outcomes.{One, Same, equal}
use Rattle.text.proofs.Outcomes.{same}
use Rattle.values.specs.declared.tweenable.Tweenable
use Rattle.grammar.specs.declared.Spelled
use Rattle.grammar.proofs.F64Spelled.read.Reads as read-float
use Rattle.grammar.proofs.F64Spelled.read.Kinds as read-float-kinds
use Rattle.grammar.proofs.ClockSpeedSpelled.read.Reads as read-speed
use Rattle.grammar.proofs.ClockSpeedSpelled.read.Kinds as read-speed-kinds
use Rattle.grammar.proofs.ended.Reads as ended
use Rattle.grammar.proofs.ended.Kinds as ended-kinds
use Rattle.grammar.proofs.end.Reads as end
use Rattle.grammar.proofs.end.Kinds as end-kinds
use Rattle.grammar.proofs.is.Reads as is
use Rattle.grammar.proofs.is.Kinds as is-kinds
use Rattle.grammar.proofs.float.Reads as float
use Rattle.grammar.proofs.float.Kinds as float-kinds
use Rattle.grammar.proofs.number.Reads as number
use Rattle.grammar.proofs.number.Kinds as number-kinds
use Rattle.grammar.proofs.id.Reads as id
use Rattle.grammar.proofs.id.Kinds as id-kinds
use Rattle.grammar.proofs.speed.Reads as speed
use Rattle.grammar.proofs.speed.Kinds as speed-kinds
use Rattle.grammar.proofs.ease.Reads as ease
use Rattle.grammar.proofs.ease.Kinds as ease-kinds
use Rattle.grammar.proofs.time.Reads as time
use Rattle.grammar.proofs.time.Kinds as time-kinds
use Rattle.grammar.proofs.clock_time.Reads as clock-time
use Rattle.grammar.proofs.clock_time.Kinds as clock-time-kinds
use Rattle.grammar.proofs.start.Reads as start
use Rattle.grammar.proofs.start.Kinds as start-kinds
use Rattle.grammar.proofs.mapping.Reads as mapping
use Rattle.grammar.proofs.mapping.Kinds as mapping-kinds
use Rattle.grammar.proofs.value.Reads as value
use Rattle.grammar.proofs.value.Kinds as value-kinds
use Rattle.grammar.proofs.wave.Reads as wave
use Rattle.grammar.proofs.wave.Kinds as wave-kinds

-- `Same`, of a function for each type of which a mapping's ends can be
abbrev pub Each :
    {A : Type 0} {n : ℕ} (ps : (T : RattleType) → Laws T → IsCopy T → List (ParamKind n)) (r : (T : RattleType) → Laws T → IsCopy T → ResultKind n)
    → ((T : RattleType) (L : Laws T) (C : IsCopy T) → Spelled.Ghosts T.Denot → Dict → Tweenable.Ghosts T.Denot → Dict → Clone.Ghosts T.Denot → Dict → Out n (ps T L C) (r T L C))
    → ((T : RattleType) (L : Laws T) (C : IsCopy T) (κs : Lfts n) → AtExit (ended_of n (ps T L C) (r T L C)) κs → A) → Type 2
Each {A} {n} ps r Post out =
    (T : RattleType) (L : Laws T) (C : IsCopy T) (g : Spelled.Ghosts T.Denot) (b : Dict) (k : Tweenable.Ghosts T.Denot) (d : Dict) (c : Clone.Ghosts T.Denot) (e : Dict)
    → Same n (ps T L C) (r T L C) (Post T L C g b k d c e) (out T L C)

pub one_read_float : Same 2 read-float-kinds.ps read-float-kinds.r read-float.Post (λ κs s. s.0.now)
one_read_float κs a x y s t = same

pub one_read_speed : Same 2 read-speed-kinds.ps read-speed-kinds.r read-speed.Post (λ κs s. s.0.now)
one_read_speed κs a x y s t = same

pub one_mapping : Each mapping-kinds.ps mapping-kinds.r mapping.Post (λ T L C κs s. s.0.now)
one_mapping T L C g b k d c e κs a x y s t = same

pub one_value : Each value-kinds.ps value-kinds.r value.Post (λ T L C κs s. s.0.now)
one_value T L C g b k d c e κs a x y s t = same

pub one_ended : One 2 ended-kinds.ps ended-kinds.r ended.Post
one_ended κs a x y s t = equal

pub one_end : One 2 end-kinds.ps end-kinds.r end.Post
one_end κs a x y s t = equal

pub one_is : One 2 is-kinds.ps is-kinds.r is.Post
one_is κs a x y s t = equal

pub one_float : Same 2 float-kinds.ps float-kinds.r float.Post (λ κs s. s.0.now)
one_float κs a x y s t = same

pub one_number : Same 2 number-kinds.ps number-kinds.r number.Post (λ κs s. s.0.now)
one_number κs a x y s t = same

pub one_id : Same 2 id-kinds.ps id-kinds.r id.Post (λ κs s. s.0.now)
one_id κs a x y s t = same

pub one_speed : Same 2 speed-kinds.ps speed-kinds.r speed.Post (λ κs s. s.0.now)
one_speed κs a x y s t = same

pub one_ease : Same 2 ease-kinds.ps ease-kinds.r ease.Post (λ κs s. s.0.now)
one_ease κs a x y s t = same

pub one_time : Same 2 time-kinds.ps time-kinds.r time.Post (λ κs s. s.0.now)
one_time κs a x y s t = same

pub one_clock_time : Same 2 clock-time-kinds.ps clock-time-kinds.r clock-time.Post (λ κs s. s.0.now)
one_clock_time κs a x y s t = same

pub one_start : Same 2 start-kinds.ps start-kinds.r start.Post (λ κs s. s.0.now)
one_start κs a x y s t = same

pub one_wave : Same 2 wave-kinds.ps wave-kinds.r wave.Post (λ κs s. s.0.now)
one_wave κs a x y s t = same
