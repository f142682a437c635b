-- Any two outcomes that a statement allows coincide, for each public function of the crate: `One` of the crate
-- `doubles` says it of the very clause that the check reads off the source, and `Same` of what the table is at exit
-- too. A clause says what the result is, or what it tells, and no two results tell the same. RULES, one-outcome.
-- Assumes nothing.
use Rattle.doubles.proofs.Outcomes.{One, Same, equal}
use Rattle.judge.proofs.Outcomes.{same_told, one_told}
use Rattle.ids.proofs.Outcomes.{same_done, same_added}
use Rattle.clock_table.proofs.Clocks.new.Reads as new
use Rattle.clock_table.proofs.Clocks.new.Kinds as new-kinds
use Rattle.clock_table.proofs.Clocks.add.Reads as add
use Rattle.clock_table.proofs.Clocks.add.Kinds as add-kinds
use Rattle.clock_table.proofs.Clocks.look.Reads as look
use Rattle.clock_table.proofs.Clocks.look.Kinds as look-kinds
use Rattle.clock_table.proofs.Clocks.remove.Reads as remove
use Rattle.clock_table.proofs.Clocks.remove.Kinds as remove-kinds
use Rattle.clock_table.proofs.Clocks.start.Reads as start
use Rattle.clock_table.proofs.Clocks.start.Kinds as start-kinds
use Rattle.clock_table.proofs.Clocks.stop.Reads as stop
use Rattle.clock_table.proofs.Clocks.stop.Kinds as stop-kinds
use Rattle.clock_table.proofs.Clocks.reset.Reads as reset
use Rattle.clock_table.proofs.Clocks.reset.Kinds as reset-kinds
use Rattle.clock_table.proofs.Clocks.set_speed.Reads as set-speed
use Rattle.clock_table.proofs.Clocks.set_speed.Kinds as set-speed-kinds
use Rattle.clock_table.proofs.Clocks.time.Reads as time
use Rattle.clock_table.proofs.Clocks.time.Kinds as time-kinds
use Rattle.clock_table.proofs.Clocks.ticking.Reads as ticking
use Rattle.clock_table.proofs.Clocks.ticking.Kinds as ticking-kinds
use Rattle.clock_table.proofs.Clocks.speed.Reads as speed
use Rattle.clock_table.proofs.Clocks.speed.Kinds as speed-kinds

pub one_new : One 0 new-kinds.ps new-kinds.r new.Post
one_new κs a x y s t = equal

pub one_add : Same 1 add-kinds.ps add-kinds.r add.Post (λ κs s. s.0.now)
one_add κs a x y s t = same_added x y s.0.now t.0.now

pub one_look : One 1 look-kinds.ps look-kinds.r look.Post
one_look κs a x y s t = one_told same_told x y

pub one_remove : Same 1 remove-kinds.ps remove-kinds.r remove.Post (λ κs s. s.0.now)
one_remove κs a x y s t = same_done x y s.0.now t.0.now

pub one_start : Same 1 start-kinds.ps start-kinds.r start.Post (λ κs s. s.0.now)
one_start κs a x y s t = same_done x y s.0.now t.0.now

pub one_stop : Same 1 stop-kinds.ps stop-kinds.r stop.Post (λ κs s. s.0.now)
one_stop κs a x y s t = same_done x y s.0.now t.0.now

pub one_reset : Same 1 reset-kinds.ps reset-kinds.r reset.Post (λ κs s. s.0.now)
one_reset κs a x y s t = same_done x y s.0.now t.0.now

pub one_set_speed : Same 1 set-speed-kinds.ps set-speed-kinds.r set-speed.Post (λ κs s. s.0.now)
one_set_speed κs a x y s t = same_done x y s.0.now t.0.now

pub one_time : One 1 time-kinds.ps time-kinds.r time.Post
one_time κs a x y s t = one_told same_told x y

pub one_ticking : One 1 ticking-kinds.ps ticking-kinds.r ticking.Post
one_ticking κs a x y s t = one_told same_told x y

pub one_speed : One 1 speed-kinds.ps speed-kinds.r speed.Post
one_speed κs a x y s t = one_told same_told x y
