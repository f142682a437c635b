-- `frame` meets its contract: it is undone by a fault of dt or by a clock's refusal, and goes on otherwise. Assumes
-- nothing.
use Rattle.std.proofs.lemmas.Result.{err_from_is_err_and}
use Rattle.station.specs.Stations.{info_in}
use Rattle.station.proofs.frame.Frames.{by_dt, by_clock, went_on}
use Rattle.station.proofs.Station.frame.Goals as goal

pub returns-in_err-accept : goal.returns-in_err-accept
returns-in_err-accept c =
    let p = err_from_is_err_and c.from_residual.result c.from_residual.ensures.1 in
    rw (p.1, p.2) (by_dt _ _ _ (rw (← c.dt_faults.ensures) c.in_err-accept.ensures))

pub turn_modulators-requires : goal.turn_modulators-requires
unfolding info_in
turn_modulators-requires c = rw c.info-info.ensures

pub turn_clocks-requires : goal.turn_clocks-requires
unfolding info_in
turn_clocks-requires c = rw (c.turn_modulators.ensures.info_seeing, c.info-info.ensures)

pub returns-in_err-reports : goal.returns-in_err-reports
returns-in_err-reports c =
    let p = err_from_is_err_and c.from_residual-in_err-reports.result c.from_residual-in_err-reports.ensures.1 in
    rw (p.1, p.2)
    (by_clock _ _ (rw (← c.dt_faults.ensures) c.in_ok-accept.ensures) _ _ _ c.info-info.ensures c.turn_modulators.ensures.slots_turned c.turn_modulators.ensures.info_seeing _ c.in_err-reports.ensures)

pub returns : goal.returns
returns c =
    went_on _ _ (rw (← c.dt_faults.ensures) c.in_ok-accept.ensures) _ _ _ c.info-info.ensures c.turn_modulators.ensures.slots_turned c.turn_modulators.ensures.info_seeing _ _ c.in_ok-reports.ensures
