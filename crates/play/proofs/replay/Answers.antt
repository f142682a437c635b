-- `replay` meets its contract: it begins with a fresh station. Assumes nothing.
use mathlib.Core.Path.{ap, ◌∙◌}
use lib.ListN.{length}
use Rattle.recording.specs.Recordings.{tape_at}
use Rattle.play.specs.Asked.{taken_on}
use Rattle.play.specs.Replays.{end_of, replayed, replay_of}
use Rattle.play.proofs.replay.Goals as goal

pub returns : goal.returns
unfolding replay_of
returns c = c.records-verdict.ensures ∙ ap (λ st. replayed (length c.args.s.now) (end_of taken_on 0 st (tape_at c.args.s.now 0))) c.new-station.ensures
