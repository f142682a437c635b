-- What the proofs of the calls by an id cite, as one set. Assumes nothing.
use Rattle.ids.proofs.Places.{found_inside, room_inside, read_at_lem}

pub ruleset found = (found_inside, room_inside, read_at_lem)
