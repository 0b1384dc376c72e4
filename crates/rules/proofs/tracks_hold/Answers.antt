use Rattle.rules.proofs.tracks_hold.Goals as goal
use Rattle.rules.proofs.OnTracks.{on_tracks}

pub returns : goal.returns
returns c = on_tracks
