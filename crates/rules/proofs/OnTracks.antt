-- The track cases, by computation.
use Rattle.std.proofs.Common.{refl}
use Rattle.levels.specs.Nodes.{node_at}
use Rattle.levels.specs.Counts.{gets_by, ends}
use Rattle.rules.specs.Changes.{grown, shrunk, split_at, join_at, share_at}
use Rattle.rules.specs.Steps.{step, served, added, removed}
use Rattle.rules.specs.Runs.{after, replies}
use Rattle.rules.specs.Tracks.{Tracks, twenty, twenty_one, fifteen, fourteen}

pub on_tracks : Tracks
unfolding node_at gets_by ends step served added removed grown shrunk split_at join_at share_at after replies twenty twenty_one fifteen fourteen
on_tracks = record {
  station = λ s p d. rw (p, d) refl;
  moment = λ t p d. rw (p, d) refl;
  fits = refl;
  too_many = refl;
  missing = refl;
  missing_zero = refl;
  quiet = refl;
  splits = refl;
  in_two = refl;
  last_ten = refl;
  none_next = refl;
  quiet_too = refl;
  merges = refl;
  in_one = refl;
}
