-- What buckets mean as an ordered index.
--
--   cost_of   what a call on the buckets costs, given the visits of its trees
--   view_of   the view of an index that is not shut, over a dictionary with some tally and pairs
--   Replied   an answer that carries what the rules say
use Rattle.std.specs.Prelude.{◌≡◌, ℕ, ◌*◌, false, List, []}
use Rattle.dictionary.specs.Pairs.{Pairs}
use Rattle.key.specs.Widths.{half}
use Rattle.ordered.specs.declared.calls.Answer.{Answer}
use Rattle.ordered.specs.declared.calls.Call.{Call}
use Rattle.ordered.specs.Meaning.{Cost, View}
use Rattle.rules.specs.Buckets.{Bucket, flat}
use Rattle.rules.specs.Steps.{Reply, step}
use Rattle.rules.specs.Runs.{saved}

abbrev pub cost_of : ℕ → ℕ → (Call → ℕ) → List Bucket → Call → Cost
cost_of w limit visits s c =
    let r = (step w limit c [] s).reply in
    record { frames = r.frames; visits = visits c; rebuilding = r.rebuilding }

abbrev pub view_of : ℕ → ℕ → ℕ → Pairs → (Call → ℕ) → List Bucket → View
view_of w limit tally pairs visits s = record {
  entries = flat s;
  limit = limit;
  width = w;
  shut = false;
  tally = tally;
  pairs = pairs;
  credit = 9 * saved (half w) s;
  cost = cost_of w limit visits s;
}

pub record Replied (r : Answer) (path : ℕ) (t : Reply) : Type 0 where
  pub outcome : r.outcome ≡ t.told.outcome
  pub number : r.number ≡ t.told.number
  pub frames : r.frames ≡ t.frames
  pub visits : r.visits ≡ path
  pub rebuilding : r.rebuilding ≡ t.rebuilding
