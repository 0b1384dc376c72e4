-- A y-fast index as its callers see it.
--
--   closed_view   a shut index: no entry may stand, no call takes a frame, and its dictionary is as it was
--   open_view     one that is not shut: its buckets by the rules, and the visits on its trees
--   seen_as       either
use Rattle.std.specs.Prelude.{ℕ, true, [], Option, None, Some}
use Rattle.dictionary.specs.Pairs.{Pairs}
use Rattle.ordered.specs.declared.calls.Rebuilding.TheVariants.{Unchanged}
use Rattle.ordered.specs.Meaning.{View}
use Rattle.rules.specs.Views.{view_of}
use Rattle.forest.specs.Forests.{row_of, grove_of}
use Rattle.runs.specs.States.{visits}
use Rattle.inside.specs.declared.Inside.{Inside}

abbrev pub closed_view : ℕ → Pairs → ℕ → View
closed_view w f tally = record {
  entries = [];
  limit = 0;
  width = w;
  shut = true;
  tally = tally;
  pairs = f;
  credit = 0;
  cost = λ c. record { frames = 0; visits = 0; rebuilding = Unchanged };
}

abbrev pub open_view : ℕ → Pairs → ℕ → Inside → View
open_view w f tally i = view_of w i.limit tally f (λ c. visits w c (row_of i.grove.table i.grove.pool) (grove_of i.grove.table i.grove.pool)) (row_of i.grove.table i.grove.pool)

abbrev pub seen_as : ℕ → Pairs → ℕ → Option Inside → View
seen_as w f tally None = closed_view w f tally
seen_as w f tally (Some i) = open_view w f tally i
