-- What an ordered index means to its callers, whatever it is built of.
--
--   Cost          the frames, the visits and the rebuilding of a call
--   View          an index as its callers see it: entries by bits, limit, width, whether it is shut, the
--                 tally and the pairs of its dictionary, the frames that its changes have paid ahead for
--                 rebuildings, and what each call costs as things stand
--   told          what an index tells of a call with the caller's places: as the sorted list, or that it is shut
--   after         its entries after the call
--   Stepped       a call and its answer, with the view before and after
--   Lawful        what always holds of a view
use Rattle.std.specs.Prelude.{◌≡◌, ℕ, ◌+◌, ◌*◌, ◌^◌, ◌<◌, ◌≤◌, Bool, cond, List, length}
use Rattle.std.specs.List.{AllByRecursion}
use Rattle.dictionary.specs.Pairs.{Pairs, raised}
use Rattle.key.specs.Widths.{most}
use Rattle.entry.specs.declared.Entry.{Entry}
use Rattle.entry.specs.Lists.{Rising}
use Rattle.ordered.specs.declared.calls.Answer.{Answer}
use Rattle.ordered.specs.declared.calls.Call.{Call}
use Rattle.ordered.specs.declared.calls.Rebuilding.{Rebuilding}
use Rattle.ordered.specs.declared.calls.Rebuilding.TheVariants.{Unchanged}
use Rattle.ordered.specs.declared.refusal.Refusal.TheVariants.{Shut}
use Rattle.ordered.specs.Sorted.{Told, Listed, refused, listed, changed}

pub record Cost : Type 0 where
  pub frames : ℕ
  pub visits : ℕ
  pub rebuilding : Rebuilding

pub record View : Type 0 where
  pub entries : List Entry
  pub limit : ℕ
  pub width : ℕ
  pub shut : Bool
  pub tally : ℕ
  pub pairs : Pairs
  pub credit : ℕ
  pub cost : Call → Cost

unfoldable pub answers : View → Call → List Entry → Listed Entry
answers v call places =
    let list = listed v.width v.limit call places v.entries in
    let closed : Listed Entry = record { told = refused Shut places; after = v.entries } in
    cond v.shut closed list

abbrev pub told : View → Call → List Entry → Told
told v call places = (answers v call places).told

abbrev pub after : View → Call → List Entry → List Entry
after v call places = (answers v call places).after

pub record Stepped (v : View) (call : Call) (places : List Entry) (r : Answer) (places' : List Entry) (v' : View) : Type 0 where
  pub outcome : r.outcome ≡ (told v call places).outcome
  pub number : r.number ≡ (told v call places).number
  pub written : places' ≡ (told v call places).places
  pub frames : r.frames ≡ (v.cost call).frames
  pub visits : r.visits ≡ (v.cost call).visits
  pub rebuilding : r.rebuilding ≡ (v.cost call).rebuilding
  pub entries : v'.entries ≡ after v call places
  pub limit : v'.limit ≡ v.limit
  pub width : v'.width ≡ v.width
  pub shut : v'.shut ≡ v.shut
  pub tally : v'.tally ≡ raised v.tally r.frames
  -- each change pays nine frames ahead, and a rebuilding is paid from what was paid ahead
  pub paid : r.frames + v'.credit ≤ most v.width + v.credit + 9 * changed call r.outcome
  pub few : r.frames ≤ 255
  pub short : r.visits ≤ 20
  -- a refusal or a question alters nothing but the tally
  pub still : changed call r.outcome ≡ 0 → (r.rebuilding ≡ Unchanged) × (v'.pairs ≡ v.pairs) × (v'.credit ≡ v.credit) × (v'.cost ≡ v.cost)

pub record Lawful (w : ℕ) (v : View) : Type 0 where
  pub rising : Rising v.entries
  pub keys : AllByRecursion (λ (e : Entry). e.key < 2 ^ w) v.entries
  pub notes : AllByRecursion (λ (e : Entry). e.note < 2 ^ 64) v.entries
  pub within : length v.entries ≤ v.limit
  pub small : v.limit ≤ 512
  pub counts : v.tally < 2 ^ 64
  pub wide : v.width ≡ w
