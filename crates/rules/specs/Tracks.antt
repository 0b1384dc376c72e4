-- The cases that were worked out on the test track.
--
--   Tracks   all of them, in one list
use Rattle.std.specs.Prelude.{◌≡◌, ℕ, zero, suc, ◌+◌, List, [], ◌∷◌, map, replicate, Some, None, Ok, Err, Result}
use Rattle.key.specs.declared.kinds.Station.{Station}
use Rattle.key.specs.declared.kinds.Moment.{Moment}
use Rattle.key.specs.Kinds.{station_bits, moment_bits}
use Rattle.entry.specs.declared.Entry.{Entry}
use Rattle.ordered.specs.declared.calls.Call.{Call}
use Rattle.ordered.specs.declared.calls.Call.TheVariants.{Add, Remove, Find, Next, Last}
use Rattle.ordered.specs.declared.calls.Rebuilding.{Rebuilding}
use Rattle.ordered.specs.declared.calls.Rebuilding.TheVariants.{Unchanged, Split, Merge}
use Rattle.ordered.specs.declared.refusal.Refusal.{Refusal}
use Rattle.ordered.specs.declared.refusal.Refusal.TheVariants.{Capacity, Absent, Nothing}
use Rattle.ordered.specs.Fitness.{fitness}
use Rattle.ordered.specs.Runs.{Asked}
use Rattle.rules.specs.Buckets.{Bucket, new, size}
use Rattle.rules.specs.Steps.{Reply, step}
use Rattle.rules.specs.Runs.{after, replies}

-- a zone index with limit 64: w is 8
abbrev pub asks : Call → List Bucket → Reply
asks c s = (step 8 64 c [] s).reply

-- the outcome, the frames and the rebuilding
abbrev pub met : Call → List Bucket → Result Entry Refusal × ℕ × Rebuilding
met c s = ((asks c s).told.outcome, (asks c s).frames, (asks c s).rebuilding)

abbrev pub zone : ℕ → Entry
zone k = record { key = k; note = 0 }

abbrev pub adds : ℕ → ℕ → List Asked
adds k zero = []
adds k (suc n) = record { call = Add k 0; places = [] } ∷ adds (k + 1) n

abbrev pub removes : ℕ → ℕ → List Asked
removes k zero = []
removes k (suc n) = record { call = Remove k; places = [] } ∷ removes (k + 1) n

abbrev pub rebuilds : List Asked → List Bucket → List Rebuilding
rebuilds cs s = map (λ (r : Reply). r.rebuilding) (replies 8 64 cs s)

-- the representatives, with the sizes of their buckets
abbrev pub shape : List Bucket → List (ℕ × ℕ)
shape s = map (λ (b : Bucket). (b.rep, size b)) s

unfoldable pub twenty : List Bucket
twenty = after 8 64 (adds 1 20) new

unfoldable pub twenty_one : List Bucket
twenty_one = after 8 64 (adds 21 1) twenty

unfoldable pub fifteen : List Bucket
fifteen = after 8 64 (removes 1 6) twenty_one

unfoldable pub fourteen : List Bucket
fourteen = after 8 64 (removes 7 1) fifteen

pub record Tracks : Type 0 where
  pub station : (s : Station) → s.piste ≡ 3 → s.decimetre ≡ 5 → station_bits s ≡ 50331653
  pub moment : (t : Moment) → t.second ≡ 1 → t.sequence ≡ 2 → moment_bits t ≡ 65538
  pub fits : fitness 32 383 768 0 0 ≡ None
  pub too_many : fitness 32 384 768 0 0 ≡ Some Capacity
  pub missing : met (Find 48) new ≡ (Err Absent, 4, Unchanged)
  pub missing_zero : met (Find 0) new ≡ (Err Absent, 5, Unchanged)
  pub quiet : rebuilds (adds 1 20) new ≡ replicate 20 Unchanged
  pub splits : met (Add 21 0) twenty ≡ (Ok (zone 21), 22, Split)
  pub in_two : shape twenty_one ≡ (0, 10) ∷ (11, 11) ∷ []
  pub last_ten : met (Last 10) twenty_one ≡ (Ok (zone 10), 5, Unchanged)
  pub none_next : (asks (Next 22) twenty_one).told.outcome ≡ Err Nothing
  pub quiet_too : rebuilds (removes 1 6) twenty_one ≡ replicate 6 Unchanged
  pub merges : met (Remove 7) fifteen ≡ (Ok (zone 7), 22, Merge)
  pub in_one : shape fourteen ≡ (0, 14) ∷ []
