use Rattle.std.proofs.Common.{rules, ◌≡◌, ℕ, ◌<◌, get_or, refl}
use Rattle.buckets.specs.Rings.{no_bucket}
use Rattle.buckets.proofs.New.{blank, new_stands, new_fresh}
use Rattle.buckets.proofs.Table.new.Goals as goal

pub invariant_of-result : goal.invariant_of-result
invariant_of-result c =
    let each : (i : ℕ) → i < 128 → get_or c.from_fn.result i no_bucket ≡ blank i = λ i h. let made = (c.from_fn.ensures.items.at i no_bucket h).2 in search (rules, made) in
    record { stands = new_stands c.from_fn.result c.from_fn.ensures.items.long each }

pub returns : goal.returns
returns c =
    let each : (i : ℕ) → i < 128 → get_or c.from_fn.result i no_bucket ≡ blank i = λ i h. let made = (c.from_fn.ensures.items.at i no_bucket h).2 in search (rules, made) in
    new_fresh c.from_fn.result c.from_fn.ensures.items.long each _ refl refl
