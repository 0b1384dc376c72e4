-- All entries of an index.
use Rattle.std.proofs.Common.{◌≡◌, ℕ, ◌^◌, ◌≤◌, true, [], length, Some, sym, ap, ◌∙◌, arith, pow_mono}
use Rattle.std.specs.List.{flat_map}
use Rattle.dictionary.specs.Pairs.{Pairs, among}
use Rattle.entry.specs.Lists.{between, from}
use Rattle.buckets.specs.Tables.{rep_of, rest_of, order_of}
use Rattle.buckets.proofs.Lays.{order_is}
use Rattle.rules.specs.Buckets.{flat}
use Rattle.rules.proofs.Spreads.{in_rise, rise_flat, from_all, upto_all, total_flat}
use Rattle.forest.specs.Forests.{items_of, row_of}
use Rattle.rows.proofs.Places.{row_flat}
use Rattle.inside.specs.declared.Inside.{Inside}
use Rattle.inside.specs.Spans.{onward, kept_in}
use Rattle.inside.specs.Whole.{Whole}
use Rattle.inside.proofs.Ranges.{onward_cut}

pub zero_held : (i : Inside) → among 0 (order_of i.grove.table) ≡ true
zero_held i = ap (among 0) (order_is i.grove.table)

module _ (w : ℕ) (f : Pairs) (room tally : ℕ) (i : Inside) (wide : w ≤ 60) (wh : Whole w f room tally i) where
  -- every key is in the widest span
  pub all_spanned : between 0 18446744073709551615 (onward i.grove.table i.grove.pool 0) ≡ kept_in (Some i)
  all_spanned =
      let xs = flat (row_of i.grove.table i.grove.pool) in
      let up : 2 ^ w ≤ 2 ^ 60 = pow_mono wide in
      let inner = in_rise _ _ xs (rise_flat (2 ^ w) (row_of i.grove.table i.grove.pool) wh.buckets.spread) in
      let is : onward i.grove.table i.grove.pool 0 ≡ xs =
      onward_cut i.grove.table i.grove.pool [] 0 (rest_of i.grove.table) (order_is i.grove.table)
      ∙ (ap (flat_map (items_of i.grove.table i.grove.pool)) (sym (order_is i.grove.table)) ∙ sym (row_flat (rep_of i.grove.table) (items_of i.grove.table i.grove.pool) (order_of i.grove.table))) in
      ap (between 0 18446744073709551615) is
      ∙ (ap (from 0) (upto_all _ _ 18446744073709551615 xs inner (omega (arith, up)))
      ∙ (from_all _ _ 0 xs inner (omega arith)))

  pub counted_all : i.count ≡ length (kept_in (Some i))
  counted_all = wh.counted ∙ total_flat (row_of i.grove.table i.grove.pool)
