-- An accepted remove, by the rules.
use Rattle.std.proofs.Common.{◌≡◌, ℕ, suc, ◌+◌, ◌-◌, ◌*◌, ◌^◌, ◌<◌, ◌≤◌, true, false, ltb, ◌⊎◌, List, [], ◌∷◌, ◌++◌, length, take, drop, set, sym, refl, ap, ◌∙◌, subst, inl, inr, mul-le-mul_left, arith}
use Rattle.std.proofs.lemmas.List.{length-append, length-map, length-take-le, get_or_at}
use Rattle.std.proofs.lemmas.Bool.{lt-ltb, le-ltb, cond-true, cond-false, and_from, and_left, and_right}
use Rattle.dictionary.specs.Pairs.{Pairs, among}
use Rattle.key.specs.Widths.{half, buckets_for}
use Rattle.entry.specs.Lists.{at, without, filled}
use Rattle.links.specs.Orders.{holder, last_from, Before}
use Rattle.links.proofs.Orders.{all_among}
use Rattle.buckets.specs.declared.Table.{Table}
use Rattle.buckets.specs.Tables.{rep_of, size_of, next_of, prev_of, order_of, rest_of}
use Rattle.buckets.proofs.Lays.{order_is, neighbours}
use Rattle.avl.specs.declared.pool.Pool.{Pool}
use Rattle.forest.specs.Forests.{Forest, items_of, tree_of, row_of, Replanted}
use Rattle.ordered.specs.declared.calls.Rebuilding.TheVariants.{Unchanged, Merge, MergeSplit}
use Rattle.rules.specs.Buckets.{Bucket, hollow, size, flat, several, here, place, lowest, Spread}
use Rattle.rules.specs.Changes.{with_items, merged, join_at, split_at, share_at, shrunk, still}
use Rattle.rules.proofs.Calls.{spot, at_spot, changed_items}
use Rattle.rules.proofs.Moves.{join_alike}
use Rattle.rules.proofs.Running.{few_buckets}
use Rattle.rules.proofs.Spreads.{rise_without, rise_flat, without_size, total_flat}
use Rattle.rows.specs.Rows.{bucket, row}
use Rattle.rows.proofs.Cuts.{at_cut, ahead_cut}
use Rattle.rows.proofs.Served.{InRow, placed, here_items}
use Rattle.inside.specs.declared.Inside.{Inside}
use Rattle.inside.specs.declared.Rebuilt.{Rebuilt}
use Rattle.inside.specs.Leaving.{mended, without_entry, Did}
use Rattle.inside.specs.Whole.{Whole}
use Rattle.inside.proofs.Enter.{row_replanted}
use Rattle.inside.proofs.Near.{none_behind, none_before}
use Rattle.inside.proofs.Parts.{held_in}
use Rattle.inside.proofs.Splits.{among_right, among_first}

-- ---- a bucket that mends another: the one before it, or the first itself
pub record Partner (order pre : List ℕ) (left : ℕ) : Type 0 where
  pub front : List ℕ
  pub other : ℕ
  pub rest : List ℕ
  pub is : order ≡ front ++ left ∷ other ∷ rest
  pub long : length front ≡ length pre - 1

abbrev all_but : ℕ → List ℕ → List ℕ
all_but x [] = []
all_but x (y ∷ ys) = x ∷ all_but y ys

last_split : (x : ℕ) (xs r : List ℕ) → x ∷ xs ++ r ≡ all_but x xs ++ last_from x xs ∷ r
last_split x [] r = refl
last_split x (y ∷ ys) r = ap (λ l. x ∷ l) (last_split y ys r)

but_long : (x : ℕ) (xs : List ℕ) → length (all_but x xs) ≡ length xs
but_long x [] = refl
but_long x (y ∷ ys) = ap suc (but_long y ys)

module _ (t : Table) (pre : List ℕ) (n : ℕ) (post : List ℕ) (is : order_of t ≡ pre ++ n ∷ post) where
  pub partner_before : 0 < n → Partner (order_of t) pre (prev_of t n)
  partner_before h = go pre is (neighbours t pre n post is).0
    where
      go : (xs : List ℕ) → order_of t ≡ xs ++ n ∷ post → Before xs (prev_of t n) → Partner (order_of t) xs (prev_of t n)
      go [] e b = absurd (let q : 0 ∷ rest_of t ≡ n ∷ post = sym (order_is t) ∙ e in let z : 0 ≡ n = cc in omega arith)
      go (x ∷ xs) e b = record {
        front = all_but x xs;
        other = n;
        rest = post;
        is = e ∙ (last_split x xs (n ∷ post) ∙ ap (λ p. all_but x xs ++ p ∷ n ∷ post) (sym b));
        long = omega (arith, but_long x xs);
      }

  pub partner_first : n ≡ 0 → 2 ≤ length (order_of t) → Partner (order_of t) pre 0
  partner_first z long =
      let none = none_before t pre n post is z in
      go post (is ∙ (ap (λ p. p ++ n ∷ post) none ∙ ap (λ m. m ∷ post) z)) (ap length none)
    where
      go : (ys : List ℕ) → order_of t ≡ 0 ∷ ys → length pre ≡ 0 → Partner (order_of t) pre 0
      go [] e l = absurd (omega (arith, ap length e, long))
      go (y ∷ ys) e l = record { front = []; other = y; rest = ys; is = e; long = omega (arith, l) }

pub partner_stands : (order pre : List ℕ) (left : ℕ) → Partner order pre left → among left order ≡ true
partner_stands order pre left x = subst (λ o. among left o ≡ true) (sym x.is) (among_right left x.front (left ∷ x.other ∷ x.rest) (among_first left (x.other ∷ x.rest)))

pub partner_next : (t : Table) → (pre : List ℕ) (left : ℕ) → Partner (order_of t) pre left → next_of t left ≡ 0 → ⊥
partner_next t pre left x z = omega (arith, ap length (none_behind t x.front left (x.other ∷ x.rest) x.is z))

-- ---- the sizes of two neighbours, and what a merge makes of them
pub few_orders : (t : Table) → length (order_of t) ≤ 128
few_orders t = omega (arith, ap length (order_is t), t.stands.whole)

module _ (t : Table) (p : Pool) (fo : Forest t p) (n m : ℕ) (pre post : List ℕ) (is : order_of t ≡ pre ++ n ∷ m ∷ post) where
  sized : (x : ℕ) → among x (order_of t) ≡ true → length (items_of t p x) ≡ size_of t x
  sized x h = sym (all_among (λ n. size_of t n ≡ length (items_of t p n)) (order_of t) x fo.sizes h)

  pub size_left : size (here (length pre) (row_of t p)) ≡ size_of t n
  size_left =
      ap (λ l. size (here (length pre) (row (rep_of t) (items_of t p) l))) is
      ∙ (ap size (at_cut (bucket (rep_of t) (items_of t p)) hollow pre n (m ∷ post))
      ∙ sized n (subst (λ o. among n o ≡ true) (sym is) (among_right n pre (n ∷ m ∷ post) (among_first n (m ∷ post)))))

  pub size_right : size (here (length pre + 1) (row_of t p)) ≡ size_of t m
  size_right =
      ap (λ l. size (here (length pre + 1) (row (rep_of t) (items_of t p) l))) is
      ∙ (ap size (ahead_cut (bucket (rep_of t) (items_of t p)) hollow pre n (m ∷ post))
      ∙ sized m (subst (λ o. among m o ≡ true) (sym is) (among_right m pre (n ∷ m ∷ post) (among_right m (n ∷ []) (m ∷ post) (among_first m post)))))

  pub row_long : length pre + 1 < length (row_of t p)
  row_long = omega (arith, length-map (order_of t) (bucket (rep_of t) (items_of t p)), ap length is, length-append pre (n ∷ m ∷ post))

pub joined_size : (w l : ℕ) (s : List Bucket) → l + 1 < length s → size (here l (join_at w l s).after) ≡ size (here l s) + size (here (l + 1) s)
unfolding join_at
joined_size w l s h =
    ap size (get_or_at (take l s) (merged (here l s) (here (l + 1) s)) (drop (l + 2) s) hollow l (length-take-le l s (omega arith)))
    ∙ length-append (here l s).items (here (l + 1) s).items

pub joined_spread : (w top l : ℕ) (s : List Bucket) → l + 1 < length s → Spread top s → Spread top (join_at w l s).after
unfolding join_at
joined_spread w top l s h sp = (join_alike top s l h sp).spread

pub here_size : (t : Table) (p : Pool) (n : ℕ) (pre post : List ℕ) → order_of t ≡ pre ++ n ∷ post → size (here (length pre) (row_of t p)) ≡ length (items_of t p n)
here_size t p n pre post is =
    ap (λ l. size (here (length pre) (row (rep_of t) (items_of t p) l))) is ∙ ap size (at_cut (bucket (rep_of t) (items_of t p)) hollow pre n post)

pub did_join : (w l : ℕ) (s s' : List Bucket) (f : ℕ) → size (here l s) + size (here (l + 1) s) ≤ 4 * half w → s' ≡ (join_at w l s).after → f ≡ (join_at w l s).frames →
    Did (record { frames = f; rebuilding = Merge }) s' (mended w l s)
unfolding join_at
did_join w l s s' f h r e =
    subst (Did (record { frames = f; rebuilding = Merge }) s') (sym (cond-false (ltb (4 * half w) (size (here l s) + size (here (l + 1) s))) (share_at w l s) (join_at w l s) (le-ltb (4 * half w) _ h)))
    (record { row = r; frames = e; rebuilding = refl })

pub did_share : (w l : ℕ) (s s₁ s₂ : List Bucket) (f₁ f₂ : ℕ) → 4 * half w < size (here l s) + size (here (l + 1) s) → s₁ ≡ (join_at w l s).after → f₁ ≡ (join_at w l s).frames →
    s₂ ≡ (split_at w l s₁).after → f₂ ≡ (split_at w l s₁).frames → Did (record { frames = f₁ + f₂; rebuilding = MergeSplit }) s₂ (mended w l s)
unfolding share_at
did_share w l s s₁ s₂ f₁ f₂ h r₁ e₁ r₂ e₂ =
    subst (Did (record { frames = f₁ + f₂; rebuilding = MergeSplit }) s₂) (sym (cond-true (ltb (4 * half w) (size (here l s) + size (here (l + 1) s))) (share_at w l s) (join_at w l s) (lt-ltb (4 * half w) _ h)))
    (record {
      row = r₂ ∙ ap (λ x. (split_at w l x).after) r₁;
      frames = ap (λ x. x + f₂) e₁ ∙ ap (λ x. (join_at w l s).frames + x) (e₂ ∙ ap (λ x. (split_at w l x).frames) r₁);
      rebuilding = refl;
    })

-- ---- the ways of the rules
lone : (s : List Bucket) → length s < 2 → several s ≡ false
lone [] h = refl
lone (b ∷ []) h = refl
lone (b ∷ c ∷ s) h = absurd (omega arith)

many : (s : List Bucket) → 2 ≤ length s → several s ≡ true
many [] h = absurd (omega arith)
many (b ∷ []) h = absurd (omega arith)
many (b ∷ c ∷ s) h = refl

pub shrunk_still : (w i : ℕ) (s : List Bucket) → (half w ≤ size (here i s)) ⊎ (length s < 2) → shrunk w i s ≡ still s
unfolding shrunk
shrunk_still w i s (inl h) = cond-false _ _ _ (and_left (ltb (size (here i s)) (half w)) (several s) (le-ltb _ _ h))
shrunk_still w i s (inr h) = cond-false _ _ _ (and_right (ltb (size (here i s)) (half w)) (several s) (lone s h))

pub shrunk_mended : (w i : ℕ) (s : List Bucket) → size (here i s) < half w → 2 ≤ length s → shrunk w i s ≡ mended w (i - 1) s
unfolding shrunk
shrunk_mended w i s h long = cond-true _ _ _ (and_from (ltb (size (here i s)) (half w)) (several s) (lt-ltb _ _ h) (many s long))

-- ---- the row without the entry
module _ (w : ℕ) (f : Pairs) (room tally : ℕ) (i : Inside) (big : 8 ≤ w) (wh : Whole w f room tally i) (k : ℕ) (h : k < 2 ^ w) (n : ℕ)
    (here_n : n ≡ holder (rep_of i.grove.table) (order_of i.grove.table) k) (some : filled (at k (items_of i.grove.table i.grove.pool n)) ≡ true) where
  abbrev pub s : List Bucket
  s = row_of i.grove.table i.grove.pool

  pub c : InRow (rep_of i.grove.table) (order_of i.grove.table) k n
  c = subst (InRow (rep_of i.grove.table) (order_of i.grove.table) k) (sym here_n) (held_in w f i.grove.table wh.trie k)

  items_here : (here (place k s) s).items ≡ items_of i.grove.table i.grove.pool n
  items_here = here_items (rep_of i.grove.table) (items_of i.grove.table i.grove.pool) (tree_of i.grove.table i.grove.pool) (order_of i.grove.table) k n c

  pub at_place : place k s ≡ length c.pre
  at_place = placed (rep_of i.grove.table) (items_of i.grove.table i.grove.pool) (tree_of i.grove.table i.grove.pool) (order_of i.grove.table) k n c

  pub some_counted : 1 ≤ i.count
  some_counted =
      let sp = spot w i.limit k s wh.buckets h in
      let held : filled (at k (flat s)) ≡ true = ap filled (at_spot w k (place k s) s sp ∙ ap (at k) items_here) ∙ some in
      omega (arith, wh.counted, total_flat s, without_size _ _ k (flat s) (rise_flat (2 ^ w) s wh.buckets.spread) held)

  pub left_spread : Spread (2 ^ w) (without_entry k s)
  left_spread =
      let sp = spot w i.limit k s wh.buckets h in
      (changed_items w k (place k s) s sp (without k (here (place k s) s).items)
      (rise_without (here (place k s) s).rep (lowest (2 ^ w) (drop (place k s + 1) s)) k (here (place k s) s).items sp.low sp.high sp.mine)).0

  pub left_room : (w + 1) * length (order_of i.grove.table) ≤ room
  left_room =
      let few : length (order_of i.grove.table) ≤ buckets_for w i.limit = omega (arith, few_buckets w i.limit s big wh.buckets, length-map (order_of i.grove.table) (bucket (rep_of i.grove.table) (items_of i.grove.table i.grove.pool))) in
      omega (arith, wh.fits, mul-le-mul_left (w + 1) few)

  module _ (u : Table) (q : Pool) (fu : Forest u q) (re : Replanted i.grove.table i.grove.pool u q n (without k (items_of i.grove.table i.grove.pool n))) where
    pub row_left : row_of u q ≡ without_entry k s
    row_left =
        row_replanted i.grove.table u i.grove.pool q n (without k (items_of i.grove.table i.grove.pool n)) c.pre c.post c.is wh.trie.ordered.rises re
        ∙ (ap (λ j. set s j (with_items (here j s) (without k (items_of i.grove.table i.grove.pool n)))) (sym at_place)
        ∙ ap (λ es. set s (place k s) (with_items (here (place k s) s) (without k es))) (sym items_here))

    pub cut_left : order_of u ≡ c.pre ++ n ∷ c.post
    cut_left = re.kept.order ∙ c.is

    pub size_after : size (here (place k s) (without_entry k s)) ≡ size_of u n
    size_after =
        ap (λ l. size (here (place k s) l)) (sym row_left)
        ∙ (ap (λ j. size (here j (row_of u q))) at_place
        ∙ (here_size u q n c.pre c.post cut_left
        ∙ sym (all_among (λ n. size_of u n ≡ length (items_of u q n)) (order_of u) n fu.sizes
        (subst (λ o. among n o ≡ true) (sym cut_left) (among_right n c.pre (n ∷ c.post) (among_first n c.post))))))

    pub long_after : length (without_entry k s) ≡ length (order_of u)
    long_after = ap length (sym row_left) ∙ length-map (order_of u) (bucket (rep_of u) (items_of u q))

    pub left_still : (half w ≤ size_of u n) ⊎ (length (order_of u) < 2) → Did (record { frames = 0; rebuilding = Unchanged }) (row_of u q) (shrunk w (place k s) (without_entry k s))
    left_still way =
        let way' : (half w ≤ size (here (place k s) (without_entry k s))) ⊎ (length (without_entry k s) < 2) = elim way [ inl e ↦ inl (omega (arith, size_after)) | inr e ↦ inr (omega (arith, long_after)) ] in
        subst (Did (record { frames = 0; rebuilding = Unchanged }) (row_of u q)) (sym (shrunk_still w (place k s) (without_entry k s) way')) (record { row = row_left; frames = refl; rebuilding = refl })

    pub left_mended : (r : Rebuilt) (s' : List Bucket) (l : ℕ) → size_of u n < half w → 2 ≤ length (order_of u) → l ≡ length c.pre - 1 → Did r s' (mended w l (row_of u q)) → Did r s' (shrunk w (place k s) (without_entry k s))
    left_mended r s' l few long e did =
        subst (Did r s') (sym (shrunk_mended w (place k s) (without_entry k s) (omega (arith, size_after)) (omega (arith, long_after))))
        (subst (λ x. Did r s' (mended w (place k s - 1) x)) row_left
        (subst (λ j. Did r s' (mended w j (row_of u q))) (e ∙ ap (λ x. x - 1) (sym at_place)) did))
