-- What a sound trie gives the search, and that making, opening and closing keep it sound.
--
--   zero_first, root, closed, choice, counted   what the search needs, and that it chooses the bucket of the key at the counted frames
--   holder_among                                the bucket of a key stands
--   numbers                                     a node's links are below 128
--   same_pairs                                  soundness sees the pairs only
--   sound_count                                 how many pairs there are
--   fresh-..                                    a new table, before representative 0 is set up
--   opened-..                                   a bucket opened in the table, before its representative is set up
--   closed_sound                                a bucket taken away and closed
use Rattle.std.proofs.Common.{◌≡◌, ℕ, zero, suc, ◌+◌, ◌*◌, ◌^◌, ◌<◌, ◌≤◌, true, false, eqb, leb, ◌⊎◌, List, [], ◌∷◌, ◌++◌, map, length, is_some, Some, sym, refl, ap, ◌∙◌, subst, inl, inr, mul-one, arith, pow_pos}
use Rattle.std.specs.List.{AllByRecursion}
use Rattle.std.proofs.ByRecursion.{All-weaker}
use Rattle.std.proofs.lemmas.Bool.{leb-false, eq-eqb, or_left, or_right}
use Rattle.dictionary.specs.Pairs.{Pairs, among, apart, no_pairs}
use Rattle.levels.specs.Nodes.{node_at}
use Rattle.levels.specs.Counts.{gets, searching, turning}
use Rattle.levels.specs.Search.{held, Closed, Deepest}
use Rattle.links.specs.Orders.{Rising, Ordered, ZeroFirst, with_at, put_after, without, holder}
use Rattle.links.specs.Links.{links, chosen, own_levels, node_count}
use Rattle.links.proofs.Orders.{Not, apart_all, all_both, all_parts, rising_parts, rising_below, with_same, with_other, ordered_without}
use Rattle.links.proofs.Present.{links_root, links_closed, frames_present}
use Rattle.links.proofs.Room.{held_count}
use Rattle.links.proofs.Changes.{links_all, links_same, links_none, same_reps, ordered_open, among_put, without_put, length_put, turning_put, own_ends}
use Rattle.links.proofs.Found.{holder_splits, chosen_holds}
use Rattle.buckets.specs.declared.Table.{Table}
use Rattle.buckets.specs.Tables.{rep_of, size_of, root_of, prev_of, next_of, order_of, Shows, Fresh}
use Rattle.buckets.proofs.Lays.{order_is, neighbours, all_small}
use Rattle.trie.specs.Sound.{Sound, reps_of}

among_cut : (pre : List ℕ) (x : ℕ) (post : List ℕ) → among x (pre ++ x ∷ post) ≡ true
among_cut [] x post = or_left (eqb x x) (among x post) (eq-eqb x x refl)
among_cut (y ∷ ys) x post = or_right (eqb x y) (among x (ys ++ x ∷ post)) (among_cut ys x post)

-- what stands behind the bucket of a key is above the key
all_above : (w : ℕ) (rep : ℕ → ℕ) (order : List ℕ) (a r : ℕ) → Ordered w rep order → ZeroFirst rep order → a ≡ holder rep order r →
    (pre post : List ℕ) → order ≡ pre ++ a ∷ post → AllByRecursion (λ y. r < rep y) post
all_above w rep order a r o z e pre post is =
    let c = holder_splits rep r order z in
    let h = holder rep order r in
    let rises = subst (Rising rep) c.is o.rises in
    let low = All-weaker (λ y. rep y < rep h) (λ y. (rep y ≤ rep a) ⊎ (r < rep y)) (λ y l. inl (omega (arith, ap rep e))) c.pre (rising_below rep c.pre h c.post rises) in
    let high = All-weaker (λ y. leb (rep y) r ≡ false) (λ y. (rep y ≤ rep a) ⊎ (r < rep y)) (λ y t. inr (leb-false (rep y) r t)) c.post c.none in
    let every : AllByRecursion (λ y. (rep y ≤ rep a) ⊎ (r < rep y)) order = subst (AllByRecursion _) (sym c.is) (joined _ c.pre h c.post low (inl (omega (arith, ap rep e))) high) in
    let mine = (all_parts _ pre (a ∷ post) (subst (AllByRecursion _) is every)).1.1 in
    let up = (rising_parts rep pre (a ∷ post) (subst (Rising rep) is o.rises)).1.0 in
    all_both (λ y. rep a < rep y) (λ y. (rep y ≤ rep a) ⊎ (r < rep y)) (λ y. r < rep y) (λ y l s. elim s [ inl k ↦ absurd (omega arith) | inr k ↦ k ]) post up mine
  where
    joined : (P : ℕ → Type 0) (xs : List ℕ) (x : ℕ) (ys : List ℕ) → AllByRecursion P xs → P x → AllByRecursion P ys → AllByRecursion P (xs ++ x ∷ ys)
    joined P [] x ys a p b = (p, b)
    joined P (y ∷ xs) x ys a p b = (a.0, joined P xs x ys a.1 p b)

-- ---- a sound trie
module _ (w : ℕ) (f : Pairs) (t : Table) (s : Sound w f t) where
  zero_first : ZeroFirst (rep_of t) (order_of t)
  zero_first = subst (ZeroFirst (rep_of t)) (sym (order_is t)) s.first

  pub root : (k : ℕ) → k < 2 ^ w → held f w k 0 ≡ true
  root k h = subst (λ g. held g w k 0 ≡ true) (sym s.pairs) (links_root w (rep_of t) (order_of t) k h s.ordered.fits zero_first)

  pub closed : (k : ℕ) → k < 2 ^ w → Closed (held f w k) w
  closed k h = subst (λ g. Closed (held g w k) w) (sym s.pairs) (links_closed w (rep_of t) (order_of t) k h s.ordered.fits)

  pub choice : (v k level low high : ℕ) → v ≡ w → k < 2 ^ w → f (node_at w k level) ≡ Some (low, high) → Deepest (held f w k) w level → chosen v k level low high (prev_of t) ≡ holder (rep_of t) (order_of t) k
  choice v k level low high width h e d =
      ap (λ x. chosen x k level low high (prev_of t)) width ∙ chosen_holds w (rep_of t) (order_of t) k s.ordered zero_first h level low high (ap (λ g. g (node_at w k level)) (sym s.pairs) ∙ e)
      (subst (λ g. Deepest (held g w k) w level) s.pairs d) (next_of t) (prev_of t) (neighbours t)

  pub holder_among : (k : ℕ) → among (holder (rep_of t) (order_of t) k) (order_of t) ≡ true
  holder_among k =
      let c = holder_splits (rep_of t) k (order_of t) zero_first in
      ap (among (holder (rep_of t) (order_of t) k)) c.is ∙ among_cut c.pre (holder (rep_of t) (order_of t) k) c.post

  pub counted : (k : ℕ) → k < 2 ^ w → 1 + gets (held f w k) 0 (w + 1) ≡ searching w (reps_of t) k
  counted k h = ap (λ g. 1 + gets (held g w k) 0 (w + 1)) s.pairs ∙ frames_present w (rep_of t) (order_of t) k h s.ordered.fits

  pub numbers : (n low high : ℕ) → f n ≡ Some (low, high) → (low < 128) × (high < 128)
  numbers n low high e = links_all (λ i. i < 128) w (rep_of t) (order_of t) n low high (all_small t) (ap (λ g. g n) (sym s.pairs) ∙ e)

  pub same_pairs : (g : Pairs) → g ≡ f → Sound w g t
  same_pairs g e = record { ordered = s.ordered; first = s.first; pairs = e ∙ s.pairs }

  pub sound_count : (nodes : List ℕ) → apart nodes ≡ true → ((n : ℕ) → is_some (f n) ≡ among n nodes) → length nodes ≡ node_count w (reps_of t)
  sound_count nodes once has = held_count w (rep_of t) (order_of t) s.ordered nodes f once has s.pairs

  -- ---- a bucket n of representative r opened behind a
  module _ (u : Table) (a r n : ℕ) (new : among n (order_of t) ≡ false)
      (o : Shows u (put_after a n (order_of t)) (with_at (rep_of t) n r) (with_at (size_of t) n 0) (with_at (root_of t) n 65535))
      (behind : a ≡ holder (rep_of t) (order_of t) r) (over : rep_of t a < r) (fit : r < 2 ^ w) where
    others : AllByRecursion (Not n) (order_of t)
    others = apart_all n (order_of t) new

    stood : among a (order_of t) ≡ true
    stood = ap (λ m. among m (order_of t)) behind ∙ holder_among r

    pub opened_ordered : Ordered w (rep_of u) (order_of u)
    opened_ordered =
        subst (λ l. Ordered w (rep_of u) l) (sym o.order) (subst (λ g. Ordered w g (put_after a n (order_of t))) (sym o.rep)
        (ordered_open (rep_of t) a n r w (order_of t) s.ordered others stood over fit (all_above w (rep_of t) (order_of t) a r s.ordered zero_first behind)))

    pub opened_stands : among n (order_of u) ≡ true
    opened_stands = ap (among n) o.order ∙ among_put (rep_of t) a n r (order_of t) stood

    pub opened_pairs : f ≡ links w (rep_of u) (without n (order_of u))
    opened_pairs =
        s.pairs ∙ links_same w (rep_of t) (with_at (rep_of t) n r) (order_of t) (same_reps (rep_of t) a n r (order_of t) others)
        ∙ ap (λ g. links w g (order_of t)) (sym o.rep)
        ∙ ap (links w (rep_of u)) (sym (ap (without n) o.order ∙ without_put (rep_of t) a n r (order_of t) others stood))

    pub opened_long : length (order_of u) ≡ length (order_of t) + 1
    opened_long = ap length o.order ∙ length_put (rep_of t) a n r (order_of t) stood

    pub opened_cost : turning w (reps_of u) (rep_of u n) ≡ turning w (reps_of t) r
    opened_cost =
        ap (turning w (reps_of u)) (ap (λ g. g n) o.rep ∙ with_same (rep_of t) n r n refl)
        ∙ ap (λ l. turning w (map (rep_of u) l) r) o.order ∙ ap (λ g. turning w (map g (put_after a n (order_of t))) r) o.rep
        ∙ turning_put (rep_of t) a n r w (order_of t) others stood

    pub opened_sound : (g : Pairs) → g ≡ links w (rep_of u) (order_of u) → Sound w g u
    opened_sound g e = record {
      ordered = opened_ordered;
      first = ap (λ h. h 0) o.rep ∙ with_other (rep_of t) n r 0 (subst (AllByRecursion (Not n)) (order_is t) others).0 ∙ s.first;
      pairs = e;
    }

  -- ---- the bucket n taken away, and its record closed
  pub closed_sound : (g : Pairs) (u : Table) (n : ℕ) → Shows u (without n (order_of t)) (rep_of t) (size_of t) (root_of t) → g ≡ links w (rep_of t) (without n (order_of t)) → Sound w g u
  closed_sound g u n c e = record {
    ordered = subst (λ l. Ordered w (rep_of u) l) (sym c.order) (subst (λ h. Ordered w h (without n (order_of t))) (sym c.rep) (ordered_without w (rep_of t) (order_of t) n s.ordered));
    first = ap (λ h. h 0) c.rep ∙ s.first;
    pairs = e ∙ ap (λ h. links w h (without n (order_of t))) (sym c.rep) ∙ ap (links w (rep_of u)) (sym c.order);
  }

-- ---- a new table
module _ (w : ℕ) (t : Table) (f : Fresh t) where
  pub fresh_ordered : Ordered w (rep_of t) (order_of t)
  fresh_ordered = subst (Ordered w (rep_of t)) (sym f.order) (record { rises = (tt, tt); fits = (omega (arith, f.rep, pow_pos w), tt) })

  pub fresh_pairs : (g : Pairs) → g ≡ no_pairs → g ≡ links w (rep_of t) (without 0 (order_of t))
  fresh_pairs g e = e ∙ sym (ap (λ l. links w (rep_of t) (without 0 l)) f.order ∙ links_none w (rep_of t))

  pub fresh_room : (room : ℕ) → w + 1 ≤ room → (w + 1) * length (order_of t) ≤ room
  fresh_room room h = subst (λ l. (w + 1) * length l ≤ room) (sym f.order) (omega (arith, mul-one (w + 1)))

  pub fresh_cost : turning w (reps_of t) (rep_of t 0) ≡ 2 * (w + 1)
  fresh_cost = ap (λ l. turning w (map (rep_of t) l) (rep_of t 0)) f.order ∙ omega (arith, own_ends w (rep_of t 0) (w + 1))

  pub fresh_count : node_count w (reps_of t) ≡ w + 1
  unfolding node_count own_levels
  fresh_count = ap (λ l. node_count w (map (rep_of t) l)) f.order ∙ omega (arith, alone w (rep_of t 0) (w + 1))
    where
      alone : (w r j : ℕ) → own_levels w [] r j ≡ j
      alone w r zero = refl
      alone w r (suc j) = omega (arith, alone w r j)
