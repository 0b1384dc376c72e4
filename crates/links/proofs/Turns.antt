-- An order around one of its buckets i: the pairs without it and with it, node by node.
--
--   around_off                      off i's nodes nothing alters
--   around_own, around_parted       at a node of i: the pair with it from the one without it, and back
--   joins_end, parts_end            the pair alters where i's representative is the least or the greatest under the node
--   around_held, around_more        with i the node has a pair, and so has each that had one without it
use Rattle.std.proofs.Common.{◌≡◌, ℕ, ◌^◌, ◌<◌, ◌≤◌, Bool, true, false, not, ◌&&◌, ◌||◌, leb, List, [], ◌∷◌, ◌++◌, map, is_some, filter, sym, refl, ap, ◌∙◌, subst, inl, inr, arith}
use Rattle.std.specs.List.{AllByRecursion}
use Rattle.std.proofs.lemmas.List.{map-append}
use Rattle.std.proofs.lemmas.List.Elements.{filter-append}
use Rattle.std.proofs.ByRecursion.{kept_by_passes, all_kept_by, All-weaker}
use Rattle.std.proofs.lemmas.Bool.{cases_Bool, eq-eqb, eqb-true, cond-true, cond-false, cond_both, true≢false, le-leb, lt-leb}
use Rattle.std.proofs.lemmas.Bool.Decides.{nat_tests}
use Rattle.dictionary.specs.Pairs.{Pairs}
use Rattle.levels.specs.Nodes.{node_at, under}
use Rattle.levels.specs.Counts.{every, at_end}
use Rattle.links.specs.Orders.{last_from, lastly, Rising, Ordered, Behind, Before}
use Rattle.links.specs.Links.{lies, outermost, under_node, links, joined, joins, parted, parts}
use Rattle.links.proofs.Rows.{empty, all_last, outermost_some, join_rows, join_test, part_rows, part_test}
use Rattle.links.proofs.Orders.{all_parts, rising_parts, rising_below}
use Rattle.links.proofs.Nodes.{lies_node, lies_own, node_between}

-- ---- around i
record Around (w : ℕ) (rep : ℕ → ℕ) (pre : List ℕ) (i : ℕ) (post : List ℕ) : Type 0 where
  pub small : rep i < 2 ^ w
  pub low : AllByRecursion (λ x. rep x < rep i) pre
  pub low_small : AllByRecursion (λ x. rep x < 2 ^ w) pre
  pub high : AllByRecursion (λ x. rep i < rep x) post
  pub high_small : AllByRecursion (λ x. rep x < 2 ^ w) post
  pub rises : Rising rep pre
  pub rises_on : Rising rep post

around : (w : ℕ) (rep : ℕ → ℕ) (pre : List ℕ) (i : ℕ) (post : List ℕ) → Ordered w rep (pre ++ i ∷ post) → Around w rep pre i post
around w rep pre i post o =
    let f = all_parts (λ x. rep x < 2 ^ w) pre (i ∷ post) o.fits in
    let r = rising_parts rep pre (i ∷ post) o.rises in
    record { small = f.1.0; low = rising_below rep pre i post o.rises; low_small = f.0; high = r.1.0; high_small = f.1.1; rises = r.0; rises_on = r.1.1 }

-- the last of a rising row is the greatest
last_most : (rep : ℕ → ℕ) (x : ℕ) (xs : List ℕ) → Rising rep (x ∷ xs) → AllByRecursion (λ y. rep y ≤ rep (last_from x xs)) (x ∷ xs)
last_most rep x [] r = (omega arith, tt)
last_most rep x (y ∷ ys) r =
    let more = last_most rep y ys r.1 in
    (omega (arith, more.0, r.0.0), more)

last_kept : (t : ℕ → Bool) (x : ℕ) (xs : List ℕ) → t (last_from x xs) ≡ true → lastly (filter t (x ∷ xs)) ≡ last_from x xs
last_kept t x [] h = ap lastly (cond-true (t x) (x ∷ []) [] h)
last_kept t x (z ∷ zs) h =
    elim (cases_Bool (t x)) [
      | inl u ↦ ap lastly (cond-true (t x) (x ∷ filter t (z ∷ zs)) (filter t (z ∷ zs)) u) ∙ behind x (filter t (z ∷ zs)) (some z zs h) ∙ last_kept t z zs h
      | inr u ↦ ap lastly (cond-false (t x) (x ∷ filter t (z ∷ zs)) (filter t (z ∷ zs)) u) ∙ last_kept t z zs h
    ]
  where
    behind : (x : ℕ) (ys : List ℕ) → empty ys ≡ false → lastly (x ∷ ys) ≡ lastly ys
    behind x [] e = absurd (true≢false e)
    behind x (y ∷ ys) e = refl

    some : (z : ℕ) (zs : List ℕ) → t (last_from z zs) ≡ true → empty (filter t (z ∷ zs)) ≡ false
    some z [] h = ap empty (cond-true (t z) (z ∷ []) [] h)
    some z (y ∷ ys) h = cond_both (t z) (z ∷ filter t (y ∷ ys)) (filter t (y ∷ ys)) (λ l. empty l ≡ false) (λ _. refl) (λ _. some y ys h)

abbrev first : List ℕ → ℕ
first [] = 0
first (x ∷ xs) = x

filled : (xs : List ℕ) (y : ℕ) (ys : List ℕ) → empty (xs ++ y ∷ ys) ≡ false
filled [] y ys = refl
filled (x ∷ xs) y ys = refl

keep : (x s : Bool) → (x && ((not s || true) && true)) ≡ x
keep true true = refl
keep true false = refl
keep false s = refl

keep_on : (x s : Bool) → ((not s || true) && x) ≡ x
keep_on x true = refl
keep_on x false = refl

module _ (w : ℕ) (rep : ℕ → ℕ) (pre : List ℕ) (i : ℕ) (post : List ℕ) (o : Ordered w rep (pre ++ i ∷ post)) where
  abbrev bare : Pairs
  bare = links w rep (pre ++ post)

  abbrev full : Pairs
  full = links w rep (pre ++ i ∷ post)

  bare_is : (n : ℕ) → bare n ≡ outermost (under_node w rep n pre ++ under_node w rep n post)
  unfolding links
  bare_is n = ap outermost (filter-append (λ x. lies w (rep x) n) pre post)

  full_is : (n : ℕ) → full n ≡ outermost (under_node w rep n pre ++ under_node w rep n (i ∷ post))
  unfolding links
  full_is n = ap outermost (filter-append (λ x. lies w (rep x) n) pre (i ∷ post))

  -- off i's nodes nothing alters
  pub around_off : (n : ℕ) → lies w (rep i) n ≡ false → full n ≡ bare n
  around_off n t = full_is n ∙ ap (λ l. outermost (under_node w rep n pre ++ l)) (cond-false (lies w (rep i) n) _ _ t) ∙ sym (bare_is n)

  full_on : (n : ℕ) → lies w (rep i) n ≡ true → full n ≡ outermost (under_node w rep n pre ++ i ∷ under_node w rep n post)
  full_on n t = full_is n ∙ ap (λ l. outermost (under_node w rep n pre ++ l)) (cond-true (lies w (rep i) n) _ _ t)

  lows : (n : ℕ) → AllByRecursion (λ x. rep x < rep i) (under_node w rep n pre)
  lows n = all_kept_by (λ x. lies w (rep x) n) (λ x. rep x < rep i) pre (around w rep pre i post o).low

  highs : (n : ℕ) → AllByRecursion (λ x. rep i < rep x) (under_node w rep n post)
  highs n = all_kept_by (λ x. lies w (rep x) n) (λ x. rep i < rep x) post (around w rep pre i post o).high

  around_joined : (n : ℕ) → lies w (rep i) n ≡ true → joined rep i (bare n) ≡ full n
  around_joined n t = ap (joined rep i) (bare_is n) ∙ sym (full_on n t ∙ join_rows rep i (under_node w rep n pre) (under_node w rep n post) (lows n) (highs n))

  around_joins : (n : ℕ) → joins rep i (bare n) ≡ (empty (under_node w rep n pre) || empty (under_node w rep n post))
  around_joins n = ap (joins rep i) (bare_is n) ∙ join_test rep i (under_node w rep n pre) (under_node w rep n post) (lows n) (highs n)

  around_parts : (n : ℕ) → lies w (rep i) n ≡ true → parts i (full n) ≡ (empty (under_node w rep n pre) || empty (under_node w rep n post))
  around_parts n t = ap (parts i) (full_on n t) ∙ part_test rep i (under_node w rep n pre) (under_node w rep n post) (lows n) (highs n)

  -- ---- the frames
  every_append : (p : ℕ → Bool) (xs ys : List ℕ) → every p (xs ++ ys) ≡ (every p xs && every p ys)
  every_append p [] ys = refl
  every_append p (x ∷ xs) ys = let more = every_append p xs ys in grind (arith, nat_tests)

  module _ (j : ℕ) (jw : j ≤ w) where
    abbrev node : ℕ
    node = node_at w (rep i) j

    abbrev same : ℕ → Bool
    same x = under w (rep i) j x

    small : rep i < 2 ^ w
    small = (around w rep pre i post o).small

    lies_same : (x : ℕ) → x < 2 ^ w → lies w x node ≡ same x
    lies_same x h = lies_node w x (rep i) j h small jw

    -- none of the row lies under the node
    none_low : (xs : List ℕ) → AllByRecursion (λ x. rep x < rep i) xs → AllByRecursion (λ x. rep x < 2 ^ w) xs → every (λ x. not (same x) || leb (rep i) x) (map rep xs) ≡ empty (under_node w rep node xs)
    none_low [] a b = refl
    none_low (x ∷ xs) a b =
        let more = none_low xs a.1 b.1 in
        let f = lt-leb (rep i) (rep x) a.0 in
        let t = lies_same (rep x) b.0 in
        elim (cases_Bool (same (rep x))) [ inl u ↦ rw (t, u, f) refl | inr u ↦ rw (t, u) more ]

    none_high : (xs : List ℕ) → AllByRecursion (λ x. rep i < rep x) xs → AllByRecursion (λ x. rep x < 2 ^ w) xs → every (λ x. not (same x) || leb x (rep i)) (map rep xs) ≡ empty (under_node w rep node xs)
    none_high [] a b = refl
    none_high (x ∷ xs) a b =
        let more = none_high xs a.1 b.1 in
        let f = lt-leb (rep x) (rep i) a.0 in
        let t = lies_same (rep x) b.0 in
        elim (cases_Bool (same (rep x))) [ inl u ↦ rw (t, u, f) refl | inr u ↦ rw (t, u) more ]

    all_low : (xs : List ℕ) → AllByRecursion (λ x. rep x < rep i) xs → every (λ x. not (same x) || leb x (rep i)) (map rep xs) ≡ true
    all_low [] a = refl
    all_low (x ∷ xs) a = rw (all_low xs a.1, le-leb (rep x) (rep i) (omega (arith, a.0))) (let b = same (rep x) in grind (arith, nat_tests))

    all_high : (xs : List ℕ) → AllByRecursion (λ x. rep i < rep x) xs → every (λ x. not (same x) || leb (rep i) x) (map rep xs) ≡ true
    all_high [] a = refl
    all_high (x ∷ xs) a = rw (all_high xs a.1, le-leb (rep i) (rep x) (omega (arith, a.0))) (let b = same (rep x) in grind (arith, nat_tests))

    abbrev above : ℕ → Bool
    above x = not (same x) || leb (rep i) x

    abbrev beneath : ℕ → Bool
    beneath x = not (same x) || leb x (rep i)

    least : every above (map rep (pre ++ i ∷ post)) ≡ empty (under_node w rep node pre)
    least =
        let s = around w rep pre i post o in
        let own = le-leb (rep i) (rep i) (omega arith) in
        ap (every above) (map-append rep pre (i ∷ post)) ∙ every_append above (map rep pre) (map rep (i ∷ post))
        ∙ rw (none_low pre s.low s.low_small, all_high post s.high, own) (keep (empty (under_node w rep node pre)) (same (rep i)))

    greatest : every beneath (map rep (pre ++ i ∷ post)) ≡ empty (under_node w rep node post)
    greatest =
        let s = around w rep pre i post o in
        let own = le-leb (rep i) (rep i) (omega arith) in
        ap (every beneath) (map-append rep pre (i ∷ post)) ∙ every_append beneath (map rep pre) (map rep (i ∷ post))
        ∙ rw (all_low pre s.low, none_high post s.high s.high_small, own) (keep_on (empty (under_node w rep node post)) (same (rep i)))

    around_end : at_end w (map rep (pre ++ i ∷ post)) (rep i) j ≡ (empty (under_node w rep node pre) || empty (under_node w rep node post))
    around_end = ap (λ z. z || every beneath (map rep (pre ++ i ∷ post))) least ∙ ap (λ z. empty (under_node w rep node pre) || z) greatest

    pub joins_end : joins rep i (bare node) ≡ at_end w (map rep (pre ++ i ∷ post)) (rep i) j
    joins_end = around_joins node ∙ sym around_end

    pub parts_end : parts i (full node) ≡ at_end w (map rep (pre ++ i ∷ post)) (rep i) j
    parts_end = around_parts node (lies_own w (rep i) j small jw) ∙ sym around_end

    -- the last before i that lies under the node is the one before i
    back : (x : ℕ) (xs : List ℕ) → Rising rep (x ∷ xs) → AllByRecursion (λ z. rep z < rep i) (x ∷ xs) → AllByRecursion (λ z. rep z < 2 ^ w) (x ∷ xs) →
        (y : ℕ) (zs : List ℕ) → under_node w rep node (x ∷ xs) ≡ y ∷ zs → last_from y zs ≡ last_from x xs
    back x xs r a b y zs e =
        let l = last_from x xs in
        let t : ℕ → Bool = λ z. lies w (rep z) node in
        let passes : lies w (rep y) node ≡ true = (subst (λ k. AllByRecursion (λ z. t z ≡ true) k) e (kept_by_passes t (x ∷ xs))).0 in
        let small_y : rep y < 2 ^ w = (subst (λ k. AllByRecursion (λ z. rep z < 2 ^ w) k) e (all_kept_by t (λ z. rep z < 2 ^ w) (x ∷ xs) b)).0 in
        let most : rep y ≤ rep l = (subst (λ k. AllByRecursion (λ z. rep z ≤ rep l) k) e (all_kept_by t (λ z. rep z ≤ rep l) (x ∷ xs) (last_most rep x xs r))).0 in
        let less : rep l < rep i = all_last (λ z. rep z < rep i) x xs a.0 a.1 in
        let small_l : rep l < 2 ^ w = all_last (λ z. rep z < 2 ^ w) x xs b.0 b.1 in
        let at_y : node_at w (rep y) j ≡ node = eqb-true _ _ (sym (lies_same (rep y) small_y) ∙ passes) in
        let at_l : node_at w (rep l) j ≡ node = node_between w (rep y) (rep l) (rep i) j most (omega arith) at_y ∙ at_y in
        ap lastly (sym e) ∙ last_kept t x xs (lies_same (rep l) small_l ∙ eq-eqb _ _ at_l)

    -- the first behind i that lies under the node is the one behind i
    fore : (x : ℕ) (xs : List ℕ) → Rising rep (x ∷ xs) → AllByRecursion (λ z. rep i < rep z) (x ∷ xs) → AllByRecursion (λ z. rep z < 2 ^ w) (x ∷ xs) →
        (y : ℕ) (zs : List ℕ) → under_node w rep node (x ∷ xs) ≡ y ∷ zs → y ≡ x
    fore x xs r a b y zs e =
        let t : ℕ → Bool = λ z. lies w (rep z) node in
        let passes : lies w (rep y) node ≡ true = (subst (λ k. AllByRecursion (λ z. t z ≡ true) k) e (kept_by_passes t (x ∷ xs))).0 in
        let small_y : rep y < 2 ^ w = (subst (λ k. AllByRecursion (λ z. rep z < 2 ^ w) k) e (all_kept_by t (λ z. rep z < 2 ^ w) (x ∷ xs) b)).0 in
        let least : AllByRecursion (λ z. rep x ≤ rep z) (x ∷ xs) = (omega arith, All-weaker (λ z. rep x < rep z) (λ z. rep x ≤ rep z) (λ z h. omega arith) xs r.0) in
        let most : rep x ≤ rep y = (subst (λ k. AllByRecursion (λ z. rep x ≤ rep z) k) e (all_kept_by t (λ z. rep x ≤ rep z) (x ∷ xs) least)).0 in
        let at_y : node_at w (rep y) j ≡ node = eqb-true _ _ (sym (lies_same (rep y) small_y) ∙ passes) in
        let at_x : node_at w (rep x) j ≡ node = node_between w (rep i) (rep x) (rep y) j (omega (arith, a.0)) most (sym at_y) in
        let k = cond-true (t x) (x ∷ filter t xs) (filter t xs) (lies_same (rep x) b.0 ∙ eq-eqb _ _ at_x) in
        ap first (sym e ∙ k)

    behind : (next : ℕ) (xs : List ℕ) → Behind xs next → Rising rep xs → AllByRecursion (λ z. rep i < rep z) xs → AllByRecursion (λ z. rep z < 2 ^ w) xs → (y : ℕ) (zs : List ℕ) → under_node w rep node xs ≡ y ∷ zs → y ≡ next
    behind next [] h r a b y zs e = absurd (let z : ◌≡◌ {A = ℕ} 0 1 = cc in omega arith)
    behind next (x ∷ xs) h r a b y zs e = fore x xs r a b y zs e ∙ sym h

    before : (prev : ℕ) (xs : List ℕ) → Before xs prev → Rising rep xs → AllByRecursion (λ z. rep z < rep i) xs → AllByRecursion (λ z. rep z < 2 ^ w) xs → (y : ℕ) (zs : List ℕ) → under_node w rep node xs ≡ y ∷ zs → last_from y zs ≡ prev
    before prev [] h r a b y zs e = absurd (let z : ◌≡◌ {A = ℕ} 0 1 = cc in omega arith)
    before prev (x ∷ xs) h r a b y zs e = back x xs r a b y zs e ∙ sym h

    pub around_parted : (next prev : ℕ) → Behind post next → Before pre prev → parted next prev i (full node) ≡ bare node
    around_parted next prev n p =
        let s = around w rep pre i post o in
        let on = full_on node (lies_own w (rep i) j small jw) in
        ap (parted next prev i) on
        ∙ sym (bare_is node ∙ part_rows rep i next prev (under_node w rep node pre) (under_node w rep node post) (lows node) (highs node)
        (behind next post n s.rises_on s.high s.high_small) (before prev pre p s.rises s.low s.low_small))

    pub around_own : joined rep i (bare node) ≡ full node
    around_own = around_joined node (lies_own w (rep i) j small jw)

    pub around_held : is_some (full node) ≡ true
    around_held = ap is_some (full_on node (lies_own w (rep i) j small jw)) ∙ outermost_some (under_node w rep node pre ++ i ∷ under_node w rep node post) ∙ ap not (filled (under_node w rep node pre) i (under_node w rep node post))

  pub around_more : (n : ℕ) → is_some (bare n) ≡ true → is_some (full n) ≡ true
  around_more n h = elim (cases_Bool (lies w (rep i) n)) [
    | inl t ↦ ap is_some (full_on n t) ∙ outermost_some _ ∙ ap not (filled (under_node w rep n pre) i (under_node w rep n post))
    | inr t ↦ ap is_some (around_off n t) ∙ h
  ]
