-- What comes of the stages on a new module of any capacity c.
--
--   Stood f m     of the first 769 nodes just the first m have a pair
--   filled_so     the first nodes are put onto a module on which the first k stand
--   right_so      the first nodes are read back
--   Upto f m      of the first 768 nodes just the first m have a pair
--   cleared_so    the first nodes are dropped
use Rattle.std.proofs.Common.{rules, ◌≡◌, ℕ, zero, suc, ◌+◌, ◌-◌, ◌<◌, ◌≤◌, ◌≢◌, true, false, cond, ◌||◌, min, max, Some, None, Option, is_some, ltb, ◌⊎◌, inl, inr, sym, refl, ap, ◌∙◌, subst, arith}
use Rattle.std.proofs.lemmas.Bool.Decides.{nat_tests}
use Rattle.dictionary.specs.Pairs.{Links, Pairs, with_pair, accepts, one_more, one_less}
use Rattle.acceptance.specs.Nodes.{node_of, links_of}
use Rattle.acceptance.specs.Stages.{Filled, start, put, refused, has, right, Cleared, drop}
use Rattle.acceptance.proofs.Apart.{no_zero, apart}

abbrev pub Stood : Pairs → ℕ → Type 0
Stood f m = (j : ℕ) → j ≤ 768 → is_some (f (node_of j)) ≡ ltb j m

pub same_or : (i j : ℕ) → (i ≡ j) ⊎ (j ≢ i)
same_or i j = search rules

lies_below : (i k c : ℕ) → i < c → ltb i (max k (min (i + 1) c)) ≡ true
lies_below i k c h = grind (arith, nat_tests)

-- ---- one pair more
pub with_same : (f : Pairs) (n : ℕ) (v : Option Links) → with_pair f n v n ≡ v
with_same f n v = search rules

pub with_other : (f : Pairs) (n k : ℕ) (v : Option Links) → n ≢ k → with_pair f k v n ≡ f n
with_other f n k v ne = search rules

-- a put of a node above 0 is accepted where it stands or there is room
pub accepts_is : (f : Pairs) (h c n : ℕ) → n ≢ 0 → accepts f h c n ≡ (is_some (f n) || ltb h c)
accepts_is f h c n ne = search rules

-- ---- putting: on a module on which the first k stand, the i-th put is accepted just where i is below the capacity
is_below : (i k c : ℕ) → k ≤ c → (ltb i (max k (min i c)) || ltb (max k (min i c)) c) ≡ true → i < c
is_below i k c h e = search rules

is_beyond : (i k c : ℕ) → k ≤ c → (ltb i (max k (min i c)) || ltb (max k (min i c)) c) ≡ false → c ≤ i
is_beyond i k c h e = search rules

held_more : (i k c : ℕ) → k ≤ c → i < c → cond (ltb i (max k (min i c))) (max k (min i c)) (max k (min i c) + 1) ≡ max k (min (i + 1) c)
held_more i k c h l = search rules

same_below : (i j k c : ℕ) → k ≤ c → i < c → j ≢ i → ltb j (max k (min i c)) ≡ ltb j (max k (min (i + 1) c))
same_below i j k c h l ne = search rules

pub record FilledSo (c round k i n : ℕ) (u : Pairs) (h : ℕ) : Type 0 where
  pub number : n ≡ min i c
  pub held : h ≡ max k (min i c)
  pub stood : Stood u (max k (min i c))
  pub newer : (j : ℕ) → j < min i c → u (node_of j) ≡ Some (links_of j round)

module _ (c round k : ℕ) (f : Pairs) (kc : k ≤ c) (kl : k ≤ 768) (st : Stood f k) where
  asked : (i n h : ℕ) (u : Pairs) → i + 1 ≤ 768 → FilledSo c round k i n u h → accepts u h c (node_of i) ≡ (ltb i (max k (min i c)) || ltb (max k (min i c)) c)
  asked i n h u le so =
      accepts_is u h c (node_of i) (no_zero i (omega arith))
      ∙ (ap (λ b. b || ltb h c) (so.stood i (omega arith)) ∙ ap (λ x. ltb i (max k (min i c)) || ltb x c) so.held)

  put_so : (i n h : ℕ) (u : Pairs) → i + 1 ≤ 768 → FilledSo c round k i n u h → i < c →
      FilledSo c round k (i + 1) (n + 1) (with_pair u (node_of i) (Some (links_of i round))) (one_more (u (node_of i)) h)
  put_so i n h u le so lt = record {
    number = omega (arith, so.number);
    held = ap (λ b. cond b h (h + 1)) (so.stood i (omega arith)) ∙ (ap (λ x. cond (ltb i (max k (min i c))) x (x + 1)) so.held ∙ held_more i k c kc lt);
    stood = λ j jl. elim (same_or i j) [
      | inl e ↦ subst (λ x. is_some (with_pair u (node_of i) (Some (links_of i round)) (node_of x)) ≡ ltb x (max k (min (i + 1) c))) e
          (ap is_some (with_same u (node_of i) (Some (links_of i round))) ∙ sym (lies_below i k c lt))
      | inr ne ↦ ap is_some (with_other u (node_of j) (node_of i) (Some (links_of i round)) (apart j i (omega arith) (omega arith) ne))
          ∙ (so.stood j jl ∙ same_below i j k c kc lt ne)
    ];
    newer = λ j jl. elim (same_or i j) [
      | inl e ↦ subst (λ x. with_pair u (node_of i) (Some (links_of i round)) (node_of x) ≡ Some (links_of x round)) e (with_same u (node_of i) (Some (links_of i round)))
      | inr ne ↦ with_other u (node_of j) (node_of i) (Some (links_of i round)) (apart j i (omega arith) (omega arith) ne) ∙ so.newer j (omega arith)
    ];
  }

  refused_so : (i n h : ℕ) (u : Pairs) → FilledSo c round k i n u h → c ≤ i → FilledSo c round k (i + 1) n u h
  refused_so i n h u so le = search rules

  pub filled_so : {i n h : ℕ} {u : Pairs} → Filled c round f k i n u h → i ≤ 768 → FilledSo c round k i n u h
  filled_so start le = record { number = omega arith; held = omega arith; stood = subst (Stood f) (omega arith) st; newer = λ j jl. absurd (omega arith) }
  filled_so (put {i = i} {n = n} {h = h} {u = u} r good) le =
      let so = filled_so r (omega arith) in
      put_so i n h u le so (is_below i k c kc (sym (asked i n h u le so) ∙ good))
  filled_so (refused {i = i} {n = n} {h = h} {u = u} r bad) le =
      let so = filled_so r (omega arith) in
      refused_so i n h u so (is_beyond i k c kc (sym (asked i n h u le so) ∙ bad))

-- ---- reading back
pub has_none : (o : Option Links) (l : Links) → is_some o ≡ false → has o l ≡ false
has_none None l e = refl
has_none (Some p) l e = absurd (let z : ◌≡◌ {A = ℕ} 0 1 = cc in omega arith)

pub has_where : (f : Pairs) (round m s i : ℕ) → m ≤ 768 → Stood f m → ((j : ℕ) → j < s → f (node_of j) ≡ Some (links_of j round)) → (s ≡ m) ⊎ (i ≤ s) → i ≤ 768 →
    (j : ℕ) → j < i → has (f (node_of j)) (links_of j round) ≡ ltb j s
has_where f round m s i ml st newer way il j jl = search rules

right_step : (i s : ℕ) → min i s + cond (ltb i s) 1 0 ≡ min (i + 1) s
right_step i s = search rules

pub right_so : (f : Pairs) (round s i : ℕ) → ((j : ℕ) → j < i → has (f (node_of j)) (links_of j round) ≡ ltb j s) → right f round i ≡ min i s
unfolding right
right_so f round s zero h = omega arith
right_so f round s (suc i) h =
    let ih = right_so f round s i (λ j l. h j (omega arith)) in
    ap (λ b. right f round i + cond b 1 0) (h i (omega arith)) ∙ (ap (λ n. n + cond (ltb i s) 1 0) ih ∙ (right_step i s ∙ ap (λ n. min n s) (omega arith)))

-- ---- dropping
abbrev pub Upto : Pairs → ℕ → Type 0
Upto f m = (j : ℕ) → j < 768 → is_some (f (node_of j)) ≡ ltb j m

pub record ClearedSo (m e i n : ℕ) (u : Pairs) (h : ℕ) : Type 0 where
  pub number : n ≡ min i m
  pub held : h + min i m ≡ m + e
  pub gone : (j : ℕ) → j < 768 → j < i → is_some (u (node_of j)) ≡ false
  pub later : (j : ℕ) → j < 768 → i ≤ j → is_some (u (node_of j)) ≡ ltb j m

held_less : (i m e h : ℕ) → h + min i m ≡ m + e → cond (ltb i m) (h - 1) h + min (i + 1) m ≡ m + e
held_less i m e h k = search rules

module _ (m e : ℕ) (f : Pairs) (up : Upto f m) where
  drop_so : (i n h : ℕ) (u : Pairs) → i + 1 ≤ 768 → ClearedSo m e i n u h →
      ClearedSo m e (i + 1) (n + cond (is_some (u (node_of i))) 1 0) (with_pair u (node_of i) None) (one_less (u (node_of i)) h)
  drop_so i n h u le so =
      let here : is_some (u (node_of i)) ≡ ltb i m = so.later i (omega arith) (omega arith) in
      record {
        number = ap (λ b. n + cond b 1 0) here ∙ (ap (λ x. x + cond (ltb i m) 1 0) so.number ∙ right_step i m);
        held = subst (λ b. cond b (h - 1) h + min (i + 1) m ≡ m + e) (sym here) (held_less i m e h so.held);
        gone = λ j jl ji. elim (same_or i j) [
          | inl q ↦ subst (λ x. is_some (with_pair u (node_of i) None (node_of x)) ≡ false) q (ap is_some (with_same u (node_of i) None))
          | inr ne ↦ ap is_some (with_other u (node_of j) (node_of i) None (apart j i (omega arith) (omega arith) ne)) ∙ so.gone j jl (omega arith)
        ];
        later = λ j jl ji. ap is_some (with_other u (node_of j) (node_of i) None (apart j i (omega arith) (omega arith) (λ q. omega (arith, q)))) ∙ so.later j jl (omega arith);
      }

  pub cleared_so : {i n h : ℕ} {u : Pairs} → Cleared f (m + e) i n u h → i ≤ 768 → ClearedSo m e i n u h
  cleared_so start le = record { number = omega arith; held = omega arith; gone = λ j jl ji. absurd (omega arith); later = λ j jl ji. up j jl }
  cleared_so (drop {i = i} {n = n} {h = h} {u = u} r) le = drop_so i n h u le (cleared_so r (omega arith))
