-- How many nodes an order holds, and that no put of one more is refused.
--
--   node_count_most   at most w + 1 for each representative
--   held_count        a dictionary with the pairs of an order has just that many
--   room_left         while some node of the order is not held there is room for it
use Rattle.std.proofs.Common.{◌≡◌, ℕ, zero, suc, ◌+◌, ◌*◌, ◌^◌, ◌<◌, ◌≤◌, true, false, cond, not, ◌||◌, eqb, List, [], ◌∷◌, ◌++◌, map, length, is_some, None, sym, refl, ap, ◌∙◌, subst, inl, inr, mul-suc, arith, length-append}
use Rattle.std.specs.List.{AllByRecursion}
use Rattle.std.proofs.lemmas.List.{length-map}
use Rattle.std.proofs.lemmas.Bool.{cases_eq, cases_Bool, cond_both, eq-eqb, ne_eqb, eqb-true, or_left, or_right, or_cases, or_from, and_from, not_from_false, false≢true, true≢false}
use Rattle.dictionary.specs.Pairs.{Pairs, among, apart}
use Rattle.levels.specs.Nodes.{node_at, any, present}
use Rattle.links.specs.Orders.{Ordered}
use Rattle.links.specs.Links.{passed, lies, links, own_levels, node_count}
use Rattle.links.proofs.Nodes.{node_low, passed_low}
use Rattle.links.proofs.Present.{all_map, links_some, lies_present}
use Rattle.links.proofs.Pigeon.{pigeon, among_append, apart_append}

-- the nodes of r at the levels below j under which no number of rs lies
own_nodes : ℕ → List ℕ → ℕ → ℕ → List ℕ
own_nodes w rs r zero = []
own_nodes w rs r (suc j) = cond (present w rs r j) (own_nodes w rs r j) (node_at w r j ∷ own_nodes w rs r j)

all_nodes : ℕ → List ℕ → List ℕ
all_nodes w [] = []
all_nodes w (r ∷ rs) = own_nodes w rs r (w + 1) ++ all_nodes w rs

own_many : (w : ℕ) (rs : List ℕ) (r j : ℕ) → length (own_nodes w rs r j) ≡ own_levels w rs r j
unfolding own_nodes own_levels
own_many w rs r zero = refl
own_many w rs r (suc j) =
    let more = own_many w rs r j in
    elim (cases_Bool (present w rs r j)) [ inl t ↦ rw t (omega arith) | inr t ↦ rw t (omega arith) ]

all_many : (w : ℕ) (rs : List ℕ) → length (all_nodes w rs) ≡ node_count w rs
unfolding all_nodes node_count
all_many w [] = refl
all_many w (r ∷ rs) = omega (arith, length-append (own_nodes w rs r (w + 1)) (all_nodes w rs), own_many w rs r (w + 1), all_many w rs)

own_few : (w : ℕ) (rs : List ℕ) (r j : ℕ) → own_levels w rs r j ≤ j
unfolding own_levels
own_few w rs r zero = omega arith
own_few w rs r (suc j) =
    let more = own_few w rs r j in
    cond_both (present w rs r j) 0 1 (λ x. x + own_levels w rs r j ≤ suc j) (λ _. omega arith) (λ _. omega arith)

pub node_count_most : (w : ℕ) (rs : List ℕ) → node_count w rs ≤ (w + 1) * length rs
unfolding node_count
node_count_most w [] = omega arith
node_count_most w (r ∷ rs) = omega (arith, own_few w rs r (w + 1), node_count_most w rs, mul-suc (w + 1) (length rs))

-- ---- these nodes are those under which some number lies, each once
own_passed : (w : ℕ) (rs : List ℕ) (r j n : ℕ) → among n (own_nodes w rs r j) ≡ true → passed w r j n ≡ true
unfolding own_nodes
own_passed w rs r zero n t = absurd (false≢true t)
own_passed w rs r (suc j) n t =
    let more = own_passed w rs r j n in
    let ns = own_nodes w rs r j in
    elim (cases_Bool (present w rs r j)) [
      | inl u ↦ or_right (eqb (node_at w r j) n) (passed w r j n) (more (rw u at t))
      | inr u ↦ elim (or_cases (eqb n (node_at w r j)) (among n ns) (rw u at t)) [
        | inl e ↦ or_left (eqb (node_at w r j) n) (passed w r j n) (eq-eqb (node_at w r j) n (sym (eqb-true n (node_at w r j) e)))
        | inr e ↦ or_right (eqb (node_at w r j) n) (passed w r j n) (more e)
      ]
    ]

own_apart : (w : ℕ) (rs : List ℕ) (r j : ℕ) → r < 2 ^ w → j ≤ w + 1 → apart (own_nodes w rs r j) ≡ true
unfolding own_nodes
own_apart w rs r zero rw' h = refl
own_apart w rs r (suc j) rw' h =
    let more = own_apart w rs r j rw' (omega arith) in
    let n = node_at w r j in
    let ns = own_nodes w rs r j in
    elim (cases_Bool (present w rs r j)) [
      | inl u ↦ rw u more
      | inr u ↦ rw u (and_from (not (among n ns)) (apart ns) (not_from_false (among n ns) (elim (cases_Bool (among n ns)) [
        | inl t ↦ absurd (true≢false (sym (own_passed w rs r j n t) ∙ passed_low w r j n (omega arith) rw' (node_low w r j)))
        | inr t ↦ t
      ])) more)
    ]

-- a node of r is one of its own or one of rs
own_or_other : (w : ℕ) (rs : List ℕ) (r j n : ℕ) → r < 2 ^ w → AllByRecursion (λ s. s < 2 ^ w) rs → j ≤ w + 1 → passed w r j n ≡ true → any (λ s. lies w s n) rs ≡ false → among n (own_nodes w rs r j) ≡ true
unfolding own_nodes
own_or_other w rs r zero n rw' a h t none = absurd (false≢true t)
own_or_other w rs r (suc j) n rw' a h t none =
    let ns = own_nodes w rs r j in
    let more : passed w r j n ≡ true → among n ns ≡ true = λ p. own_or_other w rs r j n rw' a (omega arith) p none in
    let gone : node_at w r j ≡ n → present w rs r j ≡ false = λ e.
    sym (lies_present w r j rs rw' (omega arith) a) ∙ subst (λ m. any (λ s. lies w s m) rs ≡ false) (sym e) none in
    elim (or_cases (eqb (node_at w r j) n) (passed w r j n) t) [
      | inl e ↦ (
          let q = eqb-true (node_at w r j) n e in
          rw (gone q) (or_left (eqb n (node_at w r j)) (among n ns) (eq-eqb n (node_at w r j) (sym q))))
      | inr p ↦ elim (cases_Bool (present w rs r j)) [
        | inl u ↦ rw u (more p)
        | inr u ↦ rw u (or_right (eqb n (node_at w r j)) (among n ns) (more p))
      ]
    ]

-- an own node of r lies under none of rs
own_alone : (w : ℕ) (rs : List ℕ) (r j n : ℕ) → r < 2 ^ w → AllByRecursion (λ s. s < 2 ^ w) rs → j ≤ w + 1 → among n (own_nodes w rs r j) ≡ true → any (λ s. lies w s n) rs ≡ false
unfolding own_nodes
own_alone w rs r zero n rw' a h t = absurd (false≢true t)
own_alone w rs r (suc j) n rw' a h t =
    let ns = own_nodes w rs r j in
    let more : among n ns ≡ true → any (λ s. lies w s n) rs ≡ false = own_alone w rs r j n rw' a (omega arith) in
    elim (cases_Bool (present w rs r j)) [
      | inl u ↦ more (rw u at t)
      | inr u ↦ elim (or_cases (eqb n (node_at w r j)) (among n ns) (rw u at t)) [
        | inl e ↦ subst (λ m. any (λ s. lies w s m) rs ≡ false) (sym (eqb-true n (node_at w r j) e)) (lies_present w r j rs rw' (omega arith) a ∙ u)
        | inr e ↦ more e
      ]
    ]

module _ (w : ℕ) where
  all_under : (rs : List ℕ) (n : ℕ) → AllByRecursion (λ r. r < 2 ^ w) rs → among n (all_nodes w rs) ≡ any (λ r. lies w r n) rs
  unfolding all_nodes lies
  all_under [] n a = refl
  all_under (r ∷ rs) n a =
      let more = all_under rs n a.1 in
      let own = own_nodes w rs r (w + 1) in
      among_append n own (all_nodes w rs) ∙ elim (cases_Bool (any (λ s. lies w s n) rs)) [
        | inl t ↦ or_right (among n own) (among n (all_nodes w rs)) (more ∙ t) ∙ sym (or_right (passed w r (w + 1) n) _ t)
        | inr t ↦ ap (λ b. among n own || b) (more ∙ t) ∙ elim (cases_Bool (passed w r (w + 1) n)) [
          | inl u ↦ or_left (among n own) false (own_or_other w rs r (w + 1) n a.0 a.1 (omega arith) u t) ∙ sym (or_left (passed w r (w + 1) n) _ u)
          | inr u ↦ or_from (among n own) false (elim (cases_Bool (among n own)) [
            | inl v ↦ absurd (true≢false (sym (own_passed w rs r (w + 1) n v) ∙ u))
            | inr v ↦ v
          ]) refl ∙ sym (or_from (passed w r (w + 1) n) _ u t)
        ]
      ]

  all_apart : (rs : List ℕ) → AllByRecursion (λ r. r < 2 ^ w) rs → apart (all_nodes w rs) ≡ true
  unfolding all_nodes
  all_apart [] a = refl
  all_apart (r ∷ rs) a =
      apart_append (own_nodes w rs r (w + 1)) (all_nodes w rs) (own_apart w rs r (w + 1) a.0 (omega arith)) (all_apart rs a.1)
      (λ n t. all_under rs n a.1 ∙ own_alone w rs r (w + 1) n a.0 a.1 (omega arith) t)

-- ---- a dictionary's nodes
module _ (w : ℕ) (rep : ℕ → ℕ) (order : List ℕ) (o : Ordered w rep order) (nodes : List ℕ) (f : Pairs) (once : apart nodes ≡ true) (held : (n : ℕ) → is_some (f n) ≡ among n nodes) where
  fits : AllByRecursion (λ r. r < 2 ^ w) (map rep order)
  fits = all_map (λ r. r < 2 ^ w) rep order o.fits

  into : (n : ℕ) → is_some (links w rep order n) ≡ among n (all_nodes w (map rep order))
  into n = links_some w rep order n ∙ sym (all_under w (map rep order) n fits)

  pub held_count : f ≡ links w rep order → length nodes ≡ node_count w (map rep order)
  held_count e =
      let all = all_nodes w (map rep order) in
      let same : (n : ℕ) → among n nodes ≡ among n all = λ n. sym (held n) ∙ ap (λ g. is_some (g n)) e ∙ into n in
      let up = pigeon nodes all once (λ n t. sym (same n) ∙ t) in
      let down = pigeon all nodes (all_apart w (map rep order) fits) (λ n t. same n ∙ t) in
      omega (arith, up, down, all_many w (map rep order))

  pub room_left : (node : ℕ) → ((n : ℕ) → is_some (f n) ≡ true → is_some (links w rep order n) ≡ true) → is_some (links w rep order node) ≡ true → f node ≡ None →
      length nodes < (w + 1) * length order
  room_left node sub own none =
      let all = all_nodes w (map rep order) in
      let new : among node nodes ≡ false = sym (held node) ∙ ap is_some none in
      let p = pigeon (node ∷ nodes) all (and_from _ _ (not_from_false _ new) once)
      (λ n t. elim (cases_eq n node) [
        | inl e ↦ subst (λ m. among m all ≡ true) (sym e) (sym (into node) ∙ own)
        | inr e ↦ sym (into n) ∙ sub n (held n ∙ (rw (ne_eqb n node e) at t))
      ]) in
      let most : node_count w (map rep order) ≤ (w + 1) * length order = subst (λ m. node_count w (map rep order) ≤ (w + 1) * m) (length-map order rep) (node_count_most w (map rep order)) in
      omega (arith, p, all_many w (map rep order), most)
