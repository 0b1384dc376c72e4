-- The list of a kind's own keys against the list by bits.
use Rattle.std.proofs.Common.{◌≡◌, ℕ, ◌^◌, Bool, true, false, not, ◌||◌, eqb, ltb, leb, ◌⊎◌, List, [], ◌∷◌, map, length, is_some, Some, None, filter, Option, sym, refl, ap, ◌∙◌, subst, inl, inr, arith}
use Rattle.std.proofs.lemmas.List.{map-append, length-map}
use Rattle.std.proofs.lemmas.Bool.{cases_Bool, cases_lt, le-leb, lt-leb, or_left, or_right, true≢false}
use Rattle.std.proofs.lemmas.Bool.Decides.{nat_tests as tests}
use Rattle.entry.specs.declared.Entry.{Entry}
use Rattle.entry.specs.Lists.{at, below, above, from, upto, between, put, without, filled}
use Rattle.ordered.specs.declared.calls.Call.{Call}
use Rattle.ordered.specs.declared.calls.Call.TheVariants.{Add, Remove, Find, Next, Last, Range}
use Rattle.ordered.specs.declared.refusal.Refusal.{Refusal}
use Rattle.ordered.specs.declared.refusal.Refusal.TheVariants.{TooLarge}
use Rattle.ordered.specs.Sorted.{Listed, refused, large, no_add, no_find, keeps, unless, fitting, listed}
use Rattle.ordered.specs.Kinds.{Kind, KindLaws, Item, shown, own_below, own_above, own_from, own_upto, own_between, own_put, own_without, known, own_add, own_remove, own_find, own_next, own_last, own_range, own_listed}
use Rattle.ordered.specs.Runs.{Asked, list_answers, list_after, own_answers, own_after, ListsAgree}

-- ---- filters
map_kept : {A B : Type 0} (f : A → B) (p : A → Bool) (q : B → Bool) → ((x : A) → p x ≡ q (f x)) → (xs : List A) → map f (filter p xs) ≡ filter q (map f xs)
map_kept f p q h [] = refl
map_kept f p q h (x ∷ xs) = elim (cases_Bool (q (f x))) [
  | inl e ↦ (rw (h x, e) (ap (λ t. f x ∷ t) (map_kept f p q h xs)))
  | inr e ↦ (rw (h x, e) (map_kept f p q h xs))
]

at_is : (k : ℕ) (xs : List Entry) → from k (upto k xs) ≡ at k xs
at_is k [] = refl
at_is k (x ∷ xs) = elim (cases_Bool (leb x.key k)) [
  | inl e ↦ (elim (cases_Bool (leb k x.key)) [
    | inl d ↦ (let z : eqb x.key k ≡ true = grind (arith, tests) in rw (e, d, z) (ap (λ t. x ∷ t) (at_is k xs)))
    | inr d ↦ (let z : eqb x.key k ≡ false = grind (arith, tests) in rw (e, d, z) (at_is k xs))
  ])
  | inr e ↦ (let z : eqb x.key k ≡ false = grind (arith, tests) in rw (e, z) (at_is k xs))
]

not_before : (a b : ℕ) → not (ltb a b) ≡ leb b a
not_before a b = grind (arith, tests)

keeps_map : {A B : Type 0} (f : A → B) (no : Option Refusal) (new old : List A) → map f (keeps no new old) ≡ keeps no (map f new) (map f old)
keeps_map f None new old = refl
keeps_map f (Some r) new old = refl

filled_map : {A B : Type 0} (f : A → B) (xs : List A) → filled xs ≡ filled (map f xs)
filled_map f [] = refl
filled_map f (x ∷ xs) = refl

module _ {K : Type 0} (kind : Kind K) (laws : KindLaws kind) where
  below_shown : (k : K) (xs : List (Item K)) → map (shown kind) (own_below kind k xs) ≡ below (kind.bits k) (map (shown kind) xs)
  below_shown k xs = map_kept (shown kind) (λ x. kind.before x.key k) (λ e. ltb e.key (kind.bits k)) (λ x. laws.ordered x.key k) xs

  above_shown : (k : K) (xs : List (Item K)) → map (shown kind) (own_above kind k xs) ≡ above (kind.bits k) (map (shown kind) xs)
  above_shown k xs = map_kept (shown kind) (λ x. kind.before k x.key) (λ e. ltb (kind.bits k) e.key) (λ x. laws.ordered k x.key) xs

  from_shown : (k : K) (xs : List (Item K)) → map (shown kind) (own_from kind k xs) ≡ from (kind.bits k) (map (shown kind) xs)
  from_shown k xs = map_kept (shown kind) (λ x. not (kind.before x.key k)) (λ e. leb (kind.bits k) e.key)
      (λ x. ap not (laws.ordered x.key k) ∙ not_before (kind.bits x.key) (kind.bits k)) xs

  upto_shown : (k : K) (xs : List (Item K)) → map (shown kind) (own_upto kind k xs) ≡ upto (kind.bits k) (map (shown kind) xs)
  upto_shown k xs = map_kept (shown kind) (λ x. not (kind.before k x.key)) (λ e. leb e.key (kind.bits k))
      (λ x. ap not (laws.ordered k x.key) ∙ not_before (kind.bits k) (kind.bits x.key)) xs

  between_shown : (a b : K) (xs : List (Item K)) → map (shown kind) (own_between kind a b xs) ≡ between (kind.bits a) (kind.bits b) (map (shown kind) xs)
  between_shown a b xs = from_shown a (own_upto kind b xs) ∙ ap (from (kind.bits a)) (upto_shown b xs)

  at_shown : (k : K) (xs : List (Item K)) → map (shown kind) (own_between kind k k xs) ≡ at (kind.bits k) (map (shown kind) xs)
  at_shown k xs = between_shown k k xs ∙ at_is (kind.bits k) (map (shown kind) xs)

  put_shown : (x : Item K) (xs : List (Item K)) → map (shown kind) (own_put kind x xs) ≡ put (shown kind x) (map (shown kind) xs)
  put_shown x xs = map-append (shown kind) (own_below kind x.key xs) (x ∷ own_above kind x.key xs) ∙ (rw (below_shown x.key xs, above_shown x.key xs))

  without_shown : (k : K) (xs : List (Item K)) → map (shown kind) (own_without kind k xs) ≡ without (kind.bits k) (map (shown kind) xs)
  without_shown k xs = map-append (shown kind) (own_below kind k xs) (own_above kind k xs) ∙ (rw (below_shown k xs, above_shown k xs))

  -- ---- one call
  record Alike (l : Listed (Item K)) (m : Listed Entry) : Type 0 where
    told : l.told ≡ m.told
    after : map (shown kind) l.after ≡ m.after

  -- the bits of a key, or of none
  record Read (n : ℕ) (k : K) : Type 0 where
    is : kind.key n ≡ Some k
    bits : kind.bits k ≡ n
    fits : leb (2 ^ kind.width) n ≡ false

  record Unread (n : ℕ) : Type 0 where
    is : kind.key n ≡ None
    large : leb (2 ^ kind.width) n ≡ true

  opened : (n : ℕ) (o : Option K) → kind.key n ≡ o → ((k : K) × Read n k) ⊎ Unread n
  opened n (Some k) e =
      let b = laws.exact n k e in
      let s = laws.below k in
      inl (k, record { is = e; bits = b; fits = lt-leb (2 ^ kind.width) n (omega arith) })
  opened n None e = elim (cases_lt n (2 ^ kind.width)) [
    | inl h ↦ absurd (true≢false (sym (laws.every n h) ∙ ap is_some e))
    | inr h ↦ inr (record { is = e; large = le-leb (2 ^ kind.width) n h })
  ]

  one_key : (n : ℕ) (ps : List Entry) (xs : List (Item K)) (f : K → Listed (Item K)) (g : ℕ → Listed Entry) →
      ((k : K) → Alike (f k) (g (kind.bits k))) → Alike (known (kind.key n) ps xs f) (unless (large kind.width n) ps (map (shown kind) xs) (g n))
  one_key n ps xs f g h = elim (opened n (kind.key n) refl) [
    | inl (k, r) ↦ (
        let a = h k in
        rw (r.is, r.fits) (subst (λ m. Alike (f k) (g m)) r.bits a))
    | inr u ↦ (rw (u.is, u.large) (record { told = refl; after = refl }))
  ]

  add_alike : (limit : ℕ) (x : Item K) (ps : List Entry) (xs : List (Item K)) →
      Alike (own_add kind limit x ps xs) (fitting limit (Add (kind.bits x.key) x.note) ps (map (shown kind) xs))
  add_alike limit x ps xs =
      let found = own_between kind x.key x.key xs in
      let n : no_add limit (at (kind.bits x.key) (map (shown kind) xs)) (length (map (shown kind) xs)) ≡ no_add limit found (length xs) =
      rw (length-map xs (shown kind), ← at_shown x.key xs, ← filled_map (shown kind) found) refl in
      record {
        told = rw n refl;
        after = rw n (keeps_map (shown kind) (no_add limit found (length xs)) (own_put kind x xs) xs ∙ (rw (put_shown x xs) refl));
      }

  remove_alike : (limit : ℕ) (k : K) (ps : List Entry) (xs : List (Item K)) → Alike (own_remove kind k ps xs) (fitting limit (Remove (kind.bits k)) ps (map (shown kind) xs))
  remove_alike limit k ps xs =
      let no = no_find (map (shown kind) (own_between kind k k xs)) in
      record {
        told = rw (at_shown k xs) refl;
        after = keeps_map (shown kind) no (own_without kind k xs) xs ∙ (rw (at_shown k xs, without_shown k xs) refl);
      }

  find_alike : (limit : ℕ) (k : K) (ps : List Entry) (xs : List (Item K)) → Alike (own_find kind k ps xs) (fitting limit (Find (kind.bits k)) ps (map (shown kind) xs))
  find_alike limit k ps xs = record { told = rw (at_shown k xs) refl; after = refl }

  next_alike : (limit : ℕ) (k : K) (ps : List Entry) (xs : List (Item K)) → Alike (own_next kind k ps xs) (fitting limit (Next (kind.bits k)) ps (map (shown kind) xs))
  next_alike limit k ps xs = record { told = rw (from_shown k xs) refl; after = refl }

  last_alike : (limit : ℕ) (k : K) (ps : List Entry) (xs : List (Item K)) → Alike (own_last kind k ps xs) (fitting limit (Last (kind.bits k)) ps (map (shown kind) xs))
  last_alike limit k ps xs = record { told = rw (upto_shown k xs) refl; after = refl }

  range_alike : (limit : ℕ) (a b : K) (ps : List Entry) (xs : List (Item K)) → leb (2 ^ kind.width) (kind.bits a) ≡ false → leb (2 ^ kind.width) (kind.bits b) ≡ false →
      Alike (own_range kind a b ps xs) (listed kind.width limit (Range (kind.bits a) (kind.bits b)) ps (map (shown kind) xs))
  unfolding listed
  range_alike limit a b ps xs p q = rw (p, q, laws.ordered b a) (elim (cases_Bool (ltb (kind.bits b) (kind.bits a))) [
    | inl e ↦ (rw e (record { told = refl; after = refl }))
    | inr e ↦ (rw (e, between_shown a b xs) (record { told = refl; after = refl }))
  ])

  turned_large : (limit m n : ℕ) (ps : List Entry) (xs : List (Item K)) → (leb (2 ^ kind.width) m || leb (2 ^ kind.width) n) ≡ true →
      Alike (record { told = refused TooLarge ps; after = xs }) (listed kind.width limit (Range m n) ps (map (shown kind) xs))
  unfolding listed
  turned_large limit m n ps xs e = rw e (record { told = refl; after = refl })

  both_keys : (limit m n : ℕ) (ps : List Entry) (xs : List (Item K)) → Alike (own_listed kind limit (Range m n) ps xs) (listed kind.width limit (Range m n) ps (map (shown kind) xs))
  unfolding own_listed
  both_keys limit m n ps xs = elim (opened m (kind.key m) refl) [
    | inl (a, r) ↦ (elim (opened n (kind.key n) refl) [
      | inl (b, s) ↦ (
          let al = range_alike limit a b ps xs (rw r.bits r.fits) (rw s.bits s.fits) in
          let ys = map (shown kind) xs in
          let one = subst (λ i. Alike (own_range kind a b ps xs) (listed kind.width limit (Range i (kind.bits b)) ps ys)) r.bits al in
          rw (r.is, s.is) (subst (λ j. Alike (own_range kind a b ps xs) (listed kind.width limit (Range m j) ps ys)) s.bits one))
      | inr u ↦ (rw (r.is, u.is) (turned_large limit m n ps xs (or_right (leb (2 ^ kind.width) m) (leb (2 ^ kind.width) n) u.large)))
    ])
    | inr u ↦ (rw u.is (turned_large limit m n ps xs (or_left (leb (2 ^ kind.width) m) (leb (2 ^ kind.width) n) u.large)))
  ]

  alike : (limit : ℕ) (c : Call) (ps : List Entry) (xs : List (Item K)) → Alike (own_listed kind limit c ps xs) (listed kind.width limit c ps (map (shown kind) xs))
  unfolding listed own_listed
  alike limit (Add n v) ps xs = one_key n ps xs _ (λ m. fitting limit (Add m v) ps (map (shown kind) xs)) (λ k. add_alike limit (record { key = k; note = v }) ps xs)
  alike limit (Remove n) ps xs = one_key n ps xs _ (λ m. fitting limit (Remove m) ps (map (shown kind) xs)) (λ k. remove_alike limit k ps xs)
  alike limit (Find n) ps xs = one_key n ps xs _ (λ m. fitting limit (Find m) ps (map (shown kind) xs)) (λ k. find_alike limit k ps xs)
  alike limit (Next n) ps xs = one_key n ps xs _ (λ m. fitting limit (Next m) ps (map (shown kind) xs)) (λ k. next_alike limit k ps xs)
  alike limit (Last n) ps xs = one_key n ps xs _ (λ m. fitting limit (Last m) ps (map (shown kind) xs)) (λ k. last_alike limit k ps xs)
  alike limit (Range m n) ps xs = both_keys limit m n ps xs

  -- ---- runs
  told_alike : (limit : ℕ) (cs : List Asked) (xs : List (Item K)) → own_answers kind limit cs xs ≡ list_answers kind.width limit cs (map (shown kind) xs)
  unfolding own_answers list_answers
  told_alike limit [] xs = refl
  told_alike limit (c ∷ cs) xs =
      let a = alike limit c.call c.places xs in
      rw (a.told, told_alike limit cs (own_listed kind limit c.call c.places xs).after, a.after)

  held_alike : (limit : ℕ) (cs : List Asked) (xs : List (Item K)) → map (shown kind) (own_after kind limit cs xs) ≡ list_after kind.width limit cs (map (shown kind) xs)
  unfolding own_after list_after
  held_alike limit [] xs = refl
  held_alike limit (c ∷ cs) xs =
      let a = alike limit c.call c.places xs in
      rw (held_alike limit cs (own_listed kind limit c.call c.places xs).after, a.after)

  pub lists_agree : ListsAgree kind
  lists_agree limit cs = record { told = told_alike limit cs []; held = held_alike limit cs [] }
