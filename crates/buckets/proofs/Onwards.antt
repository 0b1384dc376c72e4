-- A walk over the buckets from one on.
--
--   order_not_zero, later_not_zero   number 0 stands first and nowhere else
--   since_at, since_few            the order from a number on
--   at_held                        the bucket that a walk is at stands
--   Stepped, step                  a step of a walk
--   all_held                       the numbers that a walk has before it are in the order
use Rattle.std.proofs.Common.{◌≡◌, ℕ, ◌≤◌, true, not, eqb, List, [], ◌∷◌, ◌++◌, length, Some, sym, refl, ap, ◌∙◌, subst, inl, inr, append_assoc, arith}
use Rattle.std.specs.Prelude.{IfSome}
use Rattle.std.specs.declared.option.Option.{Option}
use Rattle.std.specs.List.{AllByRecursion}
use Rattle.std.proofs.lemmas.Bool.{cases_Bool, cond-true, cond-false, eq-eqb, ne_eqb, or_left, or_right}
use Rattle.std.specs.Bool.{then_some}
use Rattle.dictionary.specs.Pairs.{among, apart}
use Rattle.links.specs.Orders.{Behind}
use Rattle.links.proofs.Orders.{Not, cut, all_parts, apart_parts}
use Rattle.links.proofs.Pigeon.{among_append}
use Rattle.buckets.specs.declared.Table.{Table}
use Rattle.buckets.specs.declared.onward.Onward.{Onward}
use Rattle.buckets.specs.Tables.{next_of, rest_of, order_of}
use Rattle.buckets.specs.Onwards.{since, coming, Stands}
use Rattle.buckets.proofs.Lays.{order_is, neighbours, all_apart, order_long}

behind_all : (P : ℕ → Type 0) (rest pre : List ℕ) (n : ℕ) (post : List ℕ) → 0 ∷ rest ≡ pre ++ n ∷ post → AllByRecursion P rest → AllByRecursion P post
behind_all P rest [] n post e a = let q : rest ≡ post = cc in subst (AllByRecursion P) q a
behind_all P rest (x ∷ pre) n post e a = let q : rest ≡ pre ++ n ∷ post = cc in (all_parts P pre (n ∷ post) (subst (AllByRecursion P) q a)).1.1

since_cut : (n : ℕ) (pre post : List ℕ) → apart (pre ++ n ∷ post) ≡ true → since n (pre ++ n ∷ post) ≡ n ∷ post
since_cut n [] post a = cond-true (eqb n n) _ _ (eq-eqb n n refl)
since_cut n (x ∷ pre) post a =
    let p = apart_parts x (pre ++ n ∷ post) a in
    let other : x ≡ n → ⊥ = λ e. (all_parts (Not x) pre (n ∷ post) p.0).1.0 (sym e) in
    cond-false (eqb x n) _ _ (ne_eqb x n other) ∙ since_cut n pre post p.1

since_short : (n : ℕ) (xs : List ℕ) → length (since n xs) ≤ length xs
since_short n [] = omega arith
since_short n (x ∷ xs) = elim (cases_Bool (eqb x n)) [
  | inl e ↦ rw e (omega arith)
  | inr e ↦ rw e (omega (arith, since_short n xs))
]

held_here : (order pre : List ℕ) (n : ℕ) (post : List ℕ) → order ≡ pre ++ n ∷ post → among n order ≡ true
held_here order pre n post is = ap (among n) is ∙ (among_append n pre (n ∷ post) ∙ or_right (among n pre) _ (or_left (eqb n n) (among n post) (eq-eqb n n refl)))

further_on : (order pre : List ℕ) (n m : ℕ) (post : List ℕ) → order ≡ pre ++ n ∷ m ∷ post → order ≡ (pre ++ n ∷ []) ++ m ∷ post
further_on order pre n m post is = is ∙ sym (append_assoc pre (n ∷ []) (m ∷ post))

held_on : (order pre : List ℕ) (n : ℕ) (post : List ℕ) → order ≡ pre ++ n ∷ post → AllByRecursion (λ m. among m order ≡ true) (n ∷ post)
held_on order pre n [] is = (held_here order pre n [] is, tt)
held_on order pre n (m ∷ post) is = (held_here order pre n (m ∷ post) is, held_on order (pre ++ n ∷ []) m post (further_on order pre n m post is))

pub at_held : (o : Onward) (n : ℕ) → o.at ≡ Some n → Stands o → among n (order_of o.table.now) ≡ true
at_held o n e s = subst (λ a. IfSome a (λ m. among m (order_of o.table.now) ≡ true)) e s

-- what a step leaves: it gave the first of the numbers before it
abbrev pub Stepped : Table → ℕ → Option ℕ → Type 0
Stepped t n at = (since n (order_of t) ≡ n ∷ coming t at) × IfSome at (λ m. among m (order_of t) ≡ true)

module _ (t : Table) where
  pub order_not_zero : AllByRecursion (Not 0) (rest_of t)
  order_not_zero = (apart_parts 0 (rest_of t) (sym (ap apart (order_is t)) ∙ all_apart t)).0

  pub later_not_zero : (pre : List ℕ) (n : ℕ) (post : List ℕ) → order_of t ≡ pre ++ n ∷ post → AllByRecursion (Not 0) post
  later_not_zero pre n post is = behind_all (Not 0) (rest_of t) pre n post (sym (order_is t) ∙ is) order_not_zero

  pub since_at : (pre : List ℕ) (n : ℕ) (post : List ℕ) → order_of t ≡ pre ++ n ∷ post → since n (order_of t) ≡ n ∷ post
  since_at pre n post is = ap (since n) is ∙ since_cut n pre post (sym (ap apart is) ∙ all_apart t)

  pub since_few : (n : ℕ) → length (since n (order_of t)) ≤ 128
  since_few n = omega (arith, since_short n (order_of t), order_long t, t.stands.count, t.stands.whole)

  pub all_held : (n : ℕ) → among n (order_of t) ≡ true → AllByRecursion (λ m. among m (order_of t) ≡ true) (since n (order_of t))
  all_held n held =
      let c = cut (order_of t) n held in
      subst (AllByRecursion (λ m. among m (order_of t) ≡ true)) (sym (since_at c.pre n c.post c.is)) (held_on (order_of t) c.pre n c.post c.is)

  pub step : (n next : ℕ) → among n (order_of t) ≡ true → next ≡ next_of t n → Stepped t n (then_some (not (eqb next 0)) next)
  step n next held e =
      let c = cut (order_of t) n held in
      go c.pre c.post c.is (subst (Behind c.post) (sym e) (neighbours t c.pre n c.post c.is).1)
    where
      go : (pre post : List ℕ) → order_of t ≡ pre ++ n ∷ post → Behind post next → Stepped t n (then_some (not (eqb next 0)) next)
      go pre [] is b = let z = eq-eqb next 0 b in rw z (since_at pre n [] is, tt)
      go pre (y ∷ ys) is b =
          let z = ne_eqb next 0 (λ q. (later_not_zero pre n (y ∷ ys) is).0 (sym b ∙ q)) in
          let to = is ∙ ap (λ m. pre ++ n ∷ m ∷ ys) (sym b) in
          let on = further_on (order_of t) pre n next ys to in
          rw z (since_at pre n (next ∷ ys) to ∙ ap (λ l. n ∷ l) (sym (since_at (pre ++ n ∷ []) next ys on)), held_here (order_of t) (pre ++ n ∷ []) next ys on)
