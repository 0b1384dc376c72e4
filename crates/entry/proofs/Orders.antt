-- Rising lists: their parts, and how they are joined.
--
--   over_less, under_more   a lower bound for Over, a higher one for Under
--   below_under, above_over what the filters leave lies on its side of the key
--   all_parts, rising_parts the parts of a joined list
--   Split                   two lists around an entry: all lower, all higher, both rising
--   rising_append           two rising lists that a key parts
--   rising_split, rising_join a rising list is such a split, and the other way round
--   rising_kept, rising_put, rising_without  what is done to a rising list leaves it rising
--   at_most_one             a rising list has one entry at a key at most
use Rattle.std.proofs.Common.{◌≡◌, ℕ, ◌<◌, ◌≤◌, Bool, true, eqb, ltb, List, [], ◌∷◌, ◌++◌, length, filter, ap, arith}
use Rattle.std.specs.List.{AllByRecursion}
use Rattle.std.proofs.ByRecursion.{All-append, All-weaker, all_kept_by, kept_by_passes}
use Rattle.std.proofs.lemmas.Bool.{ltb-true, cond_both, eqb-true}
use Rattle.entry.specs.declared.Entry.{Entry}
use Rattle.entry.specs.Lists.{below, at, above, put, without, Over, Under, Rising}
use Rattle.entry.proofs.Filters.{over_at}

pub over_less : (k q : ℕ) (xs : List Entry) → k ≤ q → Over q xs → Over k xs
over_less k q xs le = All-weaker (λ (e : Entry). q < e.key) (λ (e : Entry). k < e.key) (λ e h. omega arith) xs

pub under_more : (k q : ℕ) (xs : List Entry) → k ≤ q → Under k xs → Under q xs
under_more k q xs le = All-weaker (λ (e : Entry). e.key < k) (λ (e : Entry). e.key < q) (λ e h. omega arith) xs

pub below_under : (k : ℕ) (xs : List Entry) → Under k (below k xs)
below_under k xs = All-weaker (λ (e : Entry). ltb e.key k ≡ true) (λ (e : Entry). e.key < k) (λ e h. ltb-true e.key k h) (below k xs) (kept_by_passes _ xs)

pub above_over : (k : ℕ) (xs : List Entry) → Over k (above k xs)
above_over k xs = All-weaker (λ (e : Entry). ltb k e.key ≡ true) (λ (e : Entry). k < e.key) (λ e h. ltb-true k e.key h) (above k xs) (kept_by_passes _ xs)

pub all_parts : {X : Type 0} (P : X → Type 0) (xs ys : List X) → AllByRecursion P (xs ++ ys) → AllByRecursion P xs × AllByRecursion P ys
all_parts P [] ys h = (tt, h)
all_parts P (x ∷ xs) ys h = let p = all_parts P xs ys h.1 in ((h.0, p.0), p.1)

pub rising_parts : (xs ys : List Entry) → Rising (xs ++ ys) → Rising xs × Rising ys
rising_parts [] ys h = (tt, h)
rising_parts (x ∷ xs) ys h =
    let p = rising_parts xs ys h.1 in
    (((all_parts (λ (z : Entry). x.key < z.key) xs ys h.0).0, p.0), p.1)

pub record Split (xs : List Entry) (e : Entry) (ys : List Entry) : Type 0 where
  pub under : Under e.key xs
  pub over : Over e.key ys
  pub left : Rising xs
  pub right : Rising ys

pub rising_split : (xs : List Entry) (e : Entry) (ys : List Entry) → Rising (xs ++ e ∷ ys) → Split xs e ys
rising_split [] e ys h = record { under = tt; over = h.0; left = tt; right = h.1 }
rising_split (x ∷ xs) e ys h =
    let p = rising_split xs e ys h.1 in
    let o = all_parts (λ (z : Entry). x.key < z.key) xs (e ∷ ys) h.0 in
    record { under = (o.1.0, p.under); over = p.over; left = (o.0, p.left); right = p.right }

pub rising_append : (k : ℕ) (xs ys : List Entry) → Under k xs → Rising xs → AllByRecursion (λ (e : Entry). k ≤ e.key) ys → Rising ys → Rising (xs ++ ys)
rising_append k [] ys u r o s = s
rising_append k (x ∷ xs) ys u r o s =
    let n : x.key < k = u.0 in (
      All-append (λ (z : Entry). x.key < z.key) xs ys r.0 (All-weaker (λ (e : Entry). k ≤ e.key) (λ (z : Entry). x.key < z.key) (λ e h. omega arith) ys o),
      rising_append k xs ys u.1 r.1 o s,
    )

pub rising_join : (xs : List Entry) (e : Entry) (ys : List Entry) → Split xs e ys → Rising (xs ++ e ∷ ys)
rising_join xs e ys s =
    rising_append e.key xs (e ∷ ys) s.under s.left
    (omega arith, All-weaker (λ (z : Entry). e.key < z.key) (λ (z : Entry). e.key ≤ z.key) (λ z h. omega arith) ys s.over) (s.over, s.right)

pub rising_kept : (p : Entry → Bool) (xs : List Entry) → Rising xs → Rising (filter p xs)
rising_kept p [] h = tt
rising_kept p (x ∷ xs) h = cond_both (p x) (x ∷ filter p xs) (filter p xs) Rising
    (λ t. (all_kept_by p (λ (z : Entry). x.key < z.key) xs h.0, rising_kept p xs h.1)) (λ t. rising_kept p xs h.1)

pub rising_put : (e : Entry) (xs : List Entry) → Rising xs → Rising (put e xs)
rising_put e xs h = rising_join (below e.key xs) e (above e.key xs)
    (record { under = below_under e.key xs; over = above_over e.key xs; left = rising_kept _ xs h; right = rising_kept _ xs h })

pub rising_without : (k : ℕ) (xs : List Entry) → Rising xs → Rising (without k xs)
rising_without k xs h = rising_append k (below k xs) (above k xs) (below_under k xs) (rising_kept _ xs h)
    (All-weaker (λ (e : Entry). k < e.key) (λ (e : Entry). k ≤ e.key) (λ e g. omega arith) (above k xs) (above_over k xs)) (rising_kept _ xs h)

pub at_most_one : (k : ℕ) (xs : List Entry) → Rising xs → length (at k xs) ≤ 1
at_most_one k [] h = omega arith
at_most_one k (x ∷ xs) h = cond_both (eqb x.key k) (x ∷ at k xs) (at k xs) (λ z. length z ≤ 1)
    (λ t. let is = eqb-true x.key k t in omega (arith, ap length (over_at k xs (over_less k x.key xs (omega arith) h.0))))
    (λ t. at_most_one k xs h.1)
