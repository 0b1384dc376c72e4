-- A split and a merge, as the rules say.
use Rattle.std.proofs.Common.{◌≡◌, ℕ, ◌+◌, ◌/◌, true, false, ◌||◌, eqb, List, [], ◌∷◌, ◌++◌, map, length, take, drop, sym, refl, ap, ◌∙◌, subst, inl, inr}
use mathlib.Core.Bool.{false≢true}
use Rattle.std.proofs.lemmas.Bool.{cases_Bool, eq-eqb}
use Rattle.std.specs.List.{AllByRecursion}
use Rattle.dictionary.specs.Pairs.{among}
use Rattle.entry.specs.declared.Entry.{Entry}
use Rattle.entry.specs.Lists.{first}
use Rattle.levels.specs.Counts.{turning}
use Rattle.links.specs.Orders.{with_at, put_after}
use Rattle.links.proofs.Orders.{Not, apart_all, all_parts, all_among}
use Rattle.buckets.specs.declared.Table.{Table}
use Rattle.buckets.specs.Tables.{rep_of, size_of, root_of, order_of, no_tree, Shows}
use Rattle.trees.specs.Trees.{entries}
use Rattle.avl.specs.declared.pool.Pool.{Pool}
use Rattle.forest.specs.Forests.{items_of, row_of, Forest, Halved}
use Rattle.rules.specs.Buckets.{Bucket, hollow, reps, here}
use Rattle.rules.specs.Changes.{low_half, high_half, split_at}
use Rattle.rows.specs.Rows.{bucket}
use Rattle.rows.proofs.Cuts.{at_cut, splice_cut}
use Rattle.rows.proofs.Places.{row_reps}
use Rattle.trie.specs.Sound.{reps_of}
use Rattle.inside.proofs.Opened.{order_opened, tree_other, rep_other, rep_new}

pub same_bucket : (a b : Bucket) → a.rep ≡ b.rep → a.items ≡ b.items → a ≡ b
same_bucket a b p q = λ i. record { rep = p i; items = q i }

all_not : (m : ℕ) (xs ys : List ℕ) → AllByRecursion (Not m) (xs ++ ys) → AllByRecursion (Not m) xs × AllByRecursion (Not m) ys
all_not m xs ys a = all_parts (Not m) xs ys a

pub among_left : (x : ℕ) (xs ys : List ℕ) → among x xs ≡ true → among x (xs ++ ys) ≡ true
among_left x [] ys h = absurd (false≢true h)
among_left x (y ∷ xs) ys h = elim (cases_Bool (eqb x y)) [
  | inl e ↦ ap (λ b. b || among x (xs ++ ys)) e
  | inr e ↦ ap (λ b. b || among x (xs ++ ys)) e ∙ among_left x xs ys (sym (ap (λ b. b || among x xs) e) ∙ h)
]

pub among_right : (x : ℕ) (xs ys : List ℕ) → among x ys ≡ true → among x (xs ++ ys) ≡ true
among_right x [] ys h = h
among_right x (y ∷ xs) ys h = elim (cases_Bool (eqb x y)) [
  | inl e ↦ ap (λ b. b || among x (xs ++ ys)) e
  | inr e ↦ ap (λ b. b || among x (xs ++ ys)) e ∙ among_right x xs ys h
]

pub among_first : (x : ℕ) (xs : List ℕ) → among x (x ∷ xs) ≡ true
among_first x xs = ap (λ b. b || among x xs) (eq-eqb x x refl)

-- what holds of each number that is in a list holds of all of them
pub all_in : (P : ℕ → Type 0) (xs : List ℕ) → ((x : ℕ) → among x xs ≡ true → P x) → AllByRecursion P xs
all_in P [] h = tt
all_in P (x ∷ xs) h = (h x (among_first x xs), all_in P xs (λ y m. h y (among_right y (x ∷ []) xs m)))

-- t became u as m was opened behind n with the lowest key of n's upper half, and then v as n was halved
module _ (t u v : Table) (p q : Pool) (n m : ℕ) (pre post : List ℕ) (fo : Forest t p) (cut : order_of t ≡ pre ++ n ∷ post) (before : AllByRecursion (Not n) pre) (behind : AllByRecursion (Not n) post)
    (new : among m (order_of t) ≡ false) where
  abbrev all_items : List Entry
  all_items = items_of t p n

  abbrev middle : ℕ
  middle = (first (drop (length all_items / 2) all_items)).key

  not_m : AllByRecursion (Not m) (pre ++ n ∷ post)
  not_m = subst (AllByRecursion (Not m)) cut (apart_all m (order_of t) new)

  module _ (sh : Shows u (put_after n m (order_of t)) (with_at (rep_of t) m middle) (with_at (size_of t) m 0) (with_at (root_of t) m no_tree)) (ha : Halved u p v q n m) where
    -- what a number's bucket is before and after
    abbrev old : ℕ → Bucket
    old = bucket (rep_of t) (items_of t p)

    abbrev now_is : ℕ → Bucket
    now_is = bucket (rep_of v) (items_of v q)

    opened_order : order_of u ≡ pre ++ n ∷ m ∷ post
    opened_order = order_opened t u p n m middle pre post fo cut before new sh

    kept_one : (x : ℕ) → among x (order_of u) ≡ true → Not n x → Not m x → now_is x ≡ old x
    kept_one x o a b = same_bucket (now_is x) (old x)
        (ap (λ g. g x) ha.kept.rep ∙ rep_other t u p n m middle pre post fo cut before new sh x b)
        (ap entries (ha.kept.others x o (a, (b, tt))) ∙ ap entries (tree_other t u p n m middle pre post fo cut before new sh x b))

    kept_all : (xs : List ℕ) → ((x : ℕ) → among x xs ≡ true → among x (order_of u) ≡ true) → AllByRecursion (Not n) xs → AllByRecursion (Not m) xs → AllByRecursion (λ x. now_is x ≡ old x) xs
    kept_all xs o a b = all_in (λ x. now_is x ≡ old x) xs (λ x h. kept_one x (o x h) (all_among (Not n) xs x a h) (all_among (Not m) xs x b h))

    in_pre : (x : ℕ) → among x pre ≡ true → among x (order_of u) ≡ true
    in_pre x h = subst (λ l. among x l ≡ true) (sym opened_order) (among_left x pre (n ∷ m ∷ post) h)

    in_post : (x : ℕ) → among x post ≡ true → among x (order_of u) ≡ true
    in_post x h = subst (λ l. among x l ≡ true) (sym opened_order) (among_right x pre (n ∷ m ∷ post) (among_right x (n ∷ m ∷ []) post h))

    n_not_m : Not m n
    n_not_m = (all_not m pre (n ∷ post) not_m).1.0

    items_opened : items_of u p n ≡ all_items
    items_opened = ap entries (tree_other t u p n m middle pre post fo cut before new sh n n_not_m)

    here_is : here (length pre) (row_of t p) ≡ old n
    here_is = ap (λ l. here (length pre) (map old l)) cut ∙ at_cut old hollow pre n post

    low_is : now_is n ≡ low_half (old n)
    low_is = same_bucket (now_is n) (low_half (old n))
        (ap (λ g. g n) ha.kept.rep ∙ rep_other t u p n m middle pre post fo cut before new sh n n_not_m)
        (ha.lower ∙ ap (λ (es : List Entry). take (length es / 2) es) items_opened)

    high_is : now_is m ≡ high_half (old n)
    high_is = same_bucket (now_is m) (high_half (old n))
        (ap (λ g. g m) ha.kept.rep ∙ rep_new t u p n m middle pre post fo cut before new sh)
        (ha.upper ∙ ap (λ (es : List Entry). drop (length es / 2) es) items_opened)

    pub row_split : (w : ℕ) → row_of v q ≡ (split_at w (length pre) (row_of t p)).after
    unfolding split_at
    row_split w =
        let order : order_of v ≡ pre ++ ((n ∷ m ∷ []) ++ post) = ha.kept.order ∙ opened_order in
        let parts = all_not m pre (n ∷ post) not_m in
        ap (map now_is) order
        ∙ (splice_cut old now_is pre (n ∷ []) (n ∷ m ∷ []) post (kept_all pre in_pre before parts.0) (kept_all post in_post behind parts.1.1)
        ∙ (ap (λ (l : List ℕ). take (length pre) (map old l) ++ (map now_is (n ∷ m ∷ []) ++ drop (length pre + 1) (map old l))) (sym cut)
        ∙ ap (λ (l : List Bucket). take (length pre) (row_of t p) ++ (l ++ drop (length pre + 1) (row_of t p)))
        (ap (λ b. b ∷ now_is m ∷ []) (low_is ∙ ap low_half (sym here_is)) ∙ ap (λ b. low_half (here (length pre) (row_of t p)) ∷ b ∷ []) (high_is ∙ ap high_half (sym here_is)))))

    pub frames_split : (w : ℕ) → turning w (reps_of t) middle ≡ (split_at w (length pre) (row_of t p)).frames
    unfolding split_at
    frames_split w =
        ap (λ l. turning w l middle) (sym (row_reps (rep_of t) (items_of t p) (order_of t)))
        ∙ ap (λ b. turning w (reps (row_of t p)) (high_half b).rep) (sym here_is)
