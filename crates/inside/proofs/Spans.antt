-- A walk over the buckets from one on: the entries of a span of keys, counted and written.
--
--   first_held                  the next bucket stands
--   Counting, counting-..       entries are counted, and these buckets are to come
--   Writing, writing-..         they are written
use Rattle.std.proofs.Common.{◌≡◌, ℕ, ◌+◌, ◌*◌, ◌≤◌, true, List, [], ◌∷◌, ◌++◌, length, drop, sym, refl, ap, ◌∙◌, subst, zero-add, arith, length-append}
use Rattle.std.specs.List.{AllByRecursion, flat_map}
use Rattle.dictionary.specs.Pairs.{among}
use Rattle.entry.specs.declared.Entry.{Entry}
use Rattle.entry.specs.Lists.{between}
use Rattle.entry.proofs.Filters.{between_append}
use Rattle.avl.specs.declared.pool.Pool.{Pool}
use Rattle.buckets.specs.declared.Table.{Table}
use Rattle.buckets.specs.Tables.{root_of, order_of}
use Rattle.buckets.specs.Onwards.{since}
use Rattle.buckets.proofs.Onwards.{all_held, since_few}
use Rattle.forest.specs.Forests.{Forest, items_of}
use Rattle.trees.specs.Pools.{entries_at}
use Rattle.trees.specs.Answers.{laid}
use Rattle.trees.proofs.Rows.{laid_join, laid_parts}
use Rattle.trees.proofs.Looks.{span_few}
use Rattle.inside.specs.Spans.{onward, over}
use Rattle.inside.proofs.Near.{here_stands}

-- the entries of the span in these buckets
abbrev spanned : Table → Pool → ℕ → ℕ → List ℕ → List Entry
spanned t p a b left = between a b (flat_map (items_of t p) left)

-- the next bucket of a walk stands
pub first_held : (t : Table) (x : ℕ) (ys xs : List ℕ) → ys ≡ x ∷ xs → AllByRecursion (λ m. among m (order_of t) ≡ true) ys → among x (order_of t) ≡ true
first_held t x ys xs is held = (subst (AllByRecursion (λ m. among m (order_of t) ≡ true)) is held).0

-- a walk that began at n, with the entries counted so far and the buckets to come
pub record Counting (t : Table) (p : Pool) (a b n : ℕ) (left : List ℕ) (sum : ℕ) : Type 0 where
  pub held : AllByRecursion (λ m. among m (order_of t) ≡ true) left
  pub few : sum + 512 * length left ≤ 512 * 128
  pub rest : sum + length (spanned t p a b left) ≡ length (between a b (onward t p n))

-- one with the entries written so far: ps are the places at the beginning, and qs are those now
pub record Writing (t : Table) (p : Pool) (a b n : ℕ) (left : List ℕ) (place : ℕ) (ps qs : List Entry) : Type 0 where
  pub held : AllByRecursion (λ m. among m (order_of t) ≡ true) left
  pub rest : place + length (spanned t p a b left) ≡ length (between a b (onward t p n))
  pub done : laid qs place (spanned t p a b left) ≡ laid ps 0 (between a b (onward t p n))

module _ (t : Table) (p : Pool) (fo : Forest t p) (a b n : ℕ) where
  -- a bucket's entries come before those of the buckets behind it
  span_step : (x root : ℕ) (xs : List ℕ) → root ≡ root_of t x → spanned t p a b (x ∷ xs) ≡ between a b (entries_at p.nodes root) ++ spanned t p a b xs
  span_step x root xs e =
      between_append a b (items_of t p x) (flat_map (items_of t p) xs)
      ∙ ap (λ r. between a b (entries_at p.nodes r) ++ spanned t p a b xs) (sym e)

  pub counting_starts : (left : List ℕ) → among n (order_of t) ≡ true → left ≡ since n (order_of t) → Counting t p a b n left 0
  unfolding onward
  counting_starts left held e =
      subst (λ l. Counting t p a b n l 0) (sym e) (record { held = all_held t n held; few = omega (arith, since_few t n); rest = zero-add (length (spanned t p a b (since n (order_of t)))) })

  pub counting_few : (x sum root got : ℕ) (ys xs : List ℕ) → Counting t p a b n ys sum → ys ≡ x ∷ xs → root ≡ root_of t x → got ≡ length (between a b (entries_at p.nodes root)) → sum + got + 512 * length xs ≤ 512 * 128
  counting_few x sum root got ys xs w is e g = omega (arith, w.few, ap length is, g, span_few a b p.nodes root (here_stands t p fo x (first_held t x ys xs is w.held) root e))

  pub counting_goes : (x sum root got : ℕ) (ys xs : List ℕ) → Counting t p a b n ys sum → ys ≡ x ∷ xs → root ≡ root_of t x → got ≡ length (between a b (entries_at p.nodes root)) → Counting t p a b n xs (sum + got)
  counting_goes x sum root got ys xs w is e g =
      record {
        held = (subst (AllByRecursion (λ m. among m (order_of t) ≡ true)) is w.held).1;
        few = counting_few x sum root got ys xs w is e g;
        rest = omega (arith, w.rest, g, ap (λ l. length (spanned t p a b l)) is, ap length (span_step x root xs e), length-append (between a b (entries_at p.nodes root)) (spanned t p a b xs));
      }

  pub counting_ends : (sum : ℕ) (ys : List ℕ) → Counting t p a b n ys sum → ys ≡ [] → sum ≡ length (between a b (onward t p n))
  counting_ends sum ys w is = omega (arith, w.rest, ap (λ l. length (spanned t p a b l)) is)

  pub writing_starts : (left : List ℕ) (ps : List Entry) → among n (order_of t) ≡ true → left ≡ since n (order_of t) → Writing t p a b n left 0 ps ps
  unfolding onward
  writing_starts left ps held e =
      subst (λ l. Writing t p a b n l 0 ps ps) (sym e) (record { held = all_held t n held; rest = zero-add (length (spanned t p a b (since n (order_of t)))); done = refl })

  -- the bucket's entries are among those to be written
  pub writing_room : (x place root : ℕ) (ys xs : List ℕ) (ps qs : List Entry) → Writing t p a b n ys place ps qs → ys ≡ x ∷ xs → root ≡ root_of t x → length (between a b (onward t p n)) ≤ length qs →
      place + length (between a b (entries_at p.nodes root)) ≤ length qs
  writing_room x place root ys xs ps qs w is e h =
      omega (arith, w.rest, ap (λ l. length (spanned t p a b l)) is, ap length (span_step x root xs e), length-append (between a b (entries_at p.nodes root)) (spanned t p a b xs))

  pub writing_goes : (x place root end : ℕ) (ys xs : List ℕ) (ps qs rs : List Entry) → Writing t p a b n ys place ps qs → ys ≡ x ∷ xs → root ≡ root_of t x →
      rs ≡ laid qs place (between a b (entries_at p.nodes root)) → end ≡ place + length (between a b (entries_at p.nodes root)) → Writing t p a b n xs end ps rs
  writing_goes x place root end ys xs ps qs rs w is e er ee =
      let es = between a b (entries_at p.nodes root) in
      let q = ap (spanned t p a b) is ∙ span_step x root xs e in
      record {
        held = (subst (AllByRecursion (λ m. among m (order_of t) ≡ true)) is w.held).1;
        rest = omega (arith, w.rest, ee, ap length q, length-append es (spanned t p a b xs));
        done = ap (λ l. laid l end (spanned t p a b xs)) er
            ∙ (ap (λ m. laid (laid qs place es) m (spanned t p a b xs)) ee
            ∙ (sym (laid_join qs place es (spanned t p a b xs))
            ∙ (ap (laid qs place) (sym q) ∙ w.done)));
      }

  pub writing_ends : (place : ℕ) (ys : List ℕ) (ps qs : List Entry) → Writing t p a b n ys place ps qs → ys ≡ [] → length (between a b (onward t p n)) ≤ length ps → qs ≡ over (between a b (onward t p n)) ps
  writing_ends place ys ps qs w is h =
      let es = between a b (onward t p n) in
      ap (λ l. laid qs place (spanned t p a b l)) (sym is)
      ∙ (w.done ∙ (laid_parts ps 0 es (omega arith) ∙ ap (λ m. es ++ drop m ps) (zero-add (length es))))
