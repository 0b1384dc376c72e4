-- The pairs between an old and a new order, as a representative is set up or taken away level by level.
--
--   midway                                 the new pairs at the nodes of r below level j, the old ones elsewhere
--   Turned                                 j levels are done: the pairs are midway, and the frames made are right so far
--   turned_start, turned_at, turned_step   before the first level, at a node, and after it
--   turned_end                             after the last level
use Rattle.std.proofs.Common.{◌≡◌, ℕ, ◌+◌, ◌*◌, ◌^◌, ◌<◌, ◌≤◌, Bool, true, false, cond, eqb, List, Option, sym, refl, ap, ◌∙◌, inl, inr, add-one, arith}
use mathlib.Core.Path.{fun_ext}
use Rattle.std.proofs.lemmas.Bool.{cases_eq, cases_Bool, eq-eqb, ne_eqb, cond-true, cond-false, cond_both}
use Rattle.dictionary.specs.Pairs.{Pairs, Links, with_pair}
use Rattle.levels.specs.Nodes.{node_at}
use Rattle.levels.specs.Counts.{at_end, ends, turning}
use Rattle.links.specs.Links.{passed, lies}
use Rattle.links.proofs.Nodes.{node_low, passed_low}

abbrev pub midway : ℕ → ℕ → Pairs → Pairs → ℕ → Pairs
midway w r new old j n = cond (passed w r j n) (new n) (old n)

module _ (w r : ℕ) (new old : Pairs) where
  -- r's node at level j is not yet reached
  midway_at : (j : ℕ) → j ≤ w → r < 2 ^ w → midway w r new old j (node_at w r j) ≡ old (node_at w r j)
  midway_at j h lt = cond-false _ _ _ (passed_low w r j (node_at w r j) (omega arith) lt (node_low w r j))

  midway_step : (j : ℕ) (n : ℕ) (o : Option Links) → n ≡ node_at w r j → o ≡ new n → with_pair (midway w r new old j) n o ≡ midway w r new old (j + 1)
  midway_step j n o e f = rw add-one (fun_ext (λ m.
      elim (cases_eq m n) [
        | inl q ↦ (
            let t = eq-eqb m n q in
            let u : eqb (node_at w r j) m ≡ true = eq-eqb (node_at w r j) m (sym (q ∙ e)) in
            rw (t, u) (f ∙ ap new (sym q)))
        | inr q ↦ (
            let t = ne_eqb m n q in
            let u : eqb (node_at w r j) m ≡ false = ne_eqb (node_at w r j) m (λ z. q (sym z ∙ sym e)) in
            rw (t, u) refl)
      ]))

  -- after the last level, where both agree off r's nodes
  midway_end : ((n : ℕ) → lies w r n ≡ false → new n ≡ old n) → midway w r new old (w + 1) ≡ new
  unfolding lies
  midway_end same = fun_ext (λ n. elim (cases_Bool (passed w r (w + 1) n)) [
    | inl t ↦ cond-true _ _ _ t
    | inr t ↦ cond-false _ _ _ t ∙ sym (same n t)
  ])

pub record Turned (w r : ℕ) (rs : List ℕ) (new old : Pairs) (j frames : ℕ) (f : Pairs) : Type 0 where
  pub pairs : f ≡ midway w r new old j
  pub count : frames ≡ j + ends w rs r j
  pub few : frames ≤ 2 * j

ends_more : (w : ℕ) (rs : List ℕ) (r j : ℕ) → ends w rs r (j + 1) ≡ cond (at_end w rs r j) 1 0 + ends w rs r j
unfolding ends
ends_more w rs r j = rw add-one refl

module _ (w r : ℕ) (rs : List ℕ) (new old : Pairs) where
  pub turned_start : (f : Pairs) → f ≡ old → Turned w r rs new old 0 0 f
  unfolding ends
  turned_start f e = record { pairs = e; count = refl; few = omega arith }

  module _ (j frames : ℕ) (f : Pairs) (s : Turned w r rs new old j frames f) where
    -- the old pair still stands
    pub turned_at : (n : ℕ) → j ≤ w → r < 2 ^ w → n ≡ node_at w r j → f n ≡ old (node_at w r j)
    turned_at n jw lt e = ap (λ g. g n) s.pairs ∙ ap (midway w r new old j) e ∙ midway_at w r new old j jw lt

    -- its new pair is put, at the cost of a get, and of one frame more at an end
    pub turned_step : (n made : ℕ) (g : Pairs) (p : Option Links) (end : Bool) → n ≡ node_at w r j → g ≡ with_pair f n p → p ≡ new (node_at w r j) → made ≡ 1 + cond end 1 0 → end ≡ at_end w rs r j →
        Turned w r rs new old (j + 1) (frames + made) g
    turned_step n made g p end en eg ep em ee =
        let cost : ◌≡◌ {A = ℕ} (cond end 1 0) (cond (at_end w rs r j) 1 0) = ap (λ b. cond b 1 0) ee in
        let most : cond {A = ℕ} end 1 0 ≤ 1 = cond_both {A = ℕ} end 1 0 (λ x. x ≤ 1) (λ _. omega arith) (λ _. omega arith) in
        record {
          pairs = eg ∙ ap (λ k. with_pair k n p) s.pairs ∙ midway_step w r new old j n p en (ep ∙ ap new (sym en));
          count = omega (arith, ends_more w rs r j, s.count);
          few = omega (arith, s.few);
        }

    pub turned_end : j ≡ w + 1 → ((n : ℕ) → lies w r n ≡ false → new n ≡ old n) → (f ≡ new) × (frames ≡ turning w rs r) × (frames ≤ 2 * (w + 1))
    turned_end e same =
        (s.pairs ∙ ap (midway w r new old) e ∙ midway_end w r new old same, s.count ∙ ap (λ k. k + ends w rs r k) e, omega (arith, s.few))
