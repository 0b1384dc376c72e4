-- A node that gets two children: what the write leaves, and the tree that then lies under it.
--
--   ready_top    the root of a tree can be taken for a child
--   hung_long, hung_other, hung_keeps  the pool outside of the node
--   hung_lies    the tree under the node
--   Hook, hook   what hang asks
use Rattle.std.proofs.Common.{◌≡◌, ℕ, ◌+◌, ◌<◌, ◌≤◌, max, eqb, List, length, sym, refl, ap, ◌∙◌, subst, arith, length-set, get_or-set_other, get_or-set_same}
use Rattle.std.proofs.lemmas.Bool.{ne_eqb, cond-false}
use Rattle.trees.specs.declared.Node.{Node}
use Rattle.trees.specs.Counts.{times}
use Rattle.trees.specs.Trees.{Tree, leaf, node, top, tall, places}
use Rattle.trees.specs.Pools.{no_node, node_at, entry_at, high, Lies}
use Rattle.trees.proofs.Pools.{lies_kept}
use Rattle.avl.specs.Turns.{Ready, hung}

high_top : (ns : List Node) (t : Tree) → length ns ≤ 512 → Lies ns t → high ns (top t) ≡ tall t
high_top ns leaf few h = refl
high_top ns (node i e l r) few h =
    let lt : i < length ns = h.0 in
    cond-false (eqb i 65535) _ _ (ne_eqb i 65535 (omega arith)) ∙ ap (λ n. n.height) h.1

pub ready_top : (ns : List Node) (t : Tree) → length ns ≤ 512 → tall t < 200 → Lies ns t → Ready ns (top t)
ready_top ns leaf few low h = (λ z. absurd (z refl), omega arith)
ready_top ns (node i e l r) few low h = (λ z. h.0, omega (arith, high_top ns (node i e l r) few h))

pub hung_long : (ns : List Node) (i l r : ℕ) → length (hung ns i l r) ≡ length ns
hung_long ns i l r = length-set ns i _

pub hung_other : (ns : List Node) (i l r x : ℕ) → (x ≡ i → ⊥) → node_at (hung ns i l r) x ≡ node_at ns x
hung_other ns i l r x ne = get_or-set_other ns i x _ no_node ne

pub hung_keeps : (ns : List Node) (i l r : ℕ) (t : Tree) → times i (places t) ≡ 0 → Lies ns t → Lies (hung ns i l r) t
hung_keeps ns i l r t out h = lies_kept ns (hung ns i l r) t (hung_long ns i l r)
    (λ j z. hung_other ns i l r j (λ e. omega (arith, ap (λ q. times q (places t)) e))) h

-- what a call of hang asks
abbrev pub Hook : List Node → ℕ → ℕ → ℕ → Type 0
Hook ns i x y = record { inside : i < length ns; left : Ready ns x; right : Ready ns y }

module _ (ns : List Node) (i a b : ℕ) (l r : Tree) (few : length ns ≤ 512) (lt : i < length ns) (el : top l ≡ a) (er : top r ≡ b) (hl : Lies ns l) (hr : Lies ns r) where
  pub hung_lies : times i (places l) ≡ 0 → times i (places r) ≡ 0 → Lies (hung ns i a b) (node i (entry_at ns i) l r)
  hung_lies ol or = (
    omega (arith, hung_long ns i a b, lt),
    get_or-set_same ns i _ no_node lt ∙ (λ d. record { key = (node_at ns i).key; note = (node_at ns i).note; left = sym el d; right = sym er d; height = 1 + max (low_is d) (high_is d) }),
    hung_keeps ns i a b l ol hl,
    hung_keeps ns i a b r or hr,
  )
    where
      low_is : high ns a ≡ tall l
      low_is = ap (high ns) (sym el) ∙ high_top ns l few hl

      high_is : high ns b ≡ tall r
      high_is = ap (high ns) (sym er) ∙ high_top ns r few hr

  pub hook : tall l < 200 → tall r < 200 → Hook ns i a b
  hook p q = record { inside = lt; left = subst (Ready ns) el (ready_top ns l few p hl); right = subst (Ready ns) er (ready_top ns r few q hr) }
