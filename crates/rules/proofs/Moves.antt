-- A rebuilding leaves the entries as they stand, in buckets where they belong.
use Rattle.std.proofs.Common.{◌≡◌, ℕ, zero, suc, ◌+◌, ◌-◌, ◌<◌, ◌≤◌, List, [], ◌∷◌, ◌++◌, length, take, drop, sym, refl, ap, ◌∙◌, subst, arith}
use Rattle.std.proofs.lemmas.List.{length-append, append_assoc, append-nil, take-append-drop, drop_more}
use Rattle.rules.proofs.Ways.{several_long, grown_ways, shrunk_ways}
use Rattle.rules.proofs.Potential.{share_after}
use Rattle.rules.proofs.Spreads.{rise_le, rise_join, lowest_append, spread_parts, spread_join, flat_append}
use Rattle.entry.specs.declared.Entry.{Entry}
use Rattle.entry.specs.Lists.{first}
use Rattle.rules.specs.Buckets.{Bucket, hollow, size, flat, here, lowest, Rise, Spread}
use Rattle.rules.specs.Changes.{splice, cut, halves, merged, grown, shrunk, join_at, split_at}

-- t has the entries of s, spread out as well
pub record Alike (top : ℕ) (s t : List Bucket) : Type 0 where
  pub spread : Spread top t
  pub first : lowest top t ≡ lowest top s
  pub same : flat t ≡ flat s

pub swap : (top : ℕ) (P old new R : List Bucket) → Spread top (P ++ (old ++ R)) → (Spread (lowest top R) old → Alike (lowest top R) old new) →
    Alike top (P ++ (old ++ R)) (P ++ (new ++ R))
swap top P old new R h f =
    let p = spread_parts top P (old ++ R) h in
    let q = spread_parts top old R p.1 in
    let a = f q.0 in
    let e : lowest top (new ++ R) ≡ lowest top (old ++ R) = lowest_append top new R ∙ (a.first ∙ sym (lowest_append top old R)) in
    record {
      spread = spread_join top P (new ++ R) (rw e p.0) (spread_join top new R a.spread q.1);
      first = lowest_append top P (new ++ R) ∙ (rw e (sym (lowest_append top P (old ++ R))));
      same = rw (flat_append P (new ++ R), flat_append P (old ++ R), flat_append new R, flat_append old R, a.same);
    }

-- ---- the halves
pub rise_split : (lo hi c : ℕ) (xs : List Entry) → c < length xs → Rise lo hi xs →
    let mid = (first (drop c xs)).key in
    Rise lo mid (take c xs) × Rise mid hi (drop c xs) × (lo + c ≤ mid) × (mid < hi)
rise_split lo hi c [] p h = absurd (omega arith)
rise_split lo hi zero (e ∷ es) p h = (h.0, (omega arith, h.1), omega arith, rise_le (suc e.key) hi es h.1)
rise_split lo hi (suc c) (e ∷ es) p h =
    let r = rise_split (suc e.key) hi c es (omega arith) h.1 in
    ((h.0, r.0), r.1, omega arith, r.3)

pub halved : (top : ℕ) (b : Bucket) → 2 ≤ size b → Rise b.rep top b.items → Alike top (b ∷ []) (halves b)
halved top b p h =
    let r = rise_split b.rep top (cut b) b.items (omega arith) h in
    record {
      spread = (omega arith, (r.0, (r.3, (r.1, tt))));
      first = refl;
      same = rw (append-nil, append-nil) (take-append-drop (cut b) b.items);
    }

pub joined_up : (top : ℕ) (a b : Bucket) → Spread top (a ∷ b ∷ []) → Alike top (a ∷ b ∷ []) (merged a b ∷ [])
joined_up top a b h = record {
  spread = (omega arith, (rise_join a.rep b.rep top a.items b.items h.1.0 h.1.1.1.0, tt));
  first = refl;
  same = append_assoc a.items b.items [];
}

pub alike_trans : (top : ℕ) (s t u : List Bucket) → Alike top s t → Alike top t u → Alike top s u
alike_trans top s t u p q = record { spread = q.spread; first = q.first ∙ p.first; same = q.same ∙ p.same }

pub cut_at : (s : List Bucket) (i : ℕ) → i < length s → s ≡ take i s ++ (here i s ∷ drop (i + 1) s)
cut_at s i h = sym (take-append-drop i s) ∙ ap (λ t. take i s ++ t) (drop_more s i hollow h)

pub cut_two : (s : List Bucket) (i : ℕ) → i + 1 < length s → s ≡ take i s ++ (here i s ∷ here (i + 1) s ∷ drop (i + 2) s)
cut_two s i h =
    let e : i + 1 + 1 ≡ i + 2 = omega arith in
    let d : drop (i + 1) s ≡ here (i + 1) s ∷ drop (i + 1 + 1) s = drop_more s (i + 1) hollow h in
    cut_at s i (omega arith) ∙ ap (λ t. take i s ++ (here i s ∷ t)) (rw e at d)

pub split_alike : (top : ℕ) (s : List Bucket) (i : ℕ) → i < length s → 2 ≤ size (here i s) → Spread top s → Alike top s (splice i 1 (halves (here i s)) s)
split_alike top s i p q h =
    let e = cut_at s i p in
    let new = halves (here i s) in
    let r = swap top (take i s) (here i s ∷ []) new (drop (i + 1) s) (subst (Spread top) e h)
    (λ l. halved (lowest top (drop (i + 1) s)) (here i s) q l.1.0) in
    subst (λ (z : List Bucket). Alike top z (splice i 1 new s)) (sym e) r

pub join_alike : (top : ℕ) (s : List Bucket) (i : ℕ) → i + 1 < length s → Spread top s → Alike top s (splice i 2 (merged (here i s) (here (i + 1) s) ∷ []) s)
join_alike top s i p h =
    let e = cut_two s i p in
    let a = here i s in
    let b = here (i + 1) s in
    let r = swap top (take i s) (a ∷ b ∷ []) (merged a b ∷ []) (drop (i + 2) s) (subst (Spread top) e h) (joined_up (lowest top (drop (i + 2) s)) a b) in
    subst (λ (z : List Bucket). Alike top z (splice i 2 (merged a b ∷ []) s)) (sym e) r

pub share_alike : (top : ℕ) (s : List Bucket) (i : ℕ) → i + 1 < length s → 2 ≤ size (here i s) + size (here (i + 1) s) → Spread top s →
    Alike top s (splice i 2 (halves (merged (here i s) (here (i + 1) s))) s)
share_alike top s i p q h =
    let e = cut_two s i p in
    let a = here i s in
    let b = here (i + 1) s in
    let hi = lowest top (drop (i + 2) s) in
    let n = length-append a.items b.items in
    let r = swap top (take i s) (a ∷ b ∷ []) (halves (merged a b)) (drop (i + 2) s) (subst (Spread top) e h)
    (λ l. let j = joined_up hi a b l in
    alike_trans hi (a ∷ b ∷ []) (merged a b ∷ []) (halves (merged a b)) j (halved hi (merged a b) (omega arith) j.spread.1.0)) in
    subst (λ (z : List Bucket). Alike top z (splice i 2 (halves (merged a b)) s)) (sym e) r

pub alike_self : (top : ℕ) (s : List Bucket) → Spread top s → Alike top s s
alike_self top s h = record { spread = h; first = refl; same = refl }

pub grown_alike : (w top : ℕ) (s : List Bucket) (i : ℕ) → 8 ≤ w → i < length s → Spread top s → Alike top s (grown w i s).after
unfolding split_at
grown_alike w top s i big p h =
    grown_ways w i s (λ c. Alike top s c.after) (λ q. split_alike top s i p (omega arith) h) (λ _. alike_self top s h)

pub shrunk_alike : (w top : ℕ) (s : List Bucket) (i : ℕ) → 8 ≤ w → i < length s → Spread top s → Alike top s (shrunk w i s).after
unfolding join_at
shrunk_alike w top s i big p h =
    shrunk_ways w i s (λ c. Alike top s c.after) (λ _. alike_self top s h)
    (λ q e n. let long = several_long s e in join_alike top s (i - 1) (omega arith) h)
    (λ q e n. let long = several_long s e in rw (share_after w (i - 1) s (omega arith)) (share_alike top s (i - 1) (omega arith) (omega arith) h))
