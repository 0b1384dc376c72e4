-- A record written among the records, field by field.
--
--   with_from                       equal functions with the same value put in
--   with_own                        a function with one of its own values put in again is the same
--   Says                            what records say, and how many they are
--   written                         one record replaced: each field of that number alters, and nothing else
--   rewritten                       what a table's records say, each function written otherwise
--   sized, rooted, ahead_of, back_of   one field of one record replaced
use Rattle.std.proofs.Common.{◌≡◌, ℕ, ◌<◌, eqb, List, length, get_or, set, refl, sym, ap, ◌∙◌, inl, inr, length-set}
use mathlib.Core.Path.{fun_ext}
use Rattle.std.proofs.lemmas.List.{get_or-set_same, get_or-set_other}
use Rattle.std.proofs.lemmas.Bool.{cases_eq, eq-eqb, ne_eqb, cond-true, cond-false}
use Rattle.links.specs.Orders.{with_at}
use Rattle.links.proofs.Orders.{with_same, with_other}
use Rattle.buckets.specs.declared.Bucket.{Bucket}
use Rattle.buckets.specs.declared.Table.{Table}
use Rattle.buckets.specs.Rings.{no_bucket, rep_in, size_in, root_in, prev_in, next_in}
use Rattle.buckets.specs.Tables.{Reads}

pub with_own : (f : ℕ → ℕ) (i v : ℕ) → v ≡ f i → with_at f i v ≡ f
with_own f i v e = fun_ext (λ n. elim (cases_eq n i) [
  | inl q ↦ with_same f i v n q ∙ e ∙ ap f (sym q)
  | inr q ↦ with_other f i v n q
])

pub with_from : (f g : ℕ → ℕ) (i v : ℕ) → f ≡ g → with_at f i v ≡ with_at g i v
with_from f g i v e = ap (λ h. with_at h i v) e

set_field : (f : Bucket → ℕ) (rs : List Bucket) (i : ℕ) (b : Bucket) → i < length rs → ◌≡◌ {A = ℕ → ℕ} (λ n. f (get_or (set rs i b) n no_bucket)) (with_at (λ n. f (get_or rs n no_bucket)) i (f b))
set_field f rs i b h = fun_ext (λ n. elim (cases_eq n i) [
  | inl e ↦ ap (λ m. f (get_or (set rs i b) m no_bucket)) e ∙ ap f (get_or-set_same rs i b no_bucket h) ∙ sym (cond-true (eqb n i) _ _ (eq-eqb n i e))
  | inr e ↦ ap f (get_or-set_other rs i n b no_bucket e) ∙ sym (cond-false (eqb n i) _ _ (ne_eqb n i e))
])

pub record Says (us : List Bucket) (many : ℕ) (reps sizes roots prevs nexts : ℕ → ℕ) : Type 0 where
  pub rep : rep_in us ≡ reps
  pub size : size_in us ≡ sizes
  pub root : root_in us ≡ roots
  pub prev : prev_in us ≡ prevs
  pub next : next_in us ≡ nexts
  pub long : length us ≡ many

pub written : (rs : List Bucket) (i : ℕ) (b : Bucket) → i < length rs →
    Says (set rs i b) (length rs) (with_at (rep_in rs) i b.rep) (with_at (size_in rs) i b.size) (with_at (root_in rs) i b.root) (with_at (prev_in rs) i b.prev) (with_at (next_in rs) i b.next)
unfolding rep_in size_in root_in prev_in next_in
written rs i b h = record {
  rep = set_field (λ (b : Bucket). b.rep) rs i b h;
  size = set_field (λ (b : Bucket). b.size) rs i b h;
  root = set_field (λ (b : Bucket). b.root) rs i b h;
  prev = set_field (λ (b : Bucket). b.prev) rs i b h;
  next = set_field (λ (b : Bucket). b.next) rs i b h;
  long = length-set rs i b;
}

-- the same, each function written otherwise
pub rewritten : (t u : Table) {a b c d e a' b' c' d' e' : ℕ → ℕ} → Reads t u a b c d e → a ≡ a' → b ≡ b' → c ≡ c' → d ≡ d' → e ≡ e' → Reads t u a' b' c' d' e'
rewritten t u r p q s v w = record {
  rep = r.rep ∙ p;
  size = r.size ∙ q;
  root = r.root ∙ s;
  prev = r.prev ∙ v;
  next = r.next ∙ w;
  count = r.count;
  free = r.free;
  long = r.long;
}

-- the record of i with one field replaced
module _ (rs : List Bucket) (i v : ℕ) (h : i < length rs) where
  abbrev own : Bucket
  own = get_or rs i no_bucket

  resaid : (b : Bucket) {reps sizes roots prevs nexts : ℕ → ℕ} → with_at (rep_in rs) i b.rep ≡ reps → with_at (size_in rs) i b.size ≡ sizes → with_at (root_in rs) i b.root ≡ roots → with_at (prev_in rs) i b.prev ≡ prevs → with_at (next_in rs) i b.next ≡ nexts →
      Says (set rs i b) (length rs) reps sizes roots prevs nexts
  resaid b p q r s t =
      let w = written rs i b h in
      record { rep = w.rep ∙ p; size = w.size ∙ q; root = w.root ∙ r; prev = w.prev ∙ s; next = w.next ∙ t; long = w.long }

  pub sized : Says (set rs i (record own { size = v })) (length rs) (rep_in rs) (with_at (size_in rs) i v) (root_in rs) (prev_in rs) (next_in rs)
  unfolding rep_in size_in root_in prev_in next_in
  sized = resaid (record own { size = v }) (with_own _ _ _ refl) refl (with_own _ _ _ refl) (with_own _ _ _ refl) (with_own _ _ _ refl)

  pub rooted : Says (set rs i (record own { root = v })) (length rs) (rep_in rs) (size_in rs) (with_at (root_in rs) i v) (prev_in rs) (next_in rs)
  unfolding rep_in size_in root_in prev_in next_in
  rooted = resaid (record own { root = v }) (with_own _ _ _ refl) (with_own _ _ _ refl) refl (with_own _ _ _ refl) (with_own _ _ _ refl)

  pub back_of : Says (set rs i (record own { prev = v })) (length rs) (rep_in rs) (size_in rs) (root_in rs) (with_at (prev_in rs) i v) (next_in rs)
  unfolding rep_in size_in root_in prev_in next_in
  back_of = resaid (record own { prev = v }) (with_own _ _ _ refl) (with_own _ _ _ refl) (with_own _ _ _ refl) refl (with_own _ _ _ refl)

  pub ahead_of : Says (set rs i (record own { next = v })) (length rs) (rep_in rs) (size_in rs) (root_in rs) (prev_in rs) (with_at (next_in rs) i v)
  unfolding rep_in size_in root_in prev_in next_in
  ahead_of = resaid (record own { next = v }) (with_own _ _ _ refl) (with_own _ _ _ refl) (with_own _ _ _ refl) (with_own _ _ _ refl) refl
