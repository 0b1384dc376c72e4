-- A new index and a new book, from what making promises; the law over runs on a new book.
use Rattle.std.proofs.Common.{◌≡◌, ℕ, zero, suc, ◌+◌, ◌-◌, ◌*◌, ◌<◌, ◌≤◌, true, false, ◌||◌, List, [], ◌∷◌, ◌++◌, min, length, take, drop, is_some, is_none, Option, None, Some, refl, ap, ◌∙◌, subst, arith}
use Rattle.std.proofs.lemmas.Bool.{or_parts}
use Rattle.std.proofs.lemmas.List.{drop-take, take-take, take_min, length-take}
use Rattle.dictionary.specs.Pairs.{Pairs}
use Rattle.ordered.specs.Fitness.{fitness}
use Rattle.ordered.specs.Meaning.{View}
use Rattle.rules.specs.Buckets.{reps}
use Rattle.rules.specs.Views.{view_of}
use Rattle.runs.specs.States.{Laid, visits}
use Rattle.inside.specs.declared.Inside.{Inside}
use Rattle.inside.specs.Making.{Bare}
use Rattle.inside.specs.Whole.{Sound, limit_of}
use Rattle.inside.specs.Views.{closed_view, seen_as}
use Rattle.inside.proofs.Parts.{laid}
use Rattle.book.specs.Books.{BookView, shut}
use Rattle.book.specs.Runs.{Fresh, New, Ran, piece, pieces, parts}
use Rattle.saves.specs.declared.season.Deed.{Deed}
use Rattle.saves.specs.declared.season.Outcome.{Outcome}
use Rattle.saves.specs.Seasons.{Seasoned}
use Rattle.console.specs.Opening.{Module, given, Opened, NewBook, answered, done, RanNew, SeasonNew}

pub opened_as : (w : ℕ) (f₀ : Pairs) (room₀ held₀ tally₀ : ℕ) (f : Pairs) (room tally : ℕ) (o : Option Inside) →
    is_none o ≡ is_some (fitness w 256 room₀ held₀ tally₀) → Bare o → (is_none o ≡ true → (f ≡ f₀) × (tally ≡ tally₀)) → (is_none o ≡ false → (limit_of o ≡ 256) × (tally ≡ 2 * (w + 1))) →
    Sound w f room tally o → Opened w (given f₀ room₀ held₀ tally₀) (seen_as w f tally o)
opened_as w f₀ room₀ held₀ tally₀ f room tally None e bare kept made so =
    record { shut = e; closed = λ _. let k = kept refl in λ j. closed_view w (k.0 j) (k.1 j); fitted = λ z. let y : ◌≡◌ {A = ℕ} 0 1 = cc in absurd (omega arith) }
opened_as w f₀ room₀ held₀ tally₀ f room tally (Some i) e bare kept made so =
    let k = made refl in
    record {
      shut = e;
      closed = λ z. let y : ◌≡◌ {A = ℕ} 0 1 = cc in absurd (omega arith);
      fitted = λ _. record {
        pairs = f;
        laid = subst (λ x. Laid w (reps x) f) bare.buckets (laid w f i.grove.table i.grove.pool so.trie);
        view = λ j. view_of w (k.0 j) (k.1 j) f (λ c. visits w c (bare.buckets j) (bare.trees j)) (bare.buckets j);
      };
    }

-- ---- a new index that is not shut has no entry, nothing paid ahead and few frames
fresh : (w : ℕ) (m : Module) (v : View) → w ≤ 60 → Opened w m v → v.shut ≡ false → Fresh v
fresh w m v small o e =
    let x = o.fitted e in
    let is = x.view in
    record {
      entries = ap (λ (u : View). u.entries) is;
      credit = ap (λ (u : View). u.credit) is ∙ omega arith;
      tally = let t : v.tally ≡ 2 * (w + 1) = ap (λ (u : View). u.tally) is in omega arith;
    }

pub new_is : (a b c : Module) (v : BookView) → NewBook a b c v → shut v ≡ false → New v
new_is a b c v o e =
    let n = or_parts v.names.shut (v.leases.shut || v.events.shut) e in
    let l = or_parts v.leases.shut v.events.shut n.1 in
    record { names = fresh 56 a v.names (omega arith) o.names n.0; leases = fresh 32 b v.leases (omega arith) o.leases l.0; events = fresh 48 c v.events (omega arith) o.events l.1 }

-- ---- the front of a script: the commands whose answers there is room for
piece_front : (bs : List ℕ) (n i : ℕ) → i < n → piece (take (32 * n) bs) i ≡ piece bs i
piece_front bs n i h =
    let m = 32 * n - 32 * i in
    let on : 32 * n ≡ 32 * i + m = omega arith in
    let enough : 32 ≤ m = omega arith in
    ap (λ k. take 32 (drop (32 * i) (take k bs))) on ∙ (ap (λ xs. take 32 xs) (drop-take (32 * i) m bs) ∙ take-take 32 m (drop (32 * i) bs) enough)

pieces_front : (bs : List ℕ) (n k : ℕ) → k ≤ n → pieces (take (32 * n) bs) k ≡ pieces bs k
unfolding pieces
pieces_front bs n zero h = refl
pieces_front bs n (suc k) h =
    ap (λ ps. ps ++ (piece (take (32 * n) bs) k ∷ [])) (pieces_front bs n k (omega arith)) ∙ ap (λ p. pieces bs k ++ (p ∷ [])) (piece_front bs n k (omega arith))

parts_front : (long n : ℕ) → n ≤ parts long → parts (min (32 * n) long) ≡ n
parts_front long n h = omega arith

pub ran_front : (v v' : BookView) (script before out : List ℕ) (count end n : ℕ) → count ≡ answered script before → end ≡ min (32 * count) (length script) →
    n ≡ parts (length (take (end - 0) script)) → Ran v (take (end - 0) script) before n out v' → Ran v script before (answered script before) out v'
ran_front v v' script before out count end n e f g r =
    let k = answered script before in
    let at : end - 0 ≡ min (32 * k) (length script) = omega arith in
    let front : take (end - 0) script ≡ take (32 * k) script = ap (λ m. take m script) at ∙ take_min (32 * k) script in
    let within : k ≤ parts (length script) = omega arith in
    let long : n ≡ k = g ∙ (ap (λ xs. parts (length xs)) front ∙ (ap parts (length-take (32 * k) script) ∙ parts_front (length script) k within)) in
    let r' : Ran v (take (32 * k) script) before k out v' = subst (λ m. Ran v (take (32 * k) script) before m out v') long (subst (λ xs. Ran v xs before n out v') front r) in
    record { turns = r'.turns; asked = r'.asked ∙ pieces_front script k k (omega arith); runs = r'.runs; law = r'.law; front = r'.front; rest = r'.rest }

-- ---- the law on a new book
pub ran_new : (a b c : Module) (v v' : BookView) (script before out : List ℕ) → NewBook a b c v → Ran v script before (answered script before) out v' →
    RanNew a b c script before out v'
ran_new a b c v v' script before out o r = record { begun = v; opened = o; ran = r; law = λ s few. r.law.new (new_is a b c v o s) (omega arith) }

pub season_new : (a b c : Module) (v v' : BookView) (tape : List ℕ) (deeds : List Deed) (before after : List Outcome) (n : ℕ) → NewBook a b c v → n ≡ done deeds before →
    Seasoned v tape (take n deeds) before after v' → SeasonNew a b c tape deeds before after v'
season_new a b c v v' tape deeds before after n o e s =
    let s' : Seasoned v tape (take (done deeds before) deeds) before after v' = subst (λ k. Seasoned v tape (take k deeds) before after v') e s in
    record { begun = v; opened = o; season = s'; law = λ x few. s'.new (new_is a b c v o x) few }
