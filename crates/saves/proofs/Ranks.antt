-- The order of records, as one number: the code, then the first key.
--
--   code_for            the code of a part's records
--   rank, rank_of       the number of a record; of the record before, 0 where there is none
--   turn_rank           a record in turn ranks above the one before it
--   rank_turn           a record that ranks above the one before it is in turn, if its code is one that a load takes
--   Before, Climbing    a record before another in a save; records each before the later ones
--   earlier             the records before a place of climbing records
--   kept_forms          the records of a part, among those of a book
--   entry_for, entries_again   an entry from its record; a part's entries from the book's records
use Rattle.std.proofs.Common.{◌≡◌, ℕ, zero, suc, ◌+◌, ◌-◌, ◌*◌, ◌/◌, ◌%◌, ◌^◌, ◌<◌, ◌≤◌, Bool, true, eqb, ◌⊎◌, List, [], ◌∷◌, ◌++◌, map, length, get_or, take, Some, None, filter, Option, sym, refl, ap, ◌∙◌, inl, inr, ⊎_elim, append-nil, arith}
use Rattle.std.specs.List.{AllByRecursion}
use Rattle.std.proofs.lemmas.List.Elements.{filter-append}
use Rattle.std.proofs.ByRecursion.{All-append, All-map, All-weaker, All-get_or}
use Rattle.std.proofs.lemmas.Bool.{cases_Bool}
use Rattle.std.proofs.lemmas.Bool.Decides.{nat_tests}
use Rattle.entry.specs.declared.Entry.{Entry}
use Rattle.entry.specs.Lists.{Rising}
use Rattle.wire.specs.declared.record.Record.{Record}
use Rattle.leases.specs.Stretches.{end, Spaced}
use Rattle.book.specs.declared.part.Part.{Part}
use Rattle.book.specs.declared.part.Part.TheVariants.{Names, Leases, Events}
use Rattle.book.specs.Books.{BookView, look}
use Rattle.saves.specs.Saves.{form, forms, records}
use Rattle.saves.specs.Loads.{loadable, above, in_turn}

abbrev pub code_for : Part → ℕ
code_for Names = 1
code_for Leases = 5
code_for Events = 8

abbrev pub rank : Record → ℕ
rank x = x.code * 2 ^ 64 + x.first

abbrev pub rank_of : Option Record → ℕ
rank_of None = 0
rank_of (Some x) = rank x

-- its first key has 64 bits
abbrev pub Short : Option Record → Type 0
Short None = Unit {0}
Short (Some x) = x.first < 2 ^ 64

pub form_rank : (p : Part) (e : Entry) → rank (form p e) ≡ code_for p * 2 ^ 64 + e.key
form_rank Names e = refl
form_rank Leases e = refl
form_rank Events e = refl

pub turn_rank : (o : Option Record) (x : Record) → Short o → x.first < 2 ^ 64 → in_turn o x ≡ true → rank_of o < rank x
turn_rank None x s h t = let c : 1 ≤ x.code = grind (arith, nat_tests, t) in omega arith
turn_rank (Some y) x s h t =
    let c : (y.code < x.code) ⊎ ((y.code ≡ x.code) × (y.first < x.first)) = grind (arith, nat_tests, t) in
    ⊎_elim (λ (l : y.code < x.code). omega arith) (λ (l : (y.code ≡ x.code) × (y.first < x.first)). omega (arith, l.0, l.1)) c

pub rank_turn : (o : Option Record) (x : Record) → Short o → x.first < 2 ^ 64 → loadable x.code ≡ true → rank_of o < rank x → in_turn o x ≡ true
rank_turn None x s h l r = rw l refl
rank_turn (Some y) x s h l r =
    let a : above (Some y) x ≡ true = grind (arith, nat_tests) in
    rw (l, a) refl

-- ---- records that climb
pub record Before (y x : Record) : Type 0 where
  pub rises : rank y < rank x
  pub apart : y.code ≡ 5 → x.code ≡ 5 → y.second < x.first

abbrev pub Climbing : List Record → Type 0
Climbing [] = Unit {0}
Climbing (x ∷ xs) = AllByRecursion (Before x) xs × Climbing xs

climbing_append : (xs ys : List Record) → Climbing xs → Climbing ys → AllByRecursion (λ x. AllByRecursion (Before x) ys) xs → Climbing (xs ++ ys)
climbing_append [] ys cx cy a = cy
climbing_append (x ∷ xs) ys cx cy a = (All-append (Before x) xs ys cx.0 a.0, climbing_append xs ys cx.1 cy a.1)

pub earlier : (xs : List Record) (n : ℕ) (d : Record) → Climbing xs → n < length xs → AllByRecursion (λ y. Before y (get_or xs n d)) (take n xs)
earlier [] n d c h = absurd (omega arith)
earlier (x ∷ xs) zero d c h = tt
earlier (x ∷ xs) (suc n) d c h = (All-get_or (Before x) xs n d (omega arith) c.0, earlier xs n d c.1 (omega arith))

-- records of one part, by their keys
rising_names : (xs : List Entry) → Rising xs → Climbing (forms Names xs)
rising_names [] r = tt
rising_names (x ∷ xs) r = (
  All-map (Before (form Names x)) (form Names) xs (All-weaker (λ (y : Entry). x.key < y.key) (λ (y : Entry). Before (form Names x) (form Names y)) (λ y h. record { rises = omega arith; apart = λ (e : ◌≡◌ {A = ℕ} 1 5) _. absurd (omega arith) }) xs r.0),
  rising_names xs r.1,
)

rising_events : (xs : List Entry) → Rising xs → Climbing (forms Events xs)
rising_events [] r = tt
rising_events (x ∷ xs) r = (
  All-map (Before (form Events x)) (form Events) xs (All-weaker (λ (y : Entry). x.key < y.key) (λ (y : Entry). Before (form Events x) (form Events y)) (λ y h. record { rises = omega arith; apart = λ (e : ◌≡◌ {A = ℕ} 8 5) _. absurd (omega arith) }) xs r.0),
  rising_events xs r.1,
)

spaced_leases : (xs : List Entry) → Spaced xs → Climbing (forms Leases xs)
spaced_leases [] s = tt
spaced_leases (x ∷ xs) s = (
  All-map (Before (form Leases x)) (form Leases) xs
      (All-weaker (λ (y : Entry). end x < y.key) (λ (y : Entry). Before (form Leases x) (form Leases y)) (λ y h. record { rises = omega (arith, h, s.0.rises); apart = λ _ _. h }) xs s.1),
  spaced_leases xs s.2,
)

-- records of two parts
crosses : (p q : Part) (xs ys : List Entry) → code_for p < code_for q → (code_for p ≡ 5 → code_for q ≡ 5 → ⊥) → AllByRecursion (λ (e : Entry). e.key < 2 ^ 60) xs → AllByRecursion (λ x. AllByRecursion (Before x) (forms q ys)) (forms p xs)
crosses p q xs ys l never keys =
    All-map (λ x. AllByRecursion (Before x) (forms q ys)) (form p) xs
    (All-weaker (λ (e : Entry). e.key < 2 ^ 60) (λ (e : Entry). AllByRecursion (Before (form p e)) (forms q ys))
    (λ e h. All-map (Before (form p e)) (form q) ys (every (λ (y : Entry). Before (form p e) (form q y)) ys (λ y. record { rises = omega (arith, form_rank p e, form_rank q y, h); apart = λ a b. absurd (never (sym (code_is p e) ∙ a) (sym (code_is q y) ∙ b)) }))) xs keys)
  where
    every : (P : Entry → Type 0) (zs : List Entry) → ((z : Entry) → P z) → AllByRecursion P zs
    every P [] f = tt
    every P (z ∷ zs) f = (f z, every P zs f)

    code_is : (r : Part) (e : Entry) → (form r e).code ≡ code_for r
    code_is Names e = refl
    code_is Leases e = refl
    code_is Events e = refl

pub climbing : (b : BookView) → Rising b.names.entries → Spaced b.leases.entries → Rising b.events.entries → AllByRecursion (λ (e : Entry). e.key < 2 ^ 60) b.names.entries →
    AllByRecursion (λ (e : Entry). e.key < 2 ^ 60) b.leases.entries → Climbing (records b)
climbing b rn sl re kn kl =
    let n = b.names.entries in
    let l = b.leases.entries in
    let e = b.events.entries in
    climbing_append (forms Names n) (forms Leases l ++ forms Events e) (rising_names n rn)
    (climbing_append (forms Leases l) (forms Events e) (spaced_leases l sl) (rising_events e re) (crosses Leases Events l e (omega arith) (λ _ (z : ◌≡◌ {A = ℕ} 8 5). omega arith) kl))
    (both_ways (forms Names n) (forms Leases l) (forms Events e) (crosses Names Leases n l (omega arith) (λ (z : ◌≡◌ {A = ℕ} 1 5) _. omega arith) kn) (crosses Names Events n e (omega arith) (λ (z : ◌≡◌ {A = ℕ} 1 5) _. omega arith) kn))
  where
    both_ways : (xs ys zs : List Record) → AllByRecursion (λ x. AllByRecursion (Before x) ys) xs → AllByRecursion (λ x. AllByRecursion (Before x) zs) xs → AllByRecursion (λ x. AllByRecursion (Before x) (ys ++ zs)) xs
    both_ways [] ys zs a b = tt
    both_ways (x ∷ xs) ys zs a b = (All-append (Before x) ys zs a.0 b.0, both_ways xs ys zs a.1 b.1)

-- ---- the records of one part
abbrev pub of_part : Part → Record → Bool
of_part p x = eqb x.code (code_for p)

kept_own : (p : Part) (xs : List Entry) → filter (of_part p) (forms p xs) ≡ forms p xs
kept_own Names [] = refl
kept_own Names (x ∷ xs) = ap (λ (l : List Record). form Names x ∷ l) (kept_own Names xs)
kept_own Leases [] = refl
kept_own Leases (x ∷ xs) = ap (λ (l : List Record). form Leases x ∷ l) (kept_own Leases xs)
kept_own Events [] = refl
kept_own Events (x ∷ xs) = ap (λ (l : List Record). form Events x ∷ l) (kept_own Events xs)

data Other : Part → Part → Type 0 where
  nl : Other Names Leases
  ne : Other Names Events
  ln : Other Leases Names
  le : Other Leases Events
  en : Other Events Names
  el : Other Events Leases

kept_other : {p q : Part} → Other p q → (xs : List Entry) → filter (of_part p) (forms q xs) ≡ []
kept_other nl [] = refl
kept_other nl (x ∷ xs) = kept_other nl xs
kept_other ne [] = refl
kept_other ne (x ∷ xs) = kept_other ne xs
kept_other ln [] = refl
kept_other ln (x ∷ xs) = kept_other ln xs
kept_other le [] = refl
kept_other le (x ∷ xs) = kept_other le xs
kept_other en [] = refl
kept_other en (x ∷ xs) = kept_other en xs
kept_other el [] = refl
kept_other el (x ∷ xs) = kept_other el xs

kept_three : (p : Part) (xs ys zs : List Record) → filter (of_part p) (xs ++ (ys ++ zs)) ≡ filter (of_part p) xs ++ (filter (of_part p) ys ++ filter (of_part p) zs)
kept_three p xs ys zs = filter-append (of_part p) xs (ys ++ zs) ∙ ap (λ (l : List Record). filter (of_part p) xs ++ l) (filter-append (of_part p) ys zs)

pub kept_forms : (p : Part) (b : BookView) → filter (of_part p) (records b) ≡ forms p (look p b).entries
kept_forms Names b =
    kept_three Names (forms Names b.names.entries) (forms Leases b.leases.entries) (forms Events b.events.entries)
    ∙ rw (kept_own Names b.names.entries, kept_other nl b.leases.entries, kept_other ne b.events.entries) (append-nil (forms Names b.names.entries))
kept_forms Leases b =
    kept_three Leases (forms Names b.names.entries) (forms Leases b.leases.entries) (forms Events b.events.entries)
    ∙ rw (kept_own Leases b.leases.entries, kept_other ln b.names.entries, kept_other le b.events.entries) (append-nil (forms Leases b.leases.entries))
kept_forms Events b =
    kept_three Events (forms Names b.names.entries) (forms Leases b.leases.entries) (forms Events b.events.entries)
    ∙ rw (kept_own Events b.events.entries, kept_other en b.names.entries, kept_other el b.leases.entries) refl

-- ---- entries from records
abbrev pub entry_for : Part → Record → Entry
entry_for Names x = record { key = x.first; note = x.note }
entry_for Leases x = record { key = x.first; note = (x.second - x.first / 2 ^ 24 * 2 ^ 24) * 2 ^ 32 + x.note }
entry_for Events x = record { key = x.first; note = x.note }

entry_again : (p : Part) (e : Entry) → entry_for p (form p e) ≡ e
entry_again Names e = refl
entry_again Leases e =
    let n : (end e - e.key / 2 ^ 24 * 2 ^ 24) * 2 ^ 32 + e.note % 2 ^ 32 ≡ e.note = omega arith in
    ap (λ (k : ℕ). record { key = e.key; note = k }) n
entry_again Events e = refl

forms_again : (p : Part) (xs : List Entry) → map (entry_for p) (forms p xs) ≡ xs
forms_again p [] = refl
forms_again p (x ∷ xs) = rw (entry_again p x, forms_again p xs) refl

pub entries_again : (p : Part) (b : BookView) → map (entry_for p) (filter (of_part p) (records b)) ≡ (look p b).entries
entries_again p b = ap (map (entry_for p)) (kept_forms p b) ∙ forms_again p (look p b).entries

-- ---- one more of a kind behind a place
pub kept_take : (p : Record → Bool) (xs : List Record) (n : ℕ) (d : Record) → n < length xs → p (get_or xs n d) ≡ true → length (filter p (take n xs)) + 1 ≤ length (filter p xs)
kept_take p [] n d h e = absurd (omega arith)
kept_take p (x ∷ xs) zero d h e = rw e (omega arith)
kept_take p (x ∷ xs) (suc n) d h e = elim (cases_Bool (p x)) [
  | inl t ↦ rw t (omega (arith, kept_take p xs n d (omega arith) e))
  | inr t ↦ rw t (kept_take p xs n d (omega arith) e)
]
