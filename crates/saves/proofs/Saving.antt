-- A save, part by part.
use Rattle.std.proofs.Common.{◌≡◌, ℕ, ◌+◌, ◌-◌, ◌*◌, ◌^◌, ◌<◌, ◌≤◌, false, ◌||◌, List, [], ◌∷◌, ◌++◌, length, get_or, take, drop, sym, ap, ◌∙◌, append_assoc, arith, length-append, take-append-drop, length-take, take_all, drop-drop}
use borrow.Rule.Slice.PartMut.{put_mid}
use lib.Seq.{take-append_seam}
use Rattle.std.specs.List.{AllByRecursion}
use Rattle.std.proofs.ByRecursion.{All-weaker}
use Rattle.std.proofs.lemmas.List.{take_more, map-append, length-map}
use Rattle.std.proofs.lemmas.Bool.{or_parts}
use Rattle.entry.specs.declared.Entry.{Entry}
use Rattle.entry.specs.Lists.{blank}
use Rattle.wire.specs.Records.{wire}
use Rattle.book.specs.declared.part.Part.{Part}
use Rattle.book.specs.declared.part.Part.TheVariants.{Names, Leases, Events}
use Rattle.book.specs.Books.{BookView, look, shut, Standing}
use Rattle.saves.specs.Saves.{form, forms, records, wires, saved}
use Rattle.saves.proofs.Wires.{wires_append, wires_push, length_wires, written_more, placed}

pub length_forms : (p : Part) (xs : List Entry) → length (wires (forms p xs)) ≡ 32 * length xs
length_forms p xs = length_wires (forms p xs) ∙ ap (λ (n : ℕ). 32 * n) (length-map xs (form p))

-- ---- one part
abbrev pub Writing : Part → List Entry → ℕ → List ℕ → ℕ → List ℕ → Type 0
Writing p xs at before i out = out ≡ take at before ++ (wires (forms p (take i xs)) ++ drop (at + 32 * i) before)

pub writing_start : (p : Part) (xs : List Entry) (at : ℕ) (before : List ℕ) → Writing p xs at before 0 before
unfolding wires
writing_start p xs at before = sym (take-append-drop at before) ∙ ap (λ (n : ℕ). take at before ++ drop n before) (omega arith)

pub writing_end : (p : Part) (xs : List Entry) (at : ℕ) (before : List ℕ) (i : ℕ) (out : List ℕ) → i ≡ length xs → Writing p xs at before i out →
    out ≡ take at before ++ (wires (forms p xs) ++ drop (at + 32 * length xs) before)
writing_end p xs at before i out e is =
    is ∙ ap (λ (l : List Entry). take at before ++ (wires (forms p l) ++ drop (at + 32 * i) before)) (take_all i xs (omega arith))
    ∙ ap (λ (n : ℕ). take at before ++ (wires (forms p xs) ++ drop (at + 32 * n) before)) e

pub writing_more : (p : Part) (xs : List Entry) (at : ℕ) (before : List ℕ) (i : ℕ) (out ys : List ℕ) (k : ℕ) → i < length xs → at ≤ length before → k ≡ 32 → ys ≡ wire (form p (get_or xs i blank)) →
    Writing p xs at before i out → Writing p xs at before (i + 1) (put_mid (at + 32 * i) k out ys)
writing_more p xs at before i out ys k h room ek ey is =
    let W = wires (forms p (take i xs)) in
    let D = drop (at + 32 * i) before in
    let la : length (take at before) ≡ at = length-take at before ∙ omega arith in
    let lw : length W ≡ 32 * i = length_forms p (take i xs) ∙ ap (λ (n : ℕ). 32 * n) (length-take i xs ∙ omega arith) in
    let ly : length ys ≡ 32 = ap length ey in
    let more : W ++ ys ≡ wires (forms p (take (i + 1) xs)) =
    ap (λ (l : List ℕ). W ++ l) ey ∙ sym (wires_push (forms p (take i xs)) (form p (get_or xs i blank))) ∙ ap wires (sym (map-append (form p) (take i xs) (get_or xs i blank ∷ [])))
    ∙ ap (λ (l : List Entry). wires (forms p l)) (sym (take_more xs i blank h)) in
    let rest : drop 32 D ≡ drop (at + 32 * (i + 1)) before = drop-drop 32 (at + 32 * i) before ∙ ap (λ (n : ℕ). drop n before) (omega arith) in
    ap (λ (l : List ℕ). put_mid (at + 32 * i) k l ys) is
    ∙ written_more (take at before) W D ys (at + 32 * i) k (omega arith) ek ly
    ∙ ap (λ (l : List ℕ). take at before ++ (l ++ drop 32 D)) more ∙ ap (λ (l : List ℕ). take at before ++ (wires (forms p (take (i + 1) xs)) ++ l)) rest

-- n places that hold the entries and more
pub front_is : (xs more places : List Entry) (n : ℕ) → n ≡ length xs → places ≡ xs ++ more → take (n - 0) places ≡ xs
front_is xs more places n e p =
    let z : n - 0 ≡ length xs = omega arith in
    ap (λ (k : ℕ). take k places) z ∙ ap (take (length xs)) p ∙ take-append_seam xs more

-- ---- what always holds of the entries of a book that is not shut
pub part_keys : (p : Part) (b : BookView) → Standing b → AllByRecursion (λ (e : Entry). e.key < 2 ^ 60) (look p b).entries
part_keys Names b s = All-weaker (λ (e : Entry). e.key < 2 ^ 56) (λ (e : Entry). e.key < 2 ^ 60) (λ e h. omega arith) b.names.entries s.names.keys
part_keys Leases b s = All-weaker (λ (e : Entry). e.key < 2 ^ 32) (λ (e : Entry). e.key < 2 ^ 60) (λ e h. omega arith) b.leases.entries s.leases.keys
part_keys Events b s = All-weaker (λ (e : Entry). e.key < 2 ^ 48) (λ (e : Entry). e.key < 2 ^ 60) (λ e h. omega arith) b.events.entries s.events.keys

pub part_limit : (p : Part) (b : BookView) → Standing b → shut b ≡ false → ((look p b).limit ≡ 256) × ((look p b).shut ≡ false)
part_limit Names b s o = let h = (or_parts b.names.shut (b.leases.shut || b.events.shut) o).0 in (s.bounded.names h, h)
part_limit Leases b s o =
    let h = (or_parts b.leases.shut b.events.shut (or_parts b.names.shut (b.leases.shut || b.events.shut) o).1).0 in (s.bounded.leases h, h)
part_limit Events b s o =
    let h = (or_parts b.leases.shut b.events.shut (or_parts b.names.shut (b.leases.shut || b.events.shut) o).1).1 in (s.bounded.events h, h)

pub part_few : (p : Part) (b : BookView) → Standing b → shut b ≡ false → length (look p b).entries ≤ 256
part_few Names b s o = omega (arith, (part_limit Names b s o).0, s.names.within)
part_few Leases b s o = omega (arith, (part_limit Leases b s o).0, s.leases.within)
part_few Events b s o = omega (arith, (part_limit Events b s o).0, s.events.within)

-- ---- the whole save
pub length_saved : (b : BookView) → length (saved b) ≡ 32 * (length b.names.entries + length b.leases.entries + length b.events.entries)
length_saved b =
    let n = forms Names b.names.entries in
    let l = forms Leases b.leases.entries in
    let e = forms Events b.events.entries in
    let ln = length-map b.names.entries (form Names) in
    let ll = length-map b.leases.entries (form Leases) in
    let le = length-map b.events.entries (form Events) in
    length_wires (records b) ∙ omega (arith, length-append n (l ++ e), length-append l e)

pub whole : (b : BookView) (before o1 o2 o3 : List ℕ) (n1 n2 n3 : ℕ) →
    n1 ≡ 32 * length b.names.entries → n2 ≡ n1 + 32 * length b.leases.entries → n3 ≡ n2 + 32 * length b.events.entries →
    o1 ≡ wires (forms Names b.names.entries) ++ drop n1 before → o2 ≡ take n1 o1 ++ (wires (forms Leases b.leases.entries) ++ drop n2 o1) →
    o3 ≡ take n2 o2 ++ (wires (forms Events b.events.entries) ++ drop n3 o2) → o3 ≡ saved b ++ drop n3 before
whole b before o1 o2 o3 n1 n2 n3 e1 e2 e3 p1 p2 p3 =
    let n = forms Names b.names.entries in
    let l = forms Leases b.leases.entries in
    let e = forms Events b.events.entries in
    let l1 : n1 ≡ length (wires n) = e1 ∙ sym (length_forms Names b.names.entries) in
    let first = placed o1 (wires n) before n1 l1 p1 in
    let two : o2 ≡ wires (n ++ l) ++ drop n2 before =
    p2 ∙ ap (λ (x : List ℕ). x ++ (wires l ++ drop n2 o1)) first.front ∙ ap (λ (x : List ℕ). wires n ++ (wires l ++ x)) (first.rest n2 (omega arith))
    ∙ sym (append_assoc (wires n) (wires l) (drop n2 before)) ∙ ap (λ (x : List ℕ). x ++ drop n2 before) (sym (wires_append n l)) in
    let l2 : n2 ≡ length (wires (n ++ l)) = omega (arith, ap length (wires_append n l) ∙ length-append (wires n) (wires l), length_forms Leases b.leases.entries) in
    let second = placed o2 (wires (n ++ l)) before n2 l2 two in
    p3 ∙ ap (λ (x : List ℕ). x ++ (wires e ++ drop n3 o2)) second.front ∙ ap (λ (x : List ℕ). wires (n ++ l) ++ (wires e ++ x)) (second.rest n3 (omega arith))
    ∙ sym (append_assoc (wires (n ++ l)) (wires e) (drop n3 before)) ∙ ap (λ (x : List ℕ). x ++ drop n3 before) (sym (wires_append (n ++ l) e) ∙ ap wires (append_assoc n l e))

-- what one part wrote, from what its entries wrote
pub part_written : (p : Part) (xs part : List Entry) (at n : ℕ) (before out : List ℕ) → part ≡ xs → n ≡ length xs →
    out ≡ take at before ++ (wires (forms p part) ++ drop (at + 32 * length part) before) → out ≡ take at before ++ (wires (forms p xs) ++ drop (at + 32 * n) before)
part_written p xs part at n before out e en is =
    is ∙ ap (λ (l : List Entry). take at before ++ (wires (forms p l) ++ drop (at + 32 * length l) before)) e
    ∙ ap (λ (k : ℕ). take at before ++ (wires (forms p xs) ++ drop (at + 32 * k) before)) (sym en)
