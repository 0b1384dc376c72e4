-- The bytes of records, and the records in bytes.
--
--   wires_append, wires_push   the bytes of joined lists; of one record more
--   length_wires               32 for each record
--   piece_wires                the n-th 32 bytes are those of the n-th record
--   written_more               one record more, written after those before it
--   placed                     some bytes in front of a buffer, and the rest of it
use Rattle.std.proofs.Common.{◌≡◌, ℕ, zero, suc, ◌+◌, ◌-◌, ◌*◌, ◌<◌, ◌≤◌, List, [], ◌∷◌, ◌++◌, length, get_or, take, drop, sym, refl, ap, ◌∙◌, append_assoc, append-nil, arith, length-append, take-append-drop, drop-drop}
use borrow.Rule.Slice.PartMut.{put_mid}
use lib.Seq.{take-append_seam, drop-append_seam, drop-append-add}
use Rattle.std.proofs.lemmas.Slice.{take-put_mid, drop-put_mid}
use Rattle.wire.specs.declared.record.Record.{Record}
use Rattle.wire.specs.Records.{wire}
use Rattle.book.specs.Runs.{piece}
use Rattle.saves.specs.Saves.{wires}

pub wires_append : (xs ys : List Record) → wires (xs ++ ys) ≡ wires xs ++ wires ys
unfolding wires
wires_append [] ys = refl
wires_append (x ∷ xs) ys = ap (λ (l : List ℕ). wire x ++ l) (wires_append xs ys) ∙ sym (append_assoc (wire x) (wires xs) (wires ys))

pub wires_push : (xs : List Record) (x : Record) → wires (xs ++ (x ∷ [])) ≡ wires xs ++ wire x
unfolding wires
wires_push xs x = wires_append xs (x ∷ []) ∙ ap (λ (l : List ℕ). wires xs ++ l) (append-nil (wire x))

pub length_wires : (xs : List Record) → length (wires xs) ≡ 32 * length xs
unfolding wires
length_wires [] = refl
length_wires (x ∷ xs) = length-append (wire x) (wires xs) ∙ omega (arith, length_wires xs)

pub piece_wires : (xs : List Record) (n : ℕ) (d : Record) → n < length xs → piece (wires xs) n ≡ wire (get_or xs n d)
unfolding wires
piece_wires [] n d h = absurd (omega arith)
piece_wires (x ∷ xs) zero d h = take-append_seam (wire x) (wires xs)
piece_wires (x ∷ xs) (suc n) d h =
    let e : 32 * suc n ≡ 32 + 32 * n = omega arith in
    ap (λ (k : ℕ). take 32 (drop k (wire x ++ wires xs))) e
    ∙ ap (take 32) (drop-append-add (wire x) (wires xs) (32 * n)) ∙ piece_wires xs n d (omega arith)

-- ---- writing
take_front : (A W D : List ℕ) (a : ℕ) → a ≡ length A + length W → take a (A ++ (W ++ D)) ≡ A ++ W
take_front A W D a e =
    ap (λ (k : ℕ). take k (A ++ (W ++ D))) (e ∙ sym (length-append A W)) ∙ ap (take (length (A ++ W))) (sym (append_assoc A W D)) ∙ take-append_seam (A ++ W) D

drop_front : (A W D : List ℕ) (a : ℕ) → a ≡ length A + length W → drop a (A ++ (W ++ D)) ≡ D
drop_front A W D a e =
    ap (λ (k : ℕ). drop k (A ++ (W ++ D))) (e ∙ sym (length-append A W)) ∙ ap (drop (length (A ++ W))) (sym (append_assoc A W D)) ∙ drop-append_seam (A ++ W) D

pub written_more : (A W D ys : List ℕ) (a k : ℕ) → a ≡ length A + length W → k ≡ 32 → length ys ≡ 32 → put_mid a k (A ++ (W ++ D)) ys ≡ A ++ ((W ++ ys) ++ drop 32 D)
written_more A W D ys a k e ek ey =
    let out : List ℕ = A ++ (W ++ D) in
    let long : length out ≡ length A + (length W + length D) = length-append A (W ++ D) ∙ ap (λ (n : ℕ). length A + n) (length-append W D) in
    let new : List ℕ = put_mid a k out ys in
    sym (take-append-drop (a + 32) new)
    ∙ ap (λ (l : List ℕ). l ++ drop (a + 32) new) (take-put_mid a k out ys (a + 32) (omega arith) (omega arith) ∙ ap (λ (l : List ℕ). l ++ ys) (take_front A W D a e))
    ∙ ap (λ (l : List ℕ). ((A ++ W) ++ ys) ++ l)
    (drop-put_mid a k out ys (a + 32) (omega arith) (omega arith) (omega arith) ∙ ap (λ (n : ℕ). drop n out) (omega arith) ∙ sym (drop-drop 32 a out) ∙ ap (drop 32) (drop_front A W D a e))
    ∙ ap (λ (l : List ℕ). l ++ drop 32 D) (append_assoc A W ys) ∙ append_assoc A (W ++ ys) (drop 32 D)

pub record Placed (out W before : List ℕ) (n : ℕ) : Type 0 where
  pub front : take n out ≡ W
  pub rest : (m : ℕ) → n ≤ m → drop m out ≡ drop m before

pub placed : (out W before : List ℕ) (n : ℕ) → n ≡ length W → out ≡ W ++ drop n before → Placed out W before n
placed out W before n e is =
    record {
      front = ap (take n) is ∙ ap (λ (k : ℕ). take k (W ++ drop n before)) e ∙ take-append_seam W (drop n before);
      rest = λ m h.
          let f : m ≡ length W + (m - n) = omega arith in
          let b : (m - n) + n ≡ m = omega arith in
          ap (drop m) is ∙ ap (λ (k : ℕ). drop k (W ++ drop n before)) f ∙ drop-append-add W (drop n before) (m - n) ∙ drop-drop (m - n) n before ∙ ap (λ (k : ℕ). drop k before) (omega arith);
    }
