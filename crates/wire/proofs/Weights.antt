-- Numbers in their bytes, and records in theirs: each is found again from the other.
--
--   eight_list    a list of eight, written out
--   zeros_after   eight bytes of which all but the first are zero
--   head_zeros, zeros_head   a code and seven zero bytes, from the number and back
--   eight_is      the first eight bytes of more are those of the number read in them
--   after         a list in its first eight bytes and the rest
--   chunked       32 bytes are those of a code and the three numbers read after it
--   joined        32 bytes of four parts
--   wire_same     records that fit their fields and have the same bytes are one
use Rattle.std.proofs.Common.{◌≡◌, ℕ, ◌-◌, ◌/◌, ◌%◌, ◌^◌, ◌<◌, ◌≤◌, List, [], ◌∷◌, ◌++◌, length, get_or, take, drop, sym, refl, ap, ◌∙◌, arith, length-take-le, length-drop, drop-cons}
use Rattle.std.proofs.lemmas.Grind.{common_steps}
use Rattle.std.proofs.lemmas.List.{take-append-drop, take_all}
use Rattle.std.proofs.lemmas.Nat.{be_bytes_8, from_be_bytes-to_be_bytes_8}
use Rattle.std.specs.Int.{w64, from_be_bytes}
use Rattle.wire.specs.declared.record.Record.{Record}
use Rattle.wire.specs.Eights.{eight}
use Rattle.wire.specs.Records.{headed, wire, Within}

-- ---- eight bytes
pub eight_list : (bs : List ℕ) → length bs ≡ 8 →
    bs ≡ (get_or bs 0 0 ∷ get_or bs 1 0 ∷ get_or bs 2 0 ∷ get_or bs 3 0 ∷ get_or bs 4 0 ∷ get_or bs 5 0 ∷ get_or bs 6 0 ∷ get_or bs 7 0 ∷ [])
eight_list [] e = absurd (omega arith)
eight_list (a ∷ []) e = absurd (omega arith)
eight_list (a ∷ b ∷ []) e = absurd (omega arith)
eight_list (a ∷ b ∷ c ∷ []) e = absurd (omega arith)
eight_list (a ∷ b ∷ c ∷ d ∷ []) e = absurd (omega arith)
eight_list (a ∷ b ∷ c ∷ d ∷ f ∷ []) e = absurd (omega arith)
eight_list (a ∷ b ∷ c ∷ d ∷ f ∷ g ∷ []) e = absurd (omega arith)
eight_list (a ∷ b ∷ c ∷ d ∷ f ∷ g ∷ h ∷ []) e = absurd (omega arith)
eight_list (a ∷ b ∷ c ∷ d ∷ f ∷ g ∷ h ∷ i ∷ []) e = refl
eight_list (a ∷ b ∷ c ∷ d ∷ f ∷ g ∷ h ∷ i ∷ j ∷ js) e = absurd (omega arith)

pub zeros_after : (xs : List ℕ) → length xs ≡ 8 → get_or xs 1 0 ≡ 0 → get_or xs 2 0 ≡ 0 → get_or xs 3 0 ≡ 0 → get_or xs 4 0 ≡ 0 → get_or xs 5 0 ≡ 0 → get_or xs 6 0 ≡ 0 → get_or xs 7 0 ≡ 0 →
    xs ≡ headed (get_or xs 0 0)
zeros_after xs long a b c d e f g = grind (arith, common_steps, drop-cons {A = ℕ})

pub head_zeros : (n : ℕ) → n % 72057594037927936 ≡ 0 → eight n ≡ headed (get_or (eight n) 0 0)
head_zeros n z =
    let e1 : n / 281474976710656 % 256 ≡ 0 = omega arith in
    let e2 : n / 1099511627776 % 256 ≡ 0 = omega arith in
    let e3 : n / 4294967296 % 256 ≡ 0 = omega arith in
    let e4 : n / 16777216 % 256 ≡ 0 = omega arith in
    let e5 : n / 65536 % 256 ≡ 0 = omega arith in
    let e6 : n / 256 % 256 ≡ 0 = omega arith in
    let e7 : n % 256 ≡ 0 = omega arith in
    rw (e1, e2, e3, e4, e5, e6, e7)

pub zeros_head : (n c : ℕ) → n < 2 ^ 64 → eight n ≡ headed c → n % 72057594037927936 ≡ 0
zeros_head n c h e =
    let is : n ≡ from_be_bytes w64 (headed c) = sym (from_be_bytes-to_be_bytes_8 n h) ∙ ap (λ (l : List ℕ). from_be_bytes w64 l) e in
    omega arith

small_take : (xs : List ℕ) (n i : ℕ) → ((k : ℕ) → get_or xs k 0 < 256) → get_or (take n xs) i 0 < 256
small_take xs n i small = grind (arith, common_steps, small)

small_drop : (xs : List ℕ) (n i : ℕ) → ((k : ℕ) → get_or xs k 0 < 256) → get_or (drop n xs) i 0 < 256
small_drop xs n i small = grind (arith, common_steps, small)

eight_is : (xs : List ℕ) (n : ℕ) → 8 ≤ length xs → ((i : ℕ) → get_or xs i 0 < 256) → n ≡ from_be_bytes w64 (take 8 xs) → take 8 xs ≡ eight n
eight_is xs n long small e = sym (be_bytes_8 (take 8 xs) n (length-take-le 8 xs long) (λ i. small_take xs 8 i small) e)

after : (xs h : List ℕ) → take 8 xs ≡ h → xs ≡ h ++ drop 8 xs
after xs h e = sym (take-append-drop 8 xs) ∙ ap (λ (t : List ℕ). t ++ drop 8 xs) e

-- ---- 32 bytes in four chunks
pub chunked : (bs : List ℕ) (c a b d : ℕ) → length bs ≡ 32 → ((i : ℕ) → get_or bs i 0 < 256) → take 8 bs ≡ headed c →
    a ≡ from_be_bytes w64 (take 8 (drop 8 bs)) → b ≡ from_be_bytes w64 (take 8 (drop 8 (drop 8 bs))) → d ≡ from_be_bytes w64 (take 8 (drop 8 (drop 8 (drop 8 bs)))) →
    bs ≡ headed c ++ (eight a ++ (eight b ++ eight d))
chunked bs c a b d long small head ea eb ed =
    let r1 = drop 8 bs in
    let r2 = drop 8 r1 in
    let r3 = drop 8 r2 in
    let l1 : length r1 ≡ 24 = length-drop 8 bs ∙ ap (λ (n : ℕ). n - 8) long in
    let l2 : length r2 ≡ 16 = length-drop 8 r1 ∙ ap (λ (n : ℕ). n - 8) l1 in
    let l3 : length r3 ≡ 8 = length-drop 8 r2 ∙ ap (λ (n : ℕ). n - 8) l2 in
    let s1 : (i : ℕ) → get_or r1 i 0 < 256 = λ i. small_drop bs 8 i small in
    let s2 : (i : ℕ) → get_or r2 i 0 < 256 = λ i. small_drop r1 8 i s1 in
    let s3 : (i : ℕ) → get_or r3 i 0 < 256 = λ i. small_drop r2 8 i s2 in
    let p3 : r3 ≡ eight d = sym (take_all 8 r3 (omega arith)) ∙ eight_is r3 d (omega arith) s3 ed in
    let p2 : r2 ≡ eight b ++ eight d = after r2 (eight b) (eight_is r2 b (omega arith) s2 eb) ∙ ap (λ (t : List ℕ). eight b ++ t) p3 in
    let p1 : r1 ≡ eight a ++ (eight b ++ eight d) = after r1 (eight a) (eight_is r1 a (omega arith) s1 ea) ∙ ap (λ (t : List ℕ). eight a ++ t) p2 in
    after bs (headed c) head ∙ ap (λ (t : List ℕ). headed c ++ t) p1

pub joined : (bs h r f t s n : List ℕ) (c a b d : ℕ) → bs ≡ h ++ r → r ≡ f ++ t → t ≡ s ++ n → h ≡ headed c → f ≡ eight a → s ≡ eight b → n ≡ eight d →
    bs ≡ headed c ++ (eight a ++ (eight b ++ eight d))
joined bs h r f t s n c a b d p q u eh ef es en = rw (p, q, u, eh, ef, es, en)

-- ---- records
pub wire_same : (x y : Record) → Within x → Within y → wire x ≡ wire y → x ≡ y
wire_same x y a b e =
    let of : (i : ℕ) → from_be_bytes w64 (take 8 (drop i (wire x))) ≡ from_be_bytes w64 (take 8 (drop i (wire y))) = λ i. ap (λ (l : List ℕ). from_be_bytes w64 (take 8 (drop i l))) e in
    let ec : x.code ≡ y.code = ap (λ (l : List ℕ). get_or l 0 0) e in
    let ef : x.first ≡ y.first = sym (from_be_bytes-to_be_bytes_8 x.first a.first) ∙ of 8 ∙ from_be_bytes-to_be_bytes_8 y.first b.first in
    let es : x.second ≡ y.second = sym (from_be_bytes-to_be_bytes_8 x.second a.second) ∙ of 16 ∙ from_be_bytes-to_be_bytes_8 y.second b.second in
    let en : x.note ≡ y.note = sym (from_be_bytes-to_be_bytes_8 x.note a.note) ∙ of 24 ∙ from_be_bytes-to_be_bytes_8 y.note b.note in
    rw (← ec, ← ef, ← es, ← en)
