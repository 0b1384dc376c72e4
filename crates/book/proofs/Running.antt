-- A script, command by command.
use Rattle.std.proofs.Common.{◌≡◌, ℕ, suc, ◌+◌, ◌-◌, ◌*◌, ◌<◌, ◌≤◌, min, List, [], ◌∷◌, ◌++◌, map, length, take, drop, sym, refl, ap, ◌∙◌, ⊎_elim, append_assoc, append-nil, add-one, arith, length-append, length-drop, take_all, drop-drop}
use lib.Seq.{take-append_seam, drop-append_seam}
use Rattle.std.proofs.lemmas.List.{drop_all}
use borrow.Rule.Slice.PartMut.{put_mid}
use Rattle.std.proofs.lemmas.List.{map-append}
use Rattle.std.proofs.lemmas.Slice.{take-put_mid, drop-put_mid}
use Rattle.std.proofs.lemmas.Bool.{cases_lt}
use Rattle.wire.specs.Reading.{code_of}
use Rattle.wire.specs.Replies.{reply}
use Rattle.leases.specs.Commands.{change}
use Rattle.book.specs.Books.{BookView}
use Rattle.book.specs.Serving.{Answered}
use Rattle.book.specs.Runs.{Turn, Runs, start, more, frames, changes, piece, pieces, written, Ran}
use Rattle.book.proofs.Summing.{Adds, adds_none, adds_then, adds_frames, served_adds}

-- ---- sums over one turn more
pub frames_push : (ts : List Turn) (t : Turn) → frames (ts ++ (t ∷ [])) ≡ frames ts + t.answer.frames
frames_push [] t = omega arith
frames_push (x ∷ ts) t = omega (arith, frames_push ts t)

pub changes_push : (ts : List Turn) (t : Turn) → changes (ts ++ (t ∷ [])) ≡ changes ts + change (code_of t.bytes) t.answer.outcome
changes_push [] t = omega arith
changes_push (x ∷ ts) t = omega (arith, changes_push ts t)

written_push : (ts : List Turn) (t : Turn) → written (ts ++ (t ∷ [])) ≡ written ts ++ reply (code_of t.bytes) t.answer
unfolding written
written_push [] t = append-nil (reply (code_of t.bytes) t.answer)
written_push (x ∷ ts) t =
    ap (λ (l : List ℕ). reply (code_of x.bytes) x.answer ++ l) (written_push ts t)
    ∙ sym (append_assoc (reply (code_of x.bytes) x.answer) (written ts) (reply (code_of t.bytes) t.answer))

-- every run adds up
pub runs_adds : {b b' : BookView} {ts : List Turn} → Runs b ts b' → Adds b (frames ts) (length ts) (changes ts) b'
runs_adds {b} start = adds_none b
runs_adds {b} (more {ts} {u} {b'} {t} rs s) =
    let a = adds_then (runs_adds rs) (served_adds s) in
    rw (frames_push ts t, changes_push ts t, length-append ts (t ∷ [])) a

-- ---- the first n commands have run
pub record Running (b : BookView) (script before : List ℕ) (n : ℕ) (out : List ℕ) (b' : BookView) : Type 0 where
  pub turns : List Turn
  pub asked : map (λ (t : Turn). t.bytes) turns ≡ pieces script n
  pub runs : Runs b turns b'
  pub front : take (32 * n) out ≡ written turns
  pub rest : drop (32 * n) out ≡ drop (32 * n) before

pub running_start : (b : BookView) (script out : List ℕ) → Running b script out 0 out b
unfolding pieces written
running_start b script out = record { turns = []; asked = refl; runs = start; front = refl; rest = refl }

pub running_more : (b u b' : BookView) (script before out part ys : List ℕ) (n k : ℕ) → Running b script before n out u → 32 * n + 32 ≤ length out → part ≡ piece script n → k ≡ 32 →
    Answered u part ys b' → Running b script before (n + 1) (put_mid (32 * n) k out ys) b'
unfolding pieces
running_more b u b' script before out part ys n k ran room is ek a =
    let t : Turn = record { bytes = part; answer = a.answer } in
    let long : length ys ≡ 32 = ap length a.bytes in
    let on : (l : List ℕ) → drop (32 * suc n) l ≡ drop 32 (drop (32 * n) l) = λ l. ap (λ k. drop k l) (omega arith) ∙ sym (drop-drop 32 (32 * n) l) in
    rw add-one
    (record {
      turns = ran.turns ++ (t ∷ []);
      asked = map-append (λ (t : Turn). t.bytes) ran.turns (t ∷ []) ∙ ap (λ (l : List (List ℕ)). l ++ (part ∷ [])) ran.asked ∙ ap (λ (p : List ℕ). pieces script n ++ (p ∷ [])) is;
      runs = more ran.runs a.served;
      front =
          take-put_mid (32 * n) k out ys (32 * suc n) (omega arith) (omega arith)
          ∙ ap (λ (l : List ℕ). l ++ ys) ran.front ∙ ap (λ (l : List ℕ). written ran.turns ++ l) a.bytes ∙ sym (written_push ran.turns t);
      rest =
          drop-put_mid (32 * n) k out ys (32 * suc n) (omega arith) (omega arith) (omega arith)
          ∙ on out ∙ ap (drop 32) ran.rest ∙ sym (on before);
    })

pub ran : {b b' : BookView} {script before out : List ℕ} {n : ℕ} → Running b script before n out b' → Ran b script before n out b'
ran r = record { turns = r.turns; asked = r.asked; runs = r.runs; law = adds_frames (runs_adds r.runs); front = r.front; rest = r.rest }

-- up to its end or for 32 bytes, the part of a script is the same
pub part_cut : (script : List ℕ) (i : ℕ) → take (min (32 * i + 32) (length script) - 32 * i) (drop (32 * i) script) ≡ piece script i
part_cut script i =
    let long = length-drop (32 * i) script in
    ⊎_elim
    (λ (h : length script < 32 * i + 32).
    take_all (min (32 * i + 32) (length script) - 32 * i) (drop (32 * i) script) (omega arith) ∙ sym (take_all 32 (drop (32 * i) script) (omega arith)))
    (λ (h : 32 * i + 32 ≤ length script).
    let e : min (32 * i + 32) (length script) - 32 * i ≡ 32 = omega arith in ap (λ (k : ℕ). take k (drop (32 * i) script)) e)
    (cases_lt (length script) (32 * i + 32))

-- ---- a script in parts of 32 bytes, the last one perhaps shorter
pub record Reading (script rest : List ℕ) (n : ℕ) : Type 0 where
  pub rest_is : rest ≡ drop (32 * n) script
  pub near : 32 * n < length script + 32

pub part_is : (script rest part rest' : List ℕ) (n : ℕ) → Reading script rest n → rest ≡ part ++ rest' → length part ≡ min 32 (length rest) → part ≡ piece script n
part_is script rest part rest' n r e l =
    let whole : take (length part) rest ≡ part = ap (take (length part)) e ∙ take-append_seam part rest' in
    let cut : take (length part) rest ≡ take 32 rest = ⊎_elim
    (λ (h : length rest < 32). take_all (length part) rest (omega arith) ∙ sym (take_all 32 rest (omega arith)))
    (λ (h : 32 ≤ length rest). let m : length part ≡ 32 = omega arith in ap (λ (k : ℕ). take k rest) m)
    (cases_lt (length rest) 32) in
    sym whole ∙ cut ∙ ap (take 32) r.rest_is

pub reading_more : (script rest part rest' : List ℕ) (n : ℕ) → Reading script rest n → rest ≡ part ++ rest' → length part ≡ min 32 (length rest) → 0 < length rest → Reading script rest' (n + 1)
reading_more script rest part rest' n r e l some =
    let next : drop 32 (drop (32 * n) script) ≡ drop (32 * (n + 1)) script = drop-drop 32 (32 * n) script ∙ ap (λ (k : ℕ). drop k script) (omega arith) in
    let after : drop (length part) rest ≡ rest' = ap (drop (length part)) e ∙ drop-append_seam part rest' in
    let cut : drop (length part) rest ≡ drop 32 rest = ⊎_elim
    (λ (h : length rest < 32). drop_all (length part) rest (omega arith) ∙ sym (drop_all 32 rest (omega arith)))
    (λ (h : 32 ≤ length rest). let m : length part ≡ 32 = omega arith in ap (λ (k : ℕ). drop k rest) m)
    (cases_lt (length rest) 32) in
    record { rest_is = sym after ∙ cut ∙ ap (drop 32) r.rest_is ∙ next; near = omega (arith, ap length r.rest_is, length-drop (32 * n) script) }
