-- The records of a load, read one after another.
use Rattle.std.proofs.Common.{◌≡◌, ℕ, ◌+◌, ◌-◌, ◌*◌, ◌/◌, ◌<◌, ◌≤◌, List, [], ◌∷◌, ◌++◌, length, take, drop, Some, None, Ok, Err, Option, sym, refl, ap, ◌∙◌, subst, arith, length-append, length-drop, drop-drop}
use lib.Seq.{take-append_seam, drop-append_seam}
use Rattle.ordered.specs.declared.calls.Answer.{Answer}
use Rattle.ordered.specs.declared.refusal.Refusal.{Refusal}
use Rattle.wire.specs.declared.record.Record.{Record}
use Rattle.wire.specs.declared.command.Command.{Command}
use Rattle.wire.specs.Commands.{fields}
use Rattle.book.specs.Books.{BookView, Standing}
use Rattle.book.specs.Runs.{Turn, piece}
use Rattle.saves.specs.Loads.{Took, Turned, Takes, start, more, TakesAll}

-- n records have been read, and the rest is to come
pub record Reading (bytes rest : List ℕ) (n : ℕ) : Type 0 where
  pub rest_is : rest ≡ drop (32 * n) bytes
  pub within : 32 * n ≤ length bytes

pub part_is : (bytes rest part rest' : List ℕ) (n : ℕ) → Reading bytes rest n → rest ≡ part ++ rest' → length part ≡ 32 → part ≡ piece bytes n
part_is bytes rest part rest' n r e l =
    sym (take-append_seam part rest') ∙ ap (λ (k : ℕ). take k (part ++ rest')) l ∙ ap (take 32) (sym e ∙ r.rest_is)

pub reading_more : (bytes rest part rest' : List ℕ) (n : ℕ) → Reading bytes rest n → rest ≡ part ++ rest' → length part ≡ 32 → Reading bytes rest' (n + 1)
reading_more bytes rest part rest' n r e l =
    let f : 32 * (n + 1) ≡ 32 * n + 32 = omega arith in
    let long : length rest ≡ 32 + length rest' = ap length e ∙ length-append part rest' ∙ ap (λ (k : ℕ). k + length rest') l in
    let left : length rest ≡ length bytes - 32 * n = ap length r.rest_is ∙ length-drop (32 * n) bytes in
    record {
      rest_is =
          sym (drop-append_seam part rest') ∙ ap (λ (k : ℕ). drop k (part ++ rest')) l ∙ ap (drop 32) (sym e ∙ r.rest_is)
          ∙ drop-drop 32 (32 * n) bytes ∙ ap (λ (k : ℕ). drop k bytes) (sym f);
      within = omega arith;
    }

pub all_read : (bytes rest : List ℕ) (n : ℕ) → Reading bytes rest n → length rest < 32 → n ≡ length bytes / 32
all_read bytes rest n r h =
    let left : length rest ≡ length bytes - 32 * n = ap length r.rest_is ∙ length-drop (32 * n) bytes in omega (arith, r.within)

pub some_left : (bytes rest part rest' : List ℕ) (n : ℕ) → Reading bytes rest n → rest ≡ part ++ rest' → length part ≡ 32 → n < length bytes / 32
some_left bytes rest part rest' n r e l = let m = reading_more bytes rest part rest' n r e l in omega (arith, m.within)

-- the first n records have been taken
pub record Taking (b : BookView) (bytes : List ℕ) (n : ℕ) (o : Option Record) (u : BookView) : Type 0 where
  pub turns : List Turn
  pub takes : Takes b bytes turns o u
  pub count : length turns ≡ n

pub taking_start : (b : BookView) (bytes : List ℕ) → Taking b bytes 0 None b
taking_start b bytes = record { turns = []; takes = start; count = refl }

pub taking_more : (b u b' : BookView) (bytes : List ℕ) (n : ℕ) (o : Option Record) (part : List ℕ) (x : Record) (c : Command) (r : Answer) → part ≡ piece bytes n → Taking b bytes n o u →
    Took u o part c r b' → x ≡ fields c → Taking b bytes (n + 1) (Some x) b'
taking_more b u b' bytes n o part x c r e t took is =
    let T : List ℕ → Type 0 = λ p. Took u o p c r b' in
    let turn : Turn = record { bytes = piece bytes (length t.turns); answer = r } in
    let here : part ≡ piece bytes (length t.turns) = e ∙ ap (piece bytes) (sym t.count) in
    let O : Record → Type 0 = λ y. Takes b bytes (t.turns ++ (turn ∷ [])) (Some y) b' in
    record {
      turns = t.turns ++ (turn ∷ []);
      takes = subst O (sym is) (more t.takes (subst T here took));
      count = length-append t.turns (turn ∷ []) ∙ ap (λ (k : ℕ). k + 1) t.count;
    }

pub taken_whole : (b u : BookView) (bytes : List ℕ) (n : ℕ) (o : Option Record) → Taking b bytes n o u → Standing u → n ≡ length bytes / 32 →
    TakesAll b bytes (Ok (length bytes / 32)) u
taken_whole b u bytes n o t s e =
    record { turns = t.turns; last = o; met = u; takes = t.takes; stands = s; taken = sym (t.count ∙ e); tried = t.turns; ends = (t.count ∙ e, refl, refl) }

pub taken_part : (b u b' : BookView) (bytes part : List ℕ) (n : ℕ) (o : Option Record) (e : Refusal) (r : Answer) → Taking b bytes n o u → Standing u → n < length bytes / 32 → part ≡ piece bytes n →
    Turned u o part e r b' → TakesAll b bytes (Err (record { refusal = e; number = n })) b'
taken_part b u b' bytes part n o e r t s few is no_more =
    let T : List ℕ → Type 0 = λ p. Turned u o p e r b' in
    record {
      turns = t.turns;
      last = o;
      met = u;
      takes = t.takes;
      stands = s;
      taken = sym t.count;
      tried = t.turns ++ (record { bytes = piece bytes (length t.turns); answer = r } ∷ []);
      ends = (omega (arith, t.count), sym t.count, (r, subst T (is ∙ ap (piece bytes) (sym t.count)) no_more, refl));
    }
