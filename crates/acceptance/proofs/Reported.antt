-- The report on a new module, from what its stages did.
--
--   tried_so     the puts at the capacity, on a module on which the first m stand
--   Counts       what the stages of an acceptance counted, and the pairs held after each
--   counted_so   so they did, one after another on a new module
--   reported     the report on it
--   sold         it passes just where the capacity is 768
use Rattle.std.proofs.Common.{rules, ◌≡◌, ℕ, ◌+◌, ◌-◌, ◌<◌, ◌≤◌, ◌≢◌, Bool, true, false, cond, ◌||◌, min, max, Some, is_some, ltb, eqb, ◌&&◌, ◌⊎◌, inl, inr, sym, refl, ap, ◌∙◌, subst, arith}
use Rattle.std.proofs.lemmas.Bool.{cases_lt, cases_Bool}
use Rattle.std.proofs.lemmas.Bool.Decides.{nat_tests}
use Rattle.dictionary.specs.Pairs.{Links, Pairs, with_pair, no_pairs, accepts}
use Rattle.acceptance.specs.Nodes.{node_of, links_of}
use Rattle.acceptance.specs.Stages.{Filled, right, Cleared, after_put, Tried}
use Rattle.acceptance.specs.Reports.{stage, report_of, passes}
use Rattle.acceptance.specs.declared.report.Stage.{Stage}
use Rattle.acceptance.proofs.Apart.{no_zero, apart}
use Rattle.acceptance.proofs.Whole.{Stood, Upto, with_same, with_other, same_or, accepts_is, filled_so, has_where, right_so, cleared_so, has_none}

-- ---- puts at the capacity
put_is : (room : ℕ) (f : Pairs) (h n : ℕ) (l : Links) (s b : Bool) → n ≢ 0 → is_some (f n) ≡ s → (s || ltb h room) ≡ b →
    after_put room f h n l ≡ cond b (with_pair f n (Some l), cond s h (h + 1)) (f, h)
put_is room f h n l s b ne e q = search rules

upto_more : (f : Pairs) (m i : ℕ) (l : Links) → Upto f m → i ≤ 768 → i < m ⊎ 768 ≤ i → Upto (with_pair f (node_of i) (Some l)) m
upto_more f m i l up il way j jl = elim (same_or i j) [
  | inl e ↦ subst (λ x. is_some (with_pair f (node_of i) (Some l) (node_of x)) ≡ ltb x m) e
      (ap is_some (with_same f (node_of i) (Some l)) ∙ elim way [ inl h ↦ (let q : ltb i m ≡ true = grind (arith, nat_tests) in sym q) | inr h ↦ absurd (omega (arith, e)) ])
  | inr ne ↦ ap is_some (with_other f (node_of j) (node_of i) (Some l) (apart j i (omega arith) (omega arith) ne)) ∙ up j jl
]

pub record TriedSo (c m count : ℕ) (kept : Bool) (g : Pairs) (k : ℕ) : Type 0 where
  pub number : count ≡ 2 - cond (ltb 768 c) 1 0
  pub kept_is : kept ≡ ltb 0 c
  pub held : k ≡ m + cond (ltb 768 c) 1 0
  pub upto : Upto g m

module _ (c m : ℕ) (f : Pairs) (h : ℕ) (st : Stood f m) (hm : h ≡ m) (mc : m ≡ min 768 c) where
  up : Upto f m
  up j jl = st j (omega arith)

  out : is_some (f (node_of 768)) ≡ false
  out = search rules

  first : is_some (f (node_of 0)) ≡ ltb 0 m
  first = st 0 (omega arith)

  new_is : (b : Bool) → ltb 768 c ≡ b → (false || ltb h c) ≡ b
  new_is true e = let z : 768 < c = grind (arith, nat_tests, e) in (let q : ltb h c ≡ true = grind (arith, nat_tests, hm, mc) in q)
  new_is false e = let z : c ≤ 768 = grind (arith, nat_tests, e) in (let q : ltb h c ≡ false = grind (arith, nat_tests, hm, mc) in q)

  abbrev last : ℕ
  last = node_of 768

  abbrev links : Links
  links = links_of 768 0

  abbrev fuller : Pairs
  fuller = with_pair f last (Some links)

  some_first : 0 < m → is_some (f (node_of 0)) ≡ true
  some_first z = search rules

  -- there is room for the new node
  tried_more : (count : ℕ) (kept : Bool) (g : Pairs) (k : ℕ) → ltb 768 c ≡ true → Tried c f h count kept g k → TriedSo c m count kept g k
  tried_more count kept g k e t =
      let over : 768 < c = grind (arith, nat_tests, e) in
      let some : 0 < m = omega (arith, mc) in
      let p : after_put c f h last links ≡ (fuller, h + 1) = put_is c f h last links false true (no_zero 768 (omega arith)) out (new_is true e) in
      let there : is_some (fuller (node_of 0)) ≡ true =
      ap is_some (with_other f (node_of 0) last (Some links) (apart 0 768 (omega arith) (omega arith) (λ z. omega (arith, z)))) ∙ some_first some in
      let is : ◌≡◌ {A = Pairs × ℕ} (g, k) ((with_pair fuller (node_of 0) (Some links), h + 1)) =
      t.after_is ∙ (ap (λ q. after_put c q.0 q.1 (node_of 0) links) p ∙ put_is c fuller (h + 1) (node_of 0) links true true (no_zero 0 (omega arith)) there refl) in
      record {
        number = t.count_is ∙ (ap (λ b. cond b 1 2) (accepts_is f h c last (no_zero 768 (omega arith)) ∙ (ap (λ b. b || ltb h c) out ∙ new_is true e)) ∙ sym (ap (λ b. 2 - cond b 1 0) e));
        kept_is = t.kept_is ∙ (ap (λ q. accepts q.0 q.1 c (node_of 0)) p ∙ (accepts_is fuller (h + 1) c (node_of 0) (no_zero 0 (omega arith)) ∙ (ap (λ b. b || ltb (h + 1) c) there
            ∙ (let q : ltb 0 c ≡ true = grind (arith, nat_tests) in sym q))));
        held = ap (λ q. q.1) is ∙ (ap (λ x. x + 1) hm ∙ sym (ap (λ b. m + cond b 1 0) e));
        upto = subst (λ x. Upto x m) (sym (ap (λ q. q.0) is)) (upto_more fuller m 0 links (upto_more f m 768 links up (omega arith) (inr (omega arith))) (omega arith) (inl some));
      }

  -- there is none: at most 768 pairs fit, and as many as fit stand
  tried_full : (count : ℕ) (kept : Bool) (g : Pairs) (k : ℕ) → ltb 768 c ≡ false → Tried c f h count kept g k → TriedSo c m count kept g k
  tried_full count kept g k e t =
      let under : c ≤ 768 = grind (arith, nat_tests, e) in
      let same : m ≡ c = omega (arith, mc) in
      let none : ltb h c ≡ false = grind (arith, nat_tests, hm, same) in
      let p : after_put c f h last links ≡ (f, h) = put_is c f h last links false false (no_zero 768 (omega arith)) out (new_is false e) in
      let there : (ltb 0 m || ltb h c) ≡ ltb 0 c = ap (λ b. ltb 0 m || b) none ∙ (let q : (ltb 0 m || false) ≡ ltb 0 m = elim (cases_Bool (ltb 0 m)) [ inl z ↦ rw z refl | inr z ↦ rw z refl ] in q ∙ ap (ltb 0) same) in
      let is : ◌≡◌ {A = Pairs × ℕ} (g, k) (cond (ltb 0 c) (with_pair f (node_of 0) (Some links), cond (ltb 0 m) h (h + 1)) (f, h)) =
      t.after_is ∙ (ap (λ q. after_put c q.0 q.1 (node_of 0) links) p ∙ put_is c f h (node_of 0) links (ltb 0 m) (ltb 0 c) (no_zero 0 (omega arith)) first there) in
      let count_is = t.count_is ∙ (ap (λ b. cond b 1 2) (accepts_is f h c last (no_zero 768 (omega arith)) ∙ (ap (λ b. b || ltb h c) out ∙ new_is false e)) ∙ sym (ap (λ b. 2 - cond b 1 0) e)) in
      let kept_is = t.kept_is ∙ (ap (λ q. accepts q.0 q.1 c (node_of 0)) p ∙ (accepts_is f h c (node_of 0) (no_zero 0 (omega arith)) ∙ (ap (λ b. b || ltb h c) first ∙ there))) in
      elim (cases_lt 0 c) [
        | inl z ↦ (let yes' : ltb 0 c ≡ true = grind (arith, nat_tests) in
            let low : ltb 0 m ≡ true = grind (arith, nat_tests, same) in
            let at : ◌≡◌ {A = Pairs × ℕ} (g, k) (with_pair f (node_of 0) (Some links), h) = is ∙ (ap (λ b. cond b (with_pair f (node_of 0) (Some links), cond (ltb 0 m) h (h + 1)) (f, h)) yes'
            ∙ ap (λ b. (with_pair f (node_of 0) (Some links), cond b h (h + 1))) low) in
            record {
              number = count_is;
              kept_is = kept_is;
              held = ap (λ q. q.1) at ∙ (hm ∙ sym (ap (λ b. m + cond b 1 0) e ∙ (let q : m + 0 ≡ m = omega arith in q)));
              upto = subst (λ x. Upto x m) (sym (ap (λ q. q.0) at)) (upto_more f m 0 links up (omega arith) (inl (omega arith)));
            })
        | inr z ↦ (let no' : ltb 0 c ≡ false = grind (arith, nat_tests) in
            let at : ◌≡◌ {A = Pairs × ℕ} (g, k) (f, h) = is ∙ ap (λ b. cond b (with_pair f (node_of 0) (Some links), cond (ltb 0 m) h (h + 1)) (f, h)) no' in
            record {
              number = count_is;
              kept_is = kept_is;
              held = ap (λ q. q.1) at ∙ (hm ∙ sym (ap (λ b. m + cond b 1 0) e ∙ (let q : m + 0 ≡ m = omega arith in q)));
              upto = subst (λ x. Upto x m) (sym (ap (λ q. q.0) at)) up;
            })
      ]

  pub tried_so : (count : ℕ) (kept : Bool) (g : Pairs) (k : ℕ) → Tried c f h count kept g k → TriedSo c m count kept g k
  tried_so count kept g k t = elim (cases_Bool (ltb 768 c)) [ inl e ↦ tried_more count kept g k e t | inr e ↦ tried_full count kept g k e t ]

-- ---- the stages, one after another
pub record Counts (c n1 h1 n2 n3 h3 n4 n5 : ℕ) (kept : Bool) (h5 n6 h6 n7 h7 n8 : ℕ) : Type 0 where
  pub put : (n1 ≡ min 768 c) × (h1 ≡ min 768 c)
  pub read : n2 ≡ min 768 c
  pub renewed : (n3 ≡ min 256 c) × (h3 ≡ min 768 c)
  pub reread : n4 ≡ min 256 c
  pub refused : (n5 ≡ 2 - cond (ltb 768 c) 1 0) × (h5 ≡ min 768 c + cond (ltb 768 c) 1 0)
  pub kept_is : kept ≡ ltb 0 c
  pub dropped : (n6 ≡ min 768 c) × (h6 ≡ cond (ltb 768 c) 1 0)
  pub again : (n7 ≡ 0) × (h7 ≡ cond (ltb 768 c) 1 0)
  pub left : n8 ≡ 0

module _ (c : ℕ) where
  pub counted_so : (f0 f1 f2 f3 f4 f5 f6 f7 : Pairs) (h0 h1 h2 h3 h4 h5 h6 h7 n1 n2 n3 n4 n5 n6 n7 n8 : ℕ) (kept : Bool) → f0 ≡ no_pairs → h0 ≡ 0 → Filled c 0 f0 h0 768 n1 f1 h1 →
      n2 ≡ right f1 0 768 → f2 ≡ f1 → h2 ≡ h1 → Filled c 9 f2 h2 256 n3 f3 h3 → n4 ≡ right f3 9 256 → f4 ≡ f3 → h4 ≡ h3 → Tried c f4 h4 n5 kept f5 h5 → Cleared f5 h5 768 n6 f6 h6 →
      Cleared f6 h6 768 n7 f7 h7 → n8 ≡ right f7 0 768 → Counts c n1 h1 n2 n3 h3 n4 n5 kept h5 n6 h6 n7 h7 n8
  counted_so f0 f1 f2 f3 f4 f5 f6 f7 h0 h1 h2 h3 h4 h5 h6 h7 n1 n2 n3 n4 n5 n6 n7 n8 kept bare none put read f21 h21 renew reread f43 h43 tried drop again left =
      let more : ℕ = cond (ltb 768 c) 1 0 in
      let m : ℕ = min 768 c in
      let s : ℕ = min 256 c in
      let st0 : Stood f0 0 = λ j jl. ap (λ f. is_some (f (node_of j))) bare ∙ (let q : ltb j 0 ≡ false = grind (arith, nat_tests) in sym q) in
      let a = filled_so c 0 0 f0 (omega arith) (omega arith) st0 (subst (λ h. Filled c 0 f0 h 768 n1 f1 h1) none put) (omega arith) in
      let low : max 0 m ≡ m = omega arith in
      let st1 : Stood f1 m = subst (Stood f1) low a.stood in
      let held1 : h1 ≡ m = a.held ∙ low in
      let held2 : h2 ≡ m = h21 ∙ held1 in
      let st2 : Stood f2 m = subst (λ f. Stood f m) (sym f21) st1 in
      let b = filled_so c 9 m f2 (omega arith) (omega arith) st2 (subst (λ h. Filled c 9 f2 h 256 n3 f3 h3) held2 renew) (omega arith) in
      let same : max m s ≡ m = omega arith in
      let st3 : Stood f3 m = subst (Stood f3) same b.stood in
      let held3 : h3 ≡ m = b.held ∙ same in
      let way : (s ≡ m) ⊎ (256 ≤ s) = elim (cases_lt c 256) [ inl l ↦ inl (omega arith) | inr l ↦ inr (omega arith) ] in
      let d = tried_so c m f4 h4 (subst (λ f. Stood f m) (sym f43) st3) (h43 ∙ held3) refl n5 kept f5 h5 tried in
      let e = cleared_so m more f5 d.upto (subst (λ h. Cleared f5 h 768 n6 f6 h6) d.held drop) (omega arith) in
      let up6 : Upto f6 0 = λ j jl. e.gone j jl jl ∙ (let q : ltb j 0 ≡ false = grind (arith, nat_tests) in sym q) in
      let held6 : h6 ≡ more = omega (arith, e.held) in
      let f = cleared_so 0 more f6 up6 (subst (λ h. Cleared f6 h 768 n7 f7 h7) (held6 ∙ (let q : more ≡ 0 + more = omega arith in q)) again) (omega arith) in
      record {
        put = (a.number, held1);
        read = read ∙ (right_so f1 0 m 768 (has_where f1 0 m m 768 (omega arith) st1 a.newer (inl refl) (omega arith)) ∙ (let q : min 768 m ≡ m = omega arith in q));
        renewed = (b.number, held3);
        reread = reread ∙ (right_so f3 9 s 256 (has_where f3 9 m s 256 (omega arith) st3 b.newer way (omega arith)) ∙ (let q : min 256 s ≡ s = omega arith in q));
        refused = (d.number, d.held);
        kept_is = d.kept_is;
        dropped = (e.number ∙ (let q : min 768 m ≡ m = omega arith in q), held6);
        again = (f.number ∙ (let q : min 768 0 ≡ 0 = omega arith in q), omega (arith, f.held));
        left = left ∙ (right_so f7 0 0 768 (λ j jl. has_none (f7 (node_of j)) (links_of j 0) (f.gone j jl jl) ∙ (let q : ltb j 0 ≡ false = grind (arith, nat_tests) in sym q)) ∙ (let q : min 768 0 ≡ 0 = omega arith in q));
      }

-- ---- the report
pub reported : (c : ℕ) (put read renewed reread refused dropped again left : Stage) (kept : Bool) → let more : ℕ = cond (ltb 768 c) 1 0 in put ≡ stage (min 768 c) (min 768 c) 768 → read ≡ stage (min 768 c) (min 768 c) 1536 →
    renewed ≡ stage (min 256 c) (min 768 c) 1792 → reread ≡ stage (min 256 c) (min 768 c) 2048 → refused ≡ stage (2 - more) (min 768 c + more) 2051 → kept ≡ ltb 0 c →
    dropped ≡ stage (min 768 c) more 2819 → again ≡ stage 0 more 3587 → left ≡ stage 0 more 4355 →
    (record { capacity = c; put = put; read = read; renewed = renewed; reread = reread; refused = refused; kept = kept; dropped = dropped; again = again; left = left }) ≡ report_of c
reported c put read renewed reread refused dropped again left kept a b d e f g h k l = search rules

ends_false : (b : Bool) → (b && false) ≡ false
ends_false true = refl
ends_false false = refl

pub sold : (c : ℕ) → passes (report_of c) ≡ eqb c 768
sold c = search rules
