-- An order and the same without one of its buckets: what setting up and taking away it cite.
--
--   small, off                        its representative is below 2^w, and off its nodes nothing alters
--   Joining, joining_step, ..         setting it up level by level: the pairs, the frames, the links met, the room
--   Parting, parting_step             taking it away level by level
use Rattle.std.proofs.Common.{◌≡◌, ℕ, ◌+◌, ◌*◌, ◌^◌, ◌<◌, ◌≤◌, true, false, cond, List, ◌∷◌, ◌++◌, map, length, is_some, Some, None, sym, ap, ◌∙◌, subst, arith}
use Rattle.std.specs.List.{AllByRecursion}
use Rattle.std.proofs.ByRecursion.{all_kept_by}
use Rattle.std.proofs.lemmas.Bool.{cond_both}
use Rattle.dictionary.specs.Pairs.{Pairs, with_pair, among, apart}
use Rattle.levels.specs.Nodes.{node_at}
use Rattle.levels.specs.Counts.{at_end}
use Rattle.links.specs.Orders.{Ordered, Neighbours, without}
use Rattle.links.specs.Links.{passed, lies, links, joined, joins, parted, parts}
use Rattle.links.proofs.Midway.{Turned, turned_at, turned_step}
use Rattle.links.proofs.Turns.{around_off, around_own, joins_end, parts_end, around_parted, around_held, around_more}
use Rattle.links.proofs.Orders.{all_parts, cut, cut_without}
use Rattle.links.proofs.Changes.{links_all}
use Rattle.links.proofs.Room.{room_left}

module _ (w : ℕ) (rep : ℕ → ℕ) (order : List ℕ) (i : ℕ) (o : Ordered w rep order) (t : among i order ≡ true) where
  by_cut : (P : List ℕ → List ℕ → Type 0) → ((pre post : List ℕ) → order ≡ pre ++ i ∷ post → Ordered w rep (pre ++ i ∷ post) → P (pre ++ i ∷ post) (pre ++ post)) → P order (without i order)
  by_cut P h =
      let c = cut order i t in
      let o' = subst (Ordered w rep) c.is o in
      let e = cut_without rep i c.pre c.post o'.rises in
      subst (λ l. P l (without i l)) (sym c.is) (subst (P (c.pre ++ i ∷ c.post)) (sym e) (h c.pre c.post c.is o'))

  abbrev full : Pairs
  full = links w rep order

  abbrev bare : Pairs
  bare = links w rep (without i order)

  here : (P : ℕ → Type 0) → AllByRecursion P order → P i
  here P a = let c = cut order i t in (all_parts P c.pre (i ∷ c.post) (subst (AllByRecursion P) c.is a)).1.0

  pub small : rep i < 2 ^ w
  small = here (λ x. rep x < 2 ^ w) o.fits

  pub off : (n : ℕ) → lies w (rep i) n ≡ false → full n ≡ bare n
  off n h = by_cut (λ l k. links w rep l n ≡ links w rep k n) (λ pre post _ o'. around_off w rep pre i post o' n h)

  some_more : (n : ℕ) → is_some (bare n) ≡ true → is_some (full n) ≡ true
  some_more n = by_cut (λ l k. is_some (links w rep k n) ≡ true → is_some (links w rep l n) ≡ true) (λ pre post _ o'. around_more w rep pre i post o' n)

  module _ (j : ℕ) (jw : j ≤ w) where
    abbrev node : ℕ
    node = node_at w (rep i) j

    own_joined : joined rep i (bare node) ≡ full node
    own_joined = by_cut (λ l k. joined rep i (links w rep k node) ≡ links w rep l node) (λ pre post _ o'. around_own w rep pre i post o' j jw)

    own_joins : joins rep i (bare node) ≡ at_end w (map rep order) (rep i) j
    own_joins = by_cut (λ l k. joins rep i (links w rep k node) ≡ at_end w (map rep l) (rep i) j) (λ pre post _ o'. joins_end w rep pre i post o' j jw)

    own_parts : parts i (full node) ≡ at_end w (map rep order) (rep i) j
    own_parts = by_cut (λ l k. parts i (links w rep l node) ≡ at_end w (map rep l) (rep i) j) (λ pre post _ o'. parts_end w rep pre i post o' j jw)

    own_parted : (next prev : ℕ → ℕ) → Neighbours next prev order → parted (next i) (prev i) i (full node) ≡ bare node
    own_parted next prev n =
        by_cut (λ l k. parted (next i) (prev i) i (links w rep l node) ≡ links w rep k node)
        (λ pre post e o'. around_parted w rep pre i post o' j jw (next i) (prev i) (n pre i post e).1 (n pre i post e).0)

    own_held : is_some (full node) ≡ true
    own_held = by_cut (λ l k. is_some (links w rep l node) ≡ true) (λ pre post _ o'. around_held w rep pre i post o' j jw)

  -- ---- setting up, level by level
  abbrev pub Joining : ℕ → ℕ → Pairs → Type 0
  Joining = Turned w (rep i) (map rep order) full bare

  module _ (j frames : ℕ) (f : Pairs) (s : Joining j frames f) (jw : j ≤ w) (n : ℕ) (en : n ≡ node_at w (rep i) j) where
    joining_at : f n ≡ bare (node_at w (rep i) j)
    joining_at = turned_at w (rep i) (map rep order) full bare j frames f s n jw small en

    pub joining_step : (made : ℕ) (g : Pairs) → g ≡ with_pair f n (joined rep i (f n)) → made ≡ 1 + cond (joins rep i (f n)) 1 0 → Joining (j + 1) (frames + made) g
    joining_step made g eg em =
        turned_step w (rep i) (map rep order) full bare j frames f s n made g (joined rep i (f n)) (joins rep i (f n)) en eg
        (ap (joined rep i) joining_at ∙ own_joined j jw) em (ap (joins rep i) joining_at ∙ own_joins j jw)

    -- the links found are numbers of the order
    pub joining_links : (P : ℕ → Type 0) → AllByRecursion P order → (low high : ℕ) → f n ≡ Some (low, high) → P low × P high
    joining_links P a low high e = links_all P w rep (without i order) (node_at w (rep i) j) low high (all_kept_by _ P order a) (sym joining_at ∙ e)

    -- a new pair has room
    pub joining_room : (nodes : List ℕ) (room : ℕ) → apart nodes ≡ true → ((m : ℕ) → is_some (f m) ≡ among m nodes) → (w + 1) * length order ≤ room → f n ≡ None → length nodes < room
    joining_room nodes room a held big none =
        let sub : (m : ℕ) → is_some (f m) ≡ true → is_some (full m) ≡ true = λ m.
        subst (λ h. is_some (h m) ≡ true → is_some (full m) ≡ true) (sym s.pairs)
        (cond_both (passed w (rep i) j m) (full m) (bare m) (λ x. is_some x ≡ true → is_some (full m) ≡ true) (λ _ t. t) (λ _ t. some_more m t)) in
        omega (arith, room_left w rep order o nodes f a held n sub (ap (λ m. is_some (full m)) en ∙ own_held j jw) none)

  -- ---- taking away, level by level
  abbrev pub Parting : ℕ → ℕ → Pairs → Type 0
  Parting = Turned w (rep i) (map rep order) bare full

  pub parting_step : (next prev : ℕ → ℕ) → Neighbours next prev order → (j frames : ℕ) (f : Pairs) → Parting j frames f → j ≤ w → (n : ℕ) → n ≡ node_at w (rep i) j →
      (made : ℕ) (g : Pairs) → g ≡ with_pair f n (parted (next i) (prev i) i (f n)) → made ≡ 1 + cond (parts i (f n)) 1 0 → Parting (j + 1) (frames + made) g
  parting_step next prev beside j frames f s jw n en made g eg em =
      let was = turned_at w (rep i) (map rep order) bare full j frames f s n jw small en in
      turned_step w (rep i) (map rep order) bare full j frames f s n made g (parted (next i) (prev i) i (f n)) (parts i (f n)) en eg
      (ap (parted (next i) (prev i) i) was ∙ own_parted j jw next prev beside) em (ap (parts i) was ∙ own_parts j jw)
