use Rattle.std.proofs.Common.{◌≡◌, ℕ, ◌+◌, [], Some, Ok, sym, refl, ap, ◌∙◌, subst, arith}
use Rattle.dictionary.specs.Pairs.{raised}
use Rattle.key.proofs.Logs.{most_within}
use Rattle.entry.specs.Lists.{at}
use Rattle.levels.specs.Counts.{searching}
use Rattle.links.specs.Orders.{holder}
use Rattle.trie.specs.Sound.{reps_of}
use Rattle.forest.specs.Forests.{items_of, tree_of}
use Rattle.trees.specs.Trees.{seen}
use Rattle.buckets.specs.Tables.{rep_of, order_of}
use Rattle.ordered.specs.Answers.{no_of}
use Rattle.ordered.specs.declared.calls.Answer.{Answer}
use Rattle.ordered.specs.declared.calls.Call.TheVariants.{Remove}
use Rattle.ordered.specs.declared.refusal.Refusal.TheVariants.{Absent}
use Rattle.runs.specs.States.{Answered, Step}
use Rattle.inside.specs.Whole.{state_of}
use Rattle.inside.proofs.Quiet.{one_key}
use Rattle.inside.proofs.Finds.{barred_does, whole_of, one_fits, step_does, open_does}
use Rattle.inside.proofs.Removes.{absent_step, remove_few, remove_whole, remove_step, found_first, not_found}
use Rattle.yfast.proofs.index.YFast.remove.Goals as goal

answer_with : Answer → Answered
answer_with r = record { answer = r; places = [] }

pub returns-in-Err-clause-does : goal.returns-in-Err-clause-does
returns-in-Err-clause-does g c =
    let x = c.args.self.now in
    let k = c.args.key in
    barred_does _ _ _ _ _ _ _ g.met.K.Key.wide.0 (g.met.D.Dictionary.counts x.dictionary) c.in-Some.is refl x.sound (Remove k) [] _ _ c.refused-in-Err.ensures (sym (one_key g.K.Key.width k) ∙ sym c.in-Err.ensures)

pub returns-in_default-entry-clause-does : goal.returns-in_default-entry-clause-does
unfolding answer_with
returns-in_default-entry-clause-does g c =
    let k = c.args.key in
    let x = c.args.self.now in
    let d = x.dictionary in
    let i = c.in-Some.inside in
    let y = c.look_up-look.new.d in
    let l = c.look_up-look.result in
    let e = c.look_up-look.ensures in
    let w = g.K.Key.width in
    let big = g.met.K.Key.wide.0 in
    let f = g.D.Dictionary.pairs d in
    let room = g.D.Dictionary.room d in
    let tally = g.D.Dictionary.frames d in
    let wh = whole_of w f room tally x.inside i c.in-Some.is x.sound in
    let fits = one_fits w k c.in_default-admits.ensures in
    let m = holder (rep_of i.grove.table) (order_of i.grove.table) k in
    let xs = at k (items_of i.grove.table i.grove.pool m) in
    let n = g.D.Dictionary.frames y in
    let t = absent_step w f room tally i big wh k fits n (not_found xs (sym e.looked.entry ∙ c.in_default-entry.is)) (g.met.D.Dictionary.counts y) (e.tally ∙ ap (raised tally) e.looked.frames) in
    let q : c.refused-in_default-entry.result ≡ no_of Absent (searching w (reps_of i.grove.table) k) (seen k (tree_of i.grove.table i.grove.pool m)) =
    c.refused-in_default-entry.ensures ∙ (ap (λ x. no_of Absent x l.found.visits) e.looked.frames ∙ ap (λ x. no_of Absent (searching w (reps_of i.grove.table) k) x) e.looked.visits) in
    open_does w f (g.D.Dictionary.pairs y) tally n x.inside (Some i) i (Remove k) [] _ (answer_with c.refused-in_default-entry.result) c.in-Some.is refl e.pairs (ap answer_with q) t

pub overflow_add-result : goal.overflow_add-result
overflow_add-result g c =
    let k = c.args.key in
    let x = c.args.self.now in
    let d = x.dictionary in
    let i = c.in-Some.inside in
    let e = c.look_up-look.ensures in
    let w = g.K.Key.width in
    let big = g.met.K.Key.wide.0 in
    let f = g.D.Dictionary.pairs d in
    let room = g.D.Dictionary.room d in
    let tally = g.D.Dictionary.frames d in
    let wh = whole_of w f room tally x.inside i c.in-Some.is x.sound in
    let fits = one_fits w k c.in_default-admits.ensures in
    let m = holder (rep_of i.grove.table) (order_of i.grove.table) k in
    let xs = at k (items_of i.grove.table i.grove.pool m) in
    let old = c.in-Some-entry.entry in
    let first = found_first xs old (sym e.looked.entry ∙ c.in-Some-entry.is) in
    let wide = g.met.K.Key.wide in
    let few = remove_few w f room tally i big wh k fits old first.0 first.1 in
    omega (arith, few, e.looked.frames, c.leave-change.ensures.left.frames, most_within w wide.0 wide.1, wide.1)

pub invariant_of-self-2 : goal.invariant_of-self-2
invariant_of-self-2 g c =
    let k = c.args.key in
    let x = c.args.self.now in
    let d = x.dictionary in
    let i = c.in-Some.inside in
    let e = c.look_up-look.ensures in
    let w = g.K.Key.width in
    let big = g.met.K.Key.wide.0 in
    let f = g.D.Dictionary.pairs d in
    let room = g.D.Dictionary.room d in
    let tally = g.D.Dictionary.frames d in
    let wh = whole_of w f room tally x.inside i c.in-Some.is x.sound in
    let fits = one_fits w k c.in_default-admits.ensures in
    let m = holder (rep_of i.grove.table) (order_of i.grove.table) k in
    let xs = at k (items_of i.grove.table i.grove.pool m) in
    let old = c.in-Some-entry.entry in
    let first = found_first xs old (sym e.looked.entry ∙ c.in-Some-entry.is) in
    let j = c.leave-change.new.inside in
    let z = c.leave-change.new.d in
    let r = c.leave-change.result in
    let p = g.D.Dictionary.pairs z in
    let n = g.D.Dictionary.frames z in
    let en = c.leave-change.ensures in
    let rm = en.room ∙ e.room in
    let whole = remove_whole w f room tally i big wh k fits old first.0 first.1 j p (g.D.Dictionary.room z) n r en.trie en.left en.rest.0 en.rest.1 rm in
    record { sound = whole }

pub returns-clause-does : goal.returns-clause-does
unfolding answer_with
returns-clause-does g c =
    let k = c.args.key in
    let x = c.args.self.now in
    let d = x.dictionary in
    let i = c.in-Some.inside in
    let l = c.look_up-look.result in
    let e = c.look_up-look.ensures in
    let w = g.K.Key.width in
    let big = g.met.K.Key.wide.0 in
    let f = g.D.Dictionary.pairs d in
    let room = g.D.Dictionary.room d in
    let tally = g.D.Dictionary.frames d in
    let wh = whole_of w f room tally x.inside i c.in-Some.is x.sound in
    let fits = one_fits w k c.in_default-admits.ensures in
    let m = holder (rep_of i.grove.table) (order_of i.grove.table) k in
    let xs = at k (items_of i.grove.table i.grove.pool m) in
    let old = c.in-Some-entry.entry in
    let first = found_first xs old (sym e.looked.entry ∙ c.in-Some-entry.is) in
    let j = c.leave-change.new.inside in
    let z = c.leave-change.new.d in
    let r = c.leave-change.result in
    let p = g.D.Dictionary.pairs z in
    let n = g.D.Dictionary.frames z in
    let en = c.leave-change.ensures in
    let rm = en.room ∙ e.room in
    let t = remove_step w f room tally i big wh k fits old first.0 first.1 j p (g.D.Dictionary.room z) n r en.trie en.left en.rest.0 en.rest.1 rm (g.met.D.Dictionary.counts z)
    (en.tally ∙ ap (λ x. raised x r.frames) (e.tally ∙ ap (raised tally) e.looked.frames)) in
    let accepted : ℕ → ℕ → Answered = λ x v. record { answer = record { outcome = Ok old; number = 0; frames = x + r.frames; visits = v; rebuilding = r.rebuilding }; places = [] } in
    let made : Step w i.limit (state_of f tally (Some i)) (Remove k) [] (accepted l.frames l.found.visits) (state_of p n (Some j)) =
    subst (λ x. Step w i.limit (state_of f tally (Some i)) (Remove k) [] (accepted x l.found.visits) (state_of p n (Some j))) (sym e.looked.frames)
    (subst (λ v. Step w i.limit (state_of f tally (Some i)) (Remove k) [] (accepted (searching w (reps_of i.grove.table) k) v) (state_of p n (Some j))) (sym e.looked.visits) t) in
    step_does w f tally x.inside i (Remove k) [] (accepted l.frames l.found.visits) (state_of p n (Some j)) c.in-Some.is made
