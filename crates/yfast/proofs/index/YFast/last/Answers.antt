use Rattle.std.proofs.Common.{◌≡◌, ◌+◌, cond, [], ◌++◌, sym, ap, ◌∙◌, subst}
use Rattle.dictionary.specs.Pairs.{raised}
use Rattle.entry.specs.Lists.{upto, filled}
use Rattle.levels.specs.Counts.{searching}
use Rattle.trie.specs.Sound.{reps_of}
use Rattle.forest.specs.Forests.{items_of, tree_of}
use Rattle.rows.specs.Rows.{back}
use Rattle.rows.proofs.Served.{InRow}
use Rattle.trees.specs.Answers.{hindmost}
use Rattle.trees.specs.Trees.{leaf, seen, high_way}
use Rattle.buckets.specs.Tables.{rep_of, order_of}
use Rattle.ordered.specs.declared.calls.Answer.{Answer}
use Rattle.ordered.specs.declared.calls.Call.TheVariants.{Last}
use Rattle.ordered.specs.declared.refusal.Refusal.TheVariants.{Nothing}
use Rattle.runs.specs.States.{Answered}
use Rattle.ordered.specs.Answers.{answer_of, reply_of}
use Rattle.inside.proofs.Parts.{held_in}
use Rattle.inside.proofs.Quiet.{one_key, last_step}
use Rattle.inside.proofs.Finds.{barred_does, whole_of, one_fits, open_does}
use Rattle.yfast.proofs.index.YFast.last.Goals as goal

answer_with : Answer → Answered
answer_with r = record { answer = r; places = [] }

pub returns-in-Err-clause-does : goal.returns-in-Err-clause-does
returns-in-Err-clause-does g c =
    let x = c.args.self.now in
    let k = c.args.key in
    barred_does _ _ _ _ _ _ _ g.met.K.Key.wide.0 (g.met.D.Dictionary.counts x.dictionary) c.in-Some.is c.in-Some.is x.sound (Last k) [] _ _ c.refused-in-Err.ensures (sym (one_key g.K.Key.width k) ∙ sym c.in-Err.ensures)

pub returns-clause-does : goal.returns-clause-does
unfolding answer_with
returns-clause-does g c =
    let k = c.args.key in
    let i = c.in-Some.inside in
    let x = c.args.self.now in
    let d = x.dictionary in
    let e = c.locate-at.new.d in
    let w = g.K.Key.width in
    let f = g.D.Dictionary.pairs d in
    let room = g.D.Dictionary.room d in
    let tally = g.D.Dictionary.frames d in
    let n = g.D.Dictionary.frames e in
    let wh = whole_of w f room tally x.inside i c.in-Some.is x.sound in
    let m = c.locate-at.result.number in
    let items = items_of i.grove.table i.grove.pool in
    let tree = tree_of i.grove.table i.grove.pool in
    let cut = subst (InRow (rep_of i.grove.table) (order_of i.grove.table) k) (sym c.locate-at.ensures.number) (held_in w f i.grove.table wh.trie k) in
    let found = c.last_from-found.ensures cut.pre cut.post cut.is in
    let fr = c.locate-at.ensures.frames in
    let xs = back [] items cut.pre ++ upto k (items m) in
    let q : c.new.result ≡ reply_of (hindmost xs) Nothing (searching w (reps_of i.grove.table) k) (seen k (tree m) + cond (filled (upto k (items m))) 0 (high_way (back leaf tree cut.pre))) =
    c.new.ensures
    ∙ (ap (λ x. answer_of x c.locate-at.result.frames c.last_from-found.result.visits) c.ok_or.ensures.value
    ∙ (ap (λ x. reply_of x Nothing c.locate-at.result.frames c.last_from-found.result.visits) found.entry
    ∙ (ap (λ x. reply_of (hindmost xs) Nothing x c.last_from-found.result.visits) fr
    ∙ ap (λ x. reply_of (hindmost xs) Nothing (searching w (reps_of i.grove.table) k) x) found.visits))) in
    let t = last_step w f room tally i g.met.K.Key.wide.0 wh k [] n m cut (one_fits w k c.in_default-admits.ensures) (g.met.D.Dictionary.counts e) (c.locate-at.ensures.tally ∙ ap (raised tally) fr) in
    open_does w f (g.D.Dictionary.pairs e) tally n x.inside x.inside i (Last k) [] _ (answer_with c.new.result) c.in-Some.is c.in-Some.is c.locate-at.ensures.pairs (ap answer_with q) t
