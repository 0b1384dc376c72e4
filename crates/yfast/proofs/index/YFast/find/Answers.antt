use Rattle.std.proofs.Common.{◌≡◌, [], sym, ap, ◌∙◌}
use Rattle.dictionary.specs.Pairs.{raised}
use Rattle.entry.specs.Lists.{at}
use Rattle.levels.specs.Counts.{searching}
use Rattle.links.specs.Orders.{holder}
use Rattle.trie.specs.Sound.{reps_of}
use Rattle.forest.specs.Forests.{items_of, tree_of}
use Rattle.trees.specs.Answers.{foremost}
use Rattle.trees.specs.Trees.{seen}
use Rattle.buckets.specs.Tables.{rep_of, order_of}
use Rattle.ordered.specs.declared.calls.Answer.{Answer}
use Rattle.ordered.specs.declared.calls.Call.TheVariants.{Find}
use Rattle.ordered.specs.declared.refusal.Refusal.TheVariants.{Absent}
use Rattle.runs.specs.States.{Answered}
use Rattle.ordered.specs.Answers.{answer_of, reply_of}
use Rattle.inside.proofs.Quiet.{one_key, find_step}
use Rattle.inside.proofs.Finds.{barred_does, whole_of, one_fits, open_does}
use Rattle.yfast.proofs.index.YFast.find.Goals as goal

answer_with : Answer → Answered
answer_with r = record { answer = r; places = [] }

pub returns-in-Err-clause-does : goal.returns-in-Err-clause-does
returns-in-Err-clause-does g c =
    let x = c.args.self.now in
    let k = c.args.key in
    barred_does _ _ _ _ _ _ _ g.met.K.Key.wide.0 (g.met.D.Dictionary.counts x.dictionary) c.in-Some.is c.in-Some.is x.sound (Find k) [] _ _ c.refused-in-Err.ensures (sym (one_key g.K.Key.width k) ∙ sym c.in-Err.ensures)

pub returns-clause-does : goal.returns-clause-does
unfolding answer_with
returns-clause-does g c =
    let k = c.args.key in
    let i = c.in-Some.inside in
    let x = c.args.self.now in
    let y = c.look_up-frames.new.d in
    let l = c.look_up-frames.result in
    let e = c.look_up-frames.ensures in
    let w = g.K.Key.width in
    let f = g.D.Dictionary.pairs x.dictionary in
    let room = g.D.Dictionary.room x.dictionary in
    let tally = g.D.Dictionary.frames x.dictionary in
    let n = g.D.Dictionary.frames y in
    let m = holder (rep_of i.grove.table) (order_of i.grove.table) k in
    let xs = at k (items_of i.grove.table i.grove.pool m) in
    let q : c.new.result ≡ reply_of (foremost xs) Absent (searching w (reps_of i.grove.table) k) (seen k (tree_of i.grove.table i.grove.pool m)) =
    c.new.ensures
    ∙ (ap (λ x. answer_of x l.frames l.found.visits) c.ok_or.ensures.value
    ∙ (ap (λ x. reply_of x Absent l.frames l.found.visits) e.looked.entry
    ∙ (ap (λ x. reply_of (foremost xs) Absent x l.found.visits) e.looked.frames
    ∙ ap (λ x. reply_of (foremost xs) Absent (searching w (reps_of i.grove.table) k) x) e.looked.visits))) in
    let wh = whole_of w f room tally x.inside i c.in-Some.is x.sound in
    let t = find_step w f room tally i g.met.K.Key.wide.0 wh k [] n (one_fits w k c.in_default-admits.ensures) (g.met.D.Dictionary.counts y) (e.tally ∙ ap (raised tally) e.looked.frames) in
    open_does w f (g.D.Dictionary.pairs y) tally n x.inside x.inside i (Find k) [] _ (answer_with c.new.result) c.in-Some.is c.in-Some.is e.pairs (ap answer_with q) t
