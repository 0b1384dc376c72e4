use Rattle.std.proofs.Common.{is_none, ap}
use Rattle.inside.specs.Whole.{limit_of}
use Rattle.inside.proofs.Placed.{called}
use Rattle.yfast.proofs.index.YFast.call.Goals as goal

pub returns-in-Add : goal.returns-in-Add
returns-in-Add g c =
    let e = c.add.ensures in
    record { does = called _ _ _ _ _ c.args.call tt c.in-Add.is c.args.places.now c.add.result _ e.does; limit = e.limit; shut = e.shut; room = e.room }

pub returns-in-Remove : goal.returns-in-Remove
returns-in-Remove g c =
    let e = c.remove.ensures in
    record { does = called _ _ _ _ _ c.args.call tt c.in-Remove.is c.args.places.now c.remove.result _ e.does; limit = e.limit; shut = e.shut; room = e.room }

pub returns-in-Find : goal.returns-in-Find
returns-in-Find g c =
    let e = c.find.ensures in
    record { does = called _ _ _ _ _ c.args.call tt c.in-Find.is c.args.places.now c.find.result _ e.does; limit = ap limit_of e.inside; shut = ap is_none e.inside; room = e.room }

pub returns-in-Next : goal.returns-in-Next
returns-in-Next g c =
    let e = c.next.ensures in
    record { does = called _ _ _ _ _ c.args.call tt c.in-Next.is c.args.places.now c.next.result _ e.does; limit = ap limit_of e.inside; shut = ap is_none e.inside; room = e.room }

pub returns-in-Last : goal.returns-in-Last
returns-in-Last g c =
    let e = c.last.ensures in
    record { does = called _ _ _ _ _ c.args.call tt c.in-Last.is c.args.places.now c.last.result _ e.does; limit = ap limit_of e.inside; shut = ap is_none e.inside; room = e.room }
