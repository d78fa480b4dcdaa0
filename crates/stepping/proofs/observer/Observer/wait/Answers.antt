use Rattle.bt_nodes.specs.Trees.{plain_of}
use Rattle.bt_tick.specs.Views.{view_of}
use Rattle.stepping.proofs.Parts.{wait_runs, wait_over}
use Rattle.stepping.proofs.observer.Observer.wait.Goals as goal

pub returns-then-past-most : goal.returns-then-past-most
returns-then-past-most c =
    wait_runs (plain_of c.args.self.now.tree.now) (view_of c.args.self.now.view.now) c.args.most c.args.number c.number-past.result _ _ c.number-past.ensures
    c.if-past-most.true c.requires.room (c.put.ensures c.args.self.now.answers.now)

pub returns : goal.returns
returns c =
    wait_over (plain_of c.args.self.now.tree.now) (view_of c.args.self.now.view.now) c.args.most c.args.number c.number-past.result _ _ c.number-past.ensures
    c.if-past-most.false c.requires.room (c.put-2.ensures c.args.self.now.answers.now)
