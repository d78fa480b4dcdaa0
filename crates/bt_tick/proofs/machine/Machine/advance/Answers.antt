use Rattle.std.proofs.Common.{ap, sym, ◌∙◌, drop, arith}
use Rattle.bt_nodes.specs.Plain.{plain}
use Rattle.bt_tick.specs.Machine.{opened, rest_of}
use Rattle.bt_tick.proofs.Forests.{listed_children}
use Rattle.bt_tick.proofs.Leaving.{left_keeps, ended_placed, none_left}
use Rattle.bt_tick.proofs.machine.Machine.advance.Goals as goal

pub enter-requires : goal.enter-requires
enter-requires g c =
    record {
      some = c.requires.some;
      rests = c.requires.rests;
      list = c.requires.list;
      children = listed_children (plain c.args.frame.node.now) c.requires.list ∙ sym c.listed-children.ensures;
      next = omega (arith, c.if-frame-children.true);
    }

pub ended-status-requires : goal.ended-status-requires
ended-status-requires g c =
    record {
      list = c.requires.list;
      none_left = none_left (opened c.args.frame) c.listed-children.result.now (listed_children (plain c.args.frame.node.now) c.requires.list ∙ sym c.listed-children.ensures) (omega (arith, c.if-frame-children.false));
      sits = c.requires.rests.0.sits;
    }

pub returns-clause-keeps : goal.returns-clause-keeps
returns-clause-keeps g c v =
    left_keeps c.args.self.now c.leave.new.self c.leave.result _ c.args.at c.leave.ensures.mode (c.leave.ensures.stack ∙ ap (drop 1) c.ended-status.ensures.stack) _ c.leave.ensures.memory (c.leave.ensures.wants ∙ c.ended-status.ensures.wants) v
    (rest_of v (opened c.args.frame)) (c.ended-status.ensures.keeps v)

pub returns-clause-placed : goal.returns-clause-placed
returns-clause-placed g c =
    ended_placed c.args.self.now c.leave.new.self c.leave.result _ c.args.at c.leave.ensures.mode (c.leave.ensures.stack ∙ ap (drop 1) c.ended-status.ensures.stack) (opened c.args.frame) c.requires.rests
    (none_left (opened c.args.frame) c.listed-children.result.now (listed_children (plain c.args.frame.node.now) c.requires.list ∙ sym c.listed-children.ensures) (omega (arith, c.if-frame-children.false)))
    (c.leave.ensures.tree ∙ c.ended-status.ensures.tree)
