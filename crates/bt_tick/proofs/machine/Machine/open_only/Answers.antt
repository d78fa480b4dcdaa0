use Rattle.std.proofs.Common.{◌+◌, ◌∷◌, arith}
use Rattle.std.proofs.lemmas.List.{length-map}
use Rattle.bt_nodes.specs.Plain.{plain}
use Rattle.bt_tick.specs.Machine.{opened, opens, whole_of}
use Rattle.bt_tick.specs.declared.machine.Mode.TheVariants.{Down}
use Rattle.bt_tick.proofs.Nests.{room}
use Rattle.bt_tick.proofs.Opening.{placed_by, only_nested, only_sits}
use Rattle.bt_tick.proofs.machine.Machine.open_only.Goals as goal

pub open-requires : goal.open-requires
open-requires g c = record {
  room = omega (arith, c.requires.stands.deep, length-map c.args.self.now.stack opened, room c.args.self.now.tree.now (plain c.args.frame.node.now) c.args.frame.number c.requires.stands.sits);
}

pub overflow_add-result : goal.overflow_add-result
overflow_add-result g c = omega (arith, room c.args.self.now.tree.now (plain c.args.frame.node.now) c.args.frame.number c.requires.stands.sits)

pub returns-clause-placed : goal.returns-clause-placed
returns-clause-placed g c =
    let bs = whole_of c.args.self.now in
    let f = opened c.args.frame in
    let p = plain c.args.child.now in
    placed_by c.args.self.now c.open.new.self (Down c.args.child (c.args.frame.number + 1)) (c.args.frame ∷ c.args.self.now.stack) c.in_ok-open.ensures.tree c.in_ok-open.ensures.stack
    (only_nested bs f (opens c.args.self.now.stack) p c.requires.only c.requires.stands c.requires.begun c.requires.nested)
    (only_sits bs f (opens c.args.self.now.stack) p c.requires.only c.requires.stands, omega (arith, c.requires.stands.deep, length-map c.args.self.now.stack opened))
