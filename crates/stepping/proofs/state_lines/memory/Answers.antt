use Rattle.std.proofs.Common.{[]}
use Rattle.std.proofs.lemmas.Result.{err_from_is_err_and}
use Rattle.stepping.specs.StateReading.{memory_from}
use Rattle.stepping.proofs.ReadOn.{memory_more, memory_fails, memory_ends}
use Rattle.stepping.proofs.state_lines.memory.Goals as goal

pub returns-in_err-number : goal.returns-in_err-number
returns-in_err-number c =
    let p = err_from_is_err_and c.from_residual-in_err-number.result c.from_residual-in_err-number.ensures.1 in
    rw (p.1, p.2) (memory_fails c.nodes.numbers.items c.args.size c.nodes.node c.nodes.rest.now (memory_from [] c.args.size c.args.text.now) c.nodes.invariant c.in_err-number.field-0.0 c.nodes-test.true c.in_err-number.ensures)

pub nodes-preserved : goal.nodes-preserved
nodes-preserved c =
    memory_more c.nodes.numbers.items c.args.size c.nodes.node c.nodes.rest.now (memory_from [] c.args.size c.args.text.now) c.nodes.invariant c.in_ok-number.number c.in_ok-number.more.now
    c.push.new.self.items c.nodes-test.true c.in_ok-number.ensures c.in_ok-push.ensures.items

pub returns : goal.returns
returns c = memory_ends c.nodes.numbers.items c.args.size c.nodes.node c.nodes.rest.now (memory_from [] c.args.size c.args.text.now) c.nodes.invariant c.nodes-test.false
