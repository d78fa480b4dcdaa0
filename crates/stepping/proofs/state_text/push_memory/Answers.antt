use Rattle.std.proofs.Common.{◌∙◌, ◌++◌, sym, codes, decimal}
use Rattle.stepping.specs.StateText.{memory_text}
use Rattle.stepping.proofs.Texts.{written_more}
use Rattle.stepping.proofs.Memories.{number_at}
use Rattle.stepping.proofs.state_text.push_memory.Goals as goal

pub nodes-preserved : goal.nodes-preserved
nodes-preserved c =
    let at = number_at c.args.memory.now _ c.nodes.node c.in-Some.number c.requires c.nodes-test.true (sym c.at.ensures ∙ c.in-Some.is) in
    written_more (λ n. codes " " ++ decimal n) c.args.memory.now c.nodes.node c.nodes.text.items c.push_number.new.text.items (c.args.text.now.items ++ memory_text c.args.memory.now) c.in-Some.number _ at.0 at.1 c.in_ok-push_number.ensures c.nodes.invariant
