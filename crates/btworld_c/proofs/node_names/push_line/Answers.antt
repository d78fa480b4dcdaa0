use Rattle.std.proofs.Common.{◌≡◌, ◌++◌, ℕ, List, codes}
use Rattle.bt_nodes.specs.Plain.{Plain, plain}
use Rattle.tick_text.specs.Lines.{indent, node_text}
use Rattle.btworld_c.specs.NodeNames.{name_line}
use Rattle.btworld_c.proofs.NameLines.{further, if_pushed, on_ok_map}
use Rattle.btworld_c.proofs.node_names.push_line.Goals as goal

pub returns : goal.returns
returns c =
    let p : Plain = plain c.args.node.now in
    let text : List ℕ = c.args.text.now.items in
    let one : List ℕ = c.push_indent.new.text.items in
    let two : List ℕ = c.push_node.new.text.items in
    let all : List ℕ = c.extend_from_slice.new.self.items in
    let space : List ℕ = indent c.args.depth in
    let named : two ≡ text ++ (space ++ node_text p) = further text space one (node_text p) two c.in_ok-push_indent.ensures c.in_ok-push_node.ensures in
    on_ok_map c.extend_from_slice.result (all ≡ two ++ codes "\n") (all ≡ text ++ name_line p c.args.depth) (further text (space ++ node_text p) two (codes "\n") all named)
    (if_pushed c.extend_from_slice.result two (codes "\n") all c.extend_from_slice.ensures.items)
