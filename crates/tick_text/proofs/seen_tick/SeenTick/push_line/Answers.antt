use Rattle.std.proofs.Common.{◌≡◌, ◌∙◌, None, ◌++◌, ℕ, List, Option, ap, sym, append_assoc, codes, decimal}
use Rattle.std.specs.Prelude.{slice_index_or}
use Rattle.bt_nodes.specs.declared.node.Status.{Status}
use Rattle.bt_nodes.specs.Plain.{Plain, plain}
use Rattle.tick_text.specs.Seen.{tick_of}
use Rattle.tick_text.specs.Lines.{Tick, answer_mark, indent, node_text, way_note, number_note}
use Rattle.tick_text.proofs.NodeLines.{further, if_pushed}
use Rattle.std.proofs.lemmas.Result.{on_ok_weaker}
use Rattle.tick_text.proofs.seen_tick.SeenTick.push_line.Goals as goal

pub returns : goal.returns
returns c =
    let t : Tick = tick_of c.args.self.now in
    let p : Plain = plain c.args.node.now in
    let text : List ℕ = c.args.text.now.items in
    let one : List ℕ = c.push_answer.new.text.items in
    let two : List ℕ = c.push_number.new.text.items in
    let three : List ℕ = c.extend_from_slice.new.self.items in
    let four : List ℕ = c.push_indent.new.text.items in
    let five : List ℕ = c.push_node.new.text.items in
    let six : List ℕ = c.push_way_of.new.text.items in
    let seven : List ℕ = c.push_change.new.text.items in
    let all : List ℕ = c.extend_from_slice-2.new.self.items in
    let answer = c.answer-answer.ensures in
    let first = c.in_ok-push_answer.ensures ∙ ap (λ (o : Option Status). text ++ answer_mark o) answer in
    let way = c.in_ok-push_way_of.ensures ∙ ap (λ (o : Option Status). five ++ way_note t.view p o) answer in
    let change = c.in_ok-push_change.ensures ∙ ap (λ (k : ℕ). six ++ number_note k c.numbers-before.result.1) c.numbers-before.ensures.before ∙ ap (λ (k : ℕ). six ++ number_note (slice_index_or t.before c.args.number 0) k) c.numbers-before.ensures.after in
    let mark : List ℕ = answer_mark (slice_index_or t.answers c.args.number None) in
    let number : List ℕ = decimal c.args.number in
    let at : List ℕ = mark ++ codes " " ++ number ++ codes " " in
    let node : List ℕ = at ++ indent c.args.depth ++ node_text p in
    let note : List ℕ = way_note t.view p (slice_index_or t.answers c.args.number None) in
    let changed : List ℕ = number_note (slice_index_or t.before c.args.number 0) (slice_index_or t.after c.args.number 0) in
    let numbered : two ≡ text ++ (mark ++ codes " " ++ number) =
    further text mark one (codes " " ++ number) two first c.in_ok-push_number.ensures ∙ ap (λ l. text ++ l) (sym (append_assoc mark (codes " ") number)) in
    let spaced : three ≡ text ++ at = further text (mark ++ codes " " ++ number) two (codes " ") three numbered c.in_ok-extend_from_slice.ensures.items in
    let indented : four ≡ text ++ (at ++ indent c.args.depth) = further text at three (indent c.args.depth) four spaced c.in_ok-push_indent.ensures in
    let named : five ≡ text ++ node = further text (at ++ indent c.args.depth) four (node_text p) five indented c.in_ok-push_node.ensures in
    let noted : six ≡ text ++ (node ++ note) = further text node five note six named way in
    let whole : seven ≡ text ++ (node ++ note ++ changed) = further text (node ++ note) six changed seven noted change in
    on_ok_weaker c.extend_from_slice-2.result
    (further text (node ++ note ++ changed) seven (codes "\n") all whole)
    (if_pushed c.extend_from_slice-2.result seven (codes "\n") all c.extend_from_slice-2.ensures.items)
