use Rattle.command_line.proofs.Statuses.{on_err_map}
use Rattle.std.proofs.Common.{List, ℕ, subst}
use Rattle.std.specs.Prelude.{IsSomeAnd, MatchOption, string_bytes}
use Rattle.std.specs.Io.KnownBytes.{Appends, Keeps}
use Rattle.byte_streams.specs.Streams.{AppendsPart}
use Rattle.level_text.specs.Games.{spelled_game}
use Rattle.commands.specs.Why.{agent_of_letter, why_text}
use Rattle.commands.proofs.Written.{on_ok_map, some_part, is_script}
use Rattle.commands.proofs.why.why_files.Goals as goal

pub returns-clause-ok : goal.returns-clause-ok
returns-clause-ok g c =
    let old = g.W.Write.contents c.args.out.now in
    let new = g.W.Write.contents c.why_bytes.new.out in
    on_ok_map c.why_bytes.result _ _
    (λ h. (c.deref.result.now, c.deref-2.result.now, (is_script c.args.script _ c.in_ok-script.script.items c.in_ok-script.ensures.none c.deref-2.ensures.value), subst (λ (l : List ℕ). IsSomeAnd (spelled_game c.deref.result.now c.deref-2.result.now) (λ g'. Appends old new (why_text g' c.args.frame (agent_of_letter l)))) c.as_str.ensures.value h))
    c.why_bytes.ensures.ok

pub returns-clause-part : goal.returns-clause-part
returns-clause-part g c =
    let old = g.W.Write.contents c.args.out.now in
    let new = g.W.Write.contents c.why_bytes.new.out in
    on_err_map c.why_bytes.result _ _
    (λ h. some_part (λ g'. why_text g' c.args.frame (agent_of_letter (string_bytes c.args.agent))) old new _ c.deref.result.now c.deref-2.result.now
    (is_script c.args.script _ c.in_ok-script.script.items c.in_ok-script.ensures.none c.deref-2.ensures.value)
    (subst (λ (l : List ℕ). MatchOption (spelled_game c.deref.result.now c.deref-2.result.now) (Keeps old new) (λ g'. AppendsPart old new (why_text g' c.args.frame (agent_of_letter l)))) c.as_str.ensures.value h))
    c.why_bytes.ensures.part
