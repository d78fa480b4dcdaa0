use Rattle.std.proofs.Common.{rules, ◌<◌, ◌++◌, [], ◌∷◌, List, ap, ◌∙◌, arith, set, get_or, length}
use Rattle.std.proofs.lemmas.List.Elements.{All-set}
use Rattle.band_mail.specs.declared.relay.PassLog.{PassLog}
use Rattle.band_mail.specs.Queues.{pass_name, queue_name}
use Rattle.band_mail.specs.Relay.{MayTake}
use Rattle.band_mail.proofs.Named.{as_many, same_name, at_place}
use Rattle.band_mail.proofs.Taken.{pass_names-set, all_taken-same, all_taken-more}
use Rattle.band_mail.proofs.queues.take_first.Goals as goal

pub take-requires-clause-pass : goal.take-requires-clause-pass
take-requires-clause-pass g c =
    let passes = c.loop-i.passes.items in
    let queues = c.args.queues.now.items in
    let names = c.loop-i.invariant.names ∙ c.requires.names in
    let low : c.loop-i.i < length passes = omega (arith, as_many pass_name queue_name passes queues names) in
    let at = c.index_mut-pass.ensures.value in (
      same_name pass_name queue_name passes queues c.loop-i.i _ _ names low at c.index-queue.ensures,
      (at_place MayTake passes c.loop-i.i _ c.loop-i.invariant.may low at).0,
    )

pub returns-in-Some-clause-names : goal.returns-in-Some-clause-names
returns-in-Some-clause-names g c =
    pass_names-set c.loop-i.passes.items c.loop-i.i c.take.new.pass _ c.index_mut-pass.ensures.value c.in-Some.ensures.pass.0 ∙ c.loop-i.invariant.names

pub returns-in-Some-clause-taken : goal.returns-in-Some-clause-taken
returns-in-Some-clause-taken g c =
    let low : c.loop-i.i < length c.loop-i.passes.items = omega (arith, as_many pass_name queue_name c.loop-i.passes.items c.args.queues.now.items (c.loop-i.invariant.names ∙ c.requires.names)) in
    let now = all_taken-more c.loop-i.passes.items c.loop-i.i c.take.new.pass _ c.in-Some.item low c.index_mut-pass.ensures.value (ap (λ (v : PassLog _). v.taken) c.in-Some.ensures.taken) in
    (search rules, now ∙ ap (λ (l : List (List _)). set l c.loop-i.i (get_or l c.loop-i.i [] ++ c.in-Some.item ∷ [])) c.loop-i.invariant.taken)

pub loop-i-preserved : goal.loop-i-preserved
loop-i-preserved g c =
    let passes = c.loop-i.passes.items in
    let i = c.loop-i.i in
    let was = c.loop-i.invariant in
    let at = c.index_mut-pass.ensures.value in
    let same = c.in_default.ensures.taken in
    let low : i < length passes = omega (arith, as_many pass_name queue_name passes c.args.queues.now.items (was.names ∙ c.requires.names)) in
    let may = at_place MayTake passes i _ was.may low at in
    record {
      names = pass_names-set passes i c.take.new.pass _ at c.in_default.ensures.pass.0 ∙ was.names;
      may = All-set MayTake passes i c.take.new.pass (c.in_default.ensures.pass.2 ∙ may.0, ap (λ (v : PassLog _). v.takes) same ∙ may.1) was.may;
      taken = all_taken-same passes i c.take.new.pass _ at same ∙ was.taken;
    }
