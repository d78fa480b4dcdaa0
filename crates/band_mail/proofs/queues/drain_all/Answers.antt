use Rattle.std.proofs.Common.{◌≡◌, ◌+◌, ◌*◌, ◌++◌, [], ◌∷◌, List, refl, arith, ap, sym, ◌∙◌, get_or, length, vec_len, add-mul, one-mul, subst, append_assoc}
use Rattle.std.proofs.lemmas.List.{append-nil, get_or-map, length-map}
use Rattle.std.proofs.lemmas.List.Elements.{All-set}
use Rattle.crossbeam_queue.specs.Passes.{view, ruled_capacity}
use Rattle.band_mail.specs.Mails.{Putting, of_worker}
use Rattle.band_mail.specs.Queues.{pass_name, queue_name, queue_names, all_taken, taken_by}
use Rattle.band_mail.specs.Relay.{MayTake}
use Rattle.band_mail.proofs.Named.{as_many, same_name, at_place}
use Rattle.band_mail.proofs.Taken.{pass_names-set, all_taken-other}
use Rattle.band_mail.proofs.AnyOrder.{AreDrained, one_more, delivered}
use Rattle.band_mail.proofs.Popped.{is_next}
use Rattle.band_mail.proofs.queues.drain_all.Goals as goal

nothing : {X : Type 0} (xs : List X) → length xs ≡ 0 → xs ≡ []
nothing [] e = refl
nothing (x ∷ xs) e = absurd (omega (arith, e))

pub loop-putter-init : goal.loop-putter-init
loop-putter-init g c =
    let queues = c.args.queues.now.items in
    let named : length (queue_names queues) ≡ length queues = length-map queues queue_name in
    let many : vec_len c.args.putters ≡ vec_len c.args.queues.now = omega (arith, c.requires.putters.many, named, c.args.putters.ok.0, c.args.queues.now.ok.0) in
    let room : vec_len c.args.putters * c.args.capacity ≡ vec_len c.args.queues.now * c.args.capacity = ap (λ n. n * c.args.capacity) many in
    record {
      names = refl;
      may = c.requires.may;
      room = omega (arith, c.requires.room.1, room, ap length c.requires.room.0, c.args.into.now.ok.0);
      drained = ([], sym (append-nil c.args.putters.items), record { others = λ w none. (ap (of_worker w) c.requires.room.0, refl); these = λ w one. absurd (omega (arith, one)) });
    }

pub index-queue-requires : goal.index-queue-requires
index-queue-requires g c =
    let next = is_next c.args.queues.now.items c.loop-putter.passes.items c.requires.putters (c.loop-putter.invariant.names ∙ c.requires.passes) c.loop-putter.invariant.drained.1 c.in-Some.ensures.items c.putter.view_is in
    omega (arith, next.queued, c.args.queues.now.ok.0)

pub index_mut-pass-requires : goal.index_mut-pass-requires
index_mut-pass-requires g c =
    let next = is_next c.args.queues.now.items c.loop-putter.passes.items c.requires.putters (c.loop-putter.invariant.names ∙ c.requires.passes) c.loop-putter.invariant.drained.1 c.in-Some.ensures.items c.putter.view_is in
    omega (arith, next.passed, c.loop-putter.passes.ok.0)

pub drain-requires-clause-passes : goal.drain-requires-clause-passes
drain-requires-clause-passes g c =
    let next = is_next c.args.queues.now.items c.loop-putter.passes.items c.requires.putters (c.loop-putter.invariant.names ∙ c.requires.passes) c.loop-putter.invariant.drained.1 c.in-Some.ensures.items c.putter.view_is in
    let at = c.index_mut-pass.ensures.value in
    let theirs = same_name pass_name queue_name c.loop-putter.passes.items c.args.queues.now.items c.putter.inside.worker _ _ (c.loop-putter.invariant.names ∙ c.requires.passes) next.passed at c.index-queue.ensures in
    ((theirs, (at_place MayTake c.loop-putter.passes.items c.putter.inside.worker _ c.loop-putter.invariant.may next.passed at).0), (next.puts c.index-queue.result.now c.index-queue.ensures, c.putter.invariant.0))

pub drain-requires-clause-may : goal.drain-requires-clause-may
drain-requires-clause-may g c =
    let next = is_next c.args.queues.now.items c.loop-putter.passes.items c.requires.putters (c.loop-putter.invariant.names ∙ c.requires.passes) c.loop-putter.invariant.drained.1 c.in-Some.ensures.items c.putter.view_is in
    ((at_place MayTake c.loop-putter.passes.items c.putter.inside.worker _ c.loop-putter.invariant.may next.passed c.index_mut-pass.ensures.value).1, c.putter.invariant.1)

pub drain-requires-clause-room : goal.drain-requires-clause-room
drain-requires-clause-room g c =
    let next = is_next c.args.queues.now.items c.loop-putter.passes.items c.requires.putters (c.loop-putter.invariant.names ∙ c.requires.passes) c.loop-putter.invariant.drained.1 c.in-Some.ensures.items c.putter.view_is in
    let cap = c.args.capacity in
    let m = vec_len c.pop.new.self in
    let fits : ruled_capacity c.index-queue.result.now ≡ cap = at_place (λ q. ruled_capacity q ≡ cap) c.args.queues.now.items c.putter.inside.worker _ c.requires.capacity next.queued c.index-queue.ensures in
    let more : vec_len c.loop-putter.putters * cap ≡ m * cap + cap = ap (λ n. n * cap) (sym c.in-Some.ensures.cases) ∙ add-mul m 1 cap ∙ ap (λ n. m * cap + n) (one-mul cap) in
    omega (arith, c.loop-putter.invariant.room, more, fits)

pub loop-putter-preserved : goal.loop-putter-preserved
loop-putter-preserved g c =
    let next = is_next c.args.queues.now.items c.loop-putter.passes.items c.requires.putters (c.loop-putter.invariant.names ∙ c.requires.passes) c.loop-putter.invariant.drained.1 c.in-Some.ensures.items c.putter.view_is in
    let passes = c.loop-putter.passes.items in
    let inv = c.loop-putter.invariant in
    let cap = c.args.capacity in
    let m = vec_len c.pop.new.self in
    let w = c.putter.inside.worker in
    let x : Putting _ = record { worker = w; queue = c.putter.inside.pass.table_id; put = (view c.putter.inside.pass).put } in
    let at = c.index_mut-pass.ensures.value in
    let may = at_place MayTake passes w _ inv.may next.passed at in
    let fits : ruled_capacity c.index-queue.result.now ≡ cap = at_place (λ q. ruled_capacity q ≡ cap) c.args.queues.now.items w _ c.requires.capacity next.queued c.index-queue.ensures in
    let more : vec_len c.loop-putter.putters * cap ≡ m * cap + cap = ap (λ n. n * cap) (sym c.in-Some.ensures.cases) ∙ add-mul m 1 cap ∙ ap (λ n. m * cap + n) (one-mul cap) in
    let rest = c.drain.ensures.left in
    let taken : taken_by c.index_mut-pass.result.now ≡ get_or (all_taken passes) w [] = ap taken_by at ∙ sym (get_or-map taken_by passes w c.index_mut-pass.result.now [] next.passed) in
    record {
      names = pass_names-set passes w c.drain.new.pass _ at c.drain.ensures.pass.0.0 ∙ inv.names;
      may = All-set MayTake passes w c.drain.new.pass (c.drain.ensures.pass.0.2 ∙ may.0, c.drain.ensures.pass.1) inv.may;
      room = omega (arith, inv.room, more, fits, c.drain.ensures.room);
      drained = (
        x ∷ inv.drained.0,
        next.split ∙ append_assoc c.pop.new.self.items (x ∷ []) inv.drained.0,
        rw rest.1
            (one_more (all_taken c.args.passes.items) (all_taken passes) _ inv.drained.0 c.loop-putter.into.items x rest.0 inv.drained.2 next.new
            (rest.2 ∙ ap (λ l. l ++ rest.0) taken) (λ k apart. all_taken-other passes w k c.drain.new.pass apart)),
      );
    }

pub returns : goal.returns
returns g c =
    let queues = c.args.queues.now.items in
    let inv = c.loop-putter.invariant in
    let none = nothing c.loop-putter.putters.items (omega (arith, c.in_default.ensures.cases, c.loop-putter.putters.ok.0)) in
    let all = inv.drained.1 ∙ ap (λ l. l ++ inv.drained.0) none in
    let before = all_taken c.args.passes.items in
    let now = all_taken c.loop-putter.passes.items in
    let into = c.loop-putter.into.items in
    let named : length (queue_names queues) ≡ length queues = length-map queues queue_name in
    let taken : length before ≡ length c.args.passes.items = length-map c.args.passes.items taken_by in
    let second : length c.args.passes.items ≡ length queues = as_many pass_name queue_name c.args.passes.items queues c.requires.passes in
    delivered (queue_names queues) before now c.args.putters.items into c.requires.putters (taken ∙ second ∙ sym named)
    (subst (λ l. AreDrained before now l into) (sym all) inv.drained.2)
