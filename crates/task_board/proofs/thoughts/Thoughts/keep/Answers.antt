use Rattle.std.proofs.Common.{rules, ◌≡◌, nat_lt, map, subst, sym, ap, ◌∙◌, arith}
use Rattle.std.specs.List.{insert, position_or_len}
use Rattle.frame_state.specs.Names.{PartOf}
use Rattle.task_board.specs.Parts.{AreInOrder, AreOfGame}
use Rattle.task_board.specs.FrameStore.{part_name}
use Rattle.task_board.proofs.PartOrder.{place_within, of_game_put, put_at, in_order_put}
use Rattle.task_board.proofs.thoughts.Thoughts.keep.Goals as goal

pub put_at-requires-clause-place : goal.put_at-requires-clause-place
put_at-requires-clause-place c =
    let within = place_within (λ (x : PartOf). nat_lt c.agent.result x.number) c.deref.result.now in
    omega (arith, c.place_for-at.ensures, within, c.deref.ensures.len)

pub invariant_of-self : goal.invariant_of-self
invariant_of-self c =
    let at : c.place_for-at.result ≡ position_or_len (λ (x : PartOf). nat_lt c.args.thought.number x.number) c.self.inside.all.items =
    c.place_for-at.ensures ∙ ap (λ n. position_or_len (λ (x : PartOf). nat_lt n x.number) c.deref.result.now) c.agent.ensures
    ∙ ap (position_or_len (λ (x : PartOf). nat_lt c.args.thought.number x.number)) c.deref.ensures.value in
    let put = c.put_at.ensures.items ∙ ap (λ i. insert c.self.inside.all.items i c.args.thought) at in
    let game = rw (← c.self.view_is) at c.requires.game in
    (subst (AreOfGame c.self.inside.session.now) (sym put) (of_game_put c.self.inside.session.now c.args.thought c.self.inside.all.items _ game c.self.invariant.0), subst AreInOrder (sym put) (in_order_put c.args.thought c.self.inside.all.items c.self.invariant.1), search rules, c.self.invariant.3)

pub returns : goal.returns
returns c =
    let at : c.place_for-at.result ≡ position_or_len (λ (x : PartOf). nat_lt c.args.thought.number x.number) c.self.inside.all.items =
    c.place_for-at.ensures ∙ ap (λ n. position_or_len (λ (x : PartOf). nat_lt n x.number) c.deref.result.now) c.agent.ensures
    ∙ ap (position_or_len (λ (x : PartOf). nat_lt c.args.thought.number x.number)) c.deref.ensures.value in
    let put = ap (map part_name) c.put_at.ensures.items ∙ put_at c.args.thought c.self.inside.all.items c.place_for-at.result at in
    rw (← c.self.view_is) (ap (λ l. record { game = c.self.inside.session.now; parts = l }) put)
