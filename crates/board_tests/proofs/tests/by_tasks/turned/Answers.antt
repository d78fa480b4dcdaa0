use Rattle.std.proofs.Common.{ℕ, ◌≡◌, ◌∷◌, [], ◌∙◌, ap, sym, subst, map}
use Rattle.grid_world.specs.Map.{count_up}
use Rattle.frame_state.specs.Names.{PartOf, QuestionOf, part_of}
use Rattle.board_tests.proofs.tests.by_tasks.turned.Goals as goal

-- one agent, so one thought
pub turns-requires : goal.turns-requires
unfolding count_up
turns-requires c =
    let g = c.args.params.now.game in
    let f = c.args.params.now.frame in
    let thought = c.in_ok-thought.thought in
    let is : thought ≡ part_of g f 0 = c.in_ok-thought.ensures ∙ ap (λ (p : QuestionOf). part_of g f p.agent) c.in_ok-parked.ensures in
    subst (λ (n : ℕ). thought ∷ [] ≡ map (part_of g f) (count_up 0 n)) (sym c.requires) (ap (λ (x : PartOf). x ∷ []) is)
