use Rattle.std.proofs.Common.{◌≡◌, ◌∙◌, ℕ, refl, subst, sym, arith}
use Rattle.commands.specs.Opening.{IsSteppedTo}
use Rattle.commands.proofs.opening.step_all.Goals as goal

pub frames-init : goal.frames-init
frames-init c = record {
  within = omega (arith, c.requires);
  goes = λ g h. subst (λ (n : ℕ). IsSteppedTo g n c.args.game.now) (sym c.requires) h;
  trees = refl;
}

pub frames-preserved : goal.frames-preserved
frames-preserved c =
    let frame = c.in_ok-step.ensures.frame in
    record {
      within = omega (arith, c.frames-test.true, frame);
      goes = λ g h. subst (λ (n : ℕ). IsSteppedTo g n c.step.new.game) (sym frame) (c.in_ok-step.ensures.ok g (c.frames.invariant.goes g h));
      trees = c.in_ok-step.ensures.trees ∙ c.frames.invariant.trees;
    }

pub returns-clause-ok : goal.returns-clause-ok
returns-clause-ok c = λ g h.
    let at : c.frames.game.frame ≡ c.args.frames = omega (arith, c.frames-test.false, c.frames.invariant.within) in
    subst (λ (n : ℕ). IsSteppedTo g n c.frames.game) at (c.frames.invariant.goes g h)
