use Rattle.std.proofs.Common.{rules, ◌∙◌}
use Rattle.task_board.specs.Setups.{setup_for}
use Rattle.play_run.specs.Reports.{AreStepsOf, AreBandsOf}
use Rattle.play_run.proofs.Once.{runs_once}
use Rattle.play_run.proofs.Sums.{sum_steps, sum_bands, sum_drawn}
use Rattle.play_run.proofs.report.report_on.Goals as goal

pub returns-clause-played : goal.returns-clause-played
returns-clause-played g c old new wrote =
    let setup = setup_for c.args.session.now c.args.settings in
    let events = c.in-Some.events.items in
    let complete = c.in-Some.ensures.complete c.args.session.now c.args.settings c.requires.run.0 c.requires.run.1 in
    let steps : AreStepsOf c.args.settings.workers events c.in-Ok.steps.items = search rules in
    let bands : AreBandsOf c.args.settings.workers events c.in-Ok-of_all.bands.items = search rules in
    record {
      text = wrote;
      frames = search rules;
      complete = complete;
      once = runs_once setup events complete;
      steps = steps;
      total = sum_steps setup events c.in-Ok.steps.items complete.0 steps;
      bands = bands;
      band_total = sum_bands setup events c.in-Ok-of_all.bands.items complete bands;
    }

pub returns-clause-shares : goal.returns-clause-shares
returns-clause-shares g c =
    let setup = setup_for c.args.session.now c.args.settings in
    let events = c.in-Some.events.items in
    let legal = (c.in-Some.ensures.complete c.args.session.now c.args.settings c.requires.run.0 c.requires.run.1).0 in
    let steps : AreStepsOf c.args.settings.workers events c.in-Ok.steps.items = search rules in
    let bands : AreBandsOf c.args.settings.workers events c.in-Ok-of_all.bands.items = search rules in
    (sum_steps setup events c.in-Ok.steps.items legal steps ∙ c.in-Some.ensures.named, sum_drawn setup events c.in-Ok-of_all.bands.items legal bands ∙ c.in-Some.ensures.drawn)
