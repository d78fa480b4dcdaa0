use Rattle.std.proofs.Common.{ℕ, ◌+◌, ◌∙◌, ap, sym, subst, Some, None}
use Rattle.game_rules.specs.Game.{Game}
use Rattle.job_scheduler.specs.Numbers.{Numbers}
use Rattle.task_board.specs.Boards.{Played, IsTaken, IsTakeRefused}
use Rattle.run_shared.proofs.Counting.{taken_is}
use Rattle.run_shared.proofs.board.SharedBoard.take.Goals as goal

pub invariant_of-self-inside : goal.invariant_of-self-inside
invariant_of-self-inside g c =
    let taken : IsTaken c.self.inside.board c.take_leased.new.self c.args.worker (Some c.in-Ok-Some.task) = rw c.in-Ok-Some.field-0-is at c.in-Ok-Some.ensures.ok in
    let it = (taken_is c.self.inside.board c.take_leased.new.self c.args.worker c.in-Ok-Some.task taken).0 in (
      c.self.inside.game_is ∙ ap (λ (x : Game). Some x) (sym it.game),
      (
        c.self.inside.numbers_are ∙ ap (λ (x : Numbers). Some x) (sym it.numbers),
        (
          c.add.ensures.total ∙ ap (λ (n : ℕ). n + 1) c.self.inside.named_is ∙ sym it.named,
          (c.self.inside.emitted_is ∙ sym it.emitted, (c.self.inside.drawn_is ∙ sym it.drawn, tt)),
        ),
      ),
    )

pub returns-in-Ok-None-clause-taken : goal.returns-in-Ok-None-clause-taken
returns-in-Ok-None-clause-taken g c =
    let nothing : IsTaken c.self.inside.board c.take_leased.new.self c.args.worker None = rw c.in-Ok-None.field-0-is at c.in-Ok-None.ensures.ok in
    subst (λ (b : Played). IsTaken b c.take_leased.new.self c.args.worker None) c.self.view_is nothing

pub returns-in-Err-clause-refused : goal.returns-in-Err-clause-refused
returns-in-Err-clause-refused g c = subst (λ (b : Played). IsTakeRefused b c.args.worker c.in-Err.fault) c.self.view_is c.in-Err.ensures.refused
