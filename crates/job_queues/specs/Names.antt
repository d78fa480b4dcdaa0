-- The code's priorities and picks as the law of the board has them.
use Rattle.std.specs.Prelude.{List}
use Rattle.job_core.specs.declared.names.Priority.{Priority as CodePriority}
use Rattle.job_core.specs.declared.names.Priority.TheVariants as code
use Rattle.job_queues.specs.declared.pick.Pick.{Pick as CodePick}
use Rattle.job_queues.specs.declared.pick.Pick.TheVariants as pick
use Rattle.board_model.specs.Lists.{Priority, High, Normal, Low, Three}
use Rattle.board_model.specs.Pick.{Pick, Ready, New}

abbrev pub level : CodePriority → Priority
level code.High = High
level code.Normal = Normal
level code.Low = Low

abbrev pub picked : CodePick → Pick
picked (pick.Ready fiber) = Ready fiber
picked (pick.New job) = New job

-- the list of a priority
abbrev pub of_level : {X : Type 0} → CodePriority → Three X → List X
of_level code.High t = t.high
of_level code.Normal t = t.normal
of_level code.Low t = t.low
