use Rattle.commands.proofs.Untouched.{whole_is_part}
use Rattle.commands.proofs.Doing.{played, played_in_part, replayed, replayed_in_part, checked, checked_in_part, explained, digested, digested_in_part, told, told_in_part, why_told, why_told_in_part, completed, completed_in_part, recorded, recorded_in_part}
use Rattle.commands.proofs.program.command.Goals as goal

pub returns-in-Ok-play_input-clause-part : goal.returns-in-Ok-play_input-clause-part
returns-in-Ok-play_input-clause-part g c = λ e.
    whole_is_part (g.R.Read.remaining c.args.input.now) (g.W.Write.contents c.args.out.now) (g.W.Write.contents c.play_input.new.out) 3 c.in-Ok-play_input.ensures.ok

pub returns-in-Ok-clause-played : goal.returns-in-Ok-clause-played
returns-in-Ok-clause-played g c = λ n asks zero. played _ _ _ c.in-Ok.words c.in-Ok.ensures.reading n asks (c.act.ensures.done zero)

pub returns-in-Ok-clause-played_part : goal.returns-in-Ok-clause-played_part
returns-in-Ok-clause-played_part g c = λ n asks. played_in_part _ _ _ c.in-Ok.words c.in-Ok.ensures.reading n asks c.act.ensures.part

pub returns-in-Ok-clause-replayed : goal.returns-in-Ok-clause-replayed
returns-in-Ok-clause-replayed g c = λ asks zero. replayed _ _ _ c.in-Ok.words c.in-Ok.ensures.reading asks (c.act.ensures.done zero)

pub returns-in-Ok-clause-replayed_part : goal.returns-in-Ok-clause-replayed_part
returns-in-Ok-clause-replayed_part g c = λ asks. replayed_in_part _ _ _ c.in-Ok.words c.in-Ok.ensures.reading asks c.act.ensures.part

pub returns-in-Ok-clause-checked : goal.returns-in-Ok-clause-checked
returns-in-Ok-clause-checked g c = λ asks zero. checked _ _ _ c.in-Ok.words c.in-Ok.ensures.reading asks (c.act.ensures.done zero)

pub returns-in-Ok-clause-checked_part : goal.returns-in-Ok-clause-checked_part
returns-in-Ok-clause-checked_part g c = λ asks. checked_in_part _ _ _ c.in-Ok.words c.in-Ok.ensures.reading asks c.act.ensures.part

pub returns-in-Ok-clause-explained : goal.returns-in-Ok-clause-explained
returns-in-Ok-clause-explained g c = λ asks zero. explained _ _ _ c.in-Ok.words c.in-Ok.ensures.reading asks (c.act.ensures.done zero)

pub returns-in-Ok-clause-digests : goal.returns-in-Ok-clause-digests
returns-in-Ok-clause-digests g c = λ n asks zero. digested _ _ _ c.in-Ok.words c.in-Ok.ensures.reading n asks (c.act.ensures.done zero)

pub returns-in-Ok-clause-digests_part : goal.returns-in-Ok-clause-digests_part
returns-in-Ok-clause-digests_part g c = λ n asks. digested_in_part _ _ _ c.in-Ok.words c.in-Ok.ensures.reading n asks c.act.ensures.part

pub returns-in-Ok-clause-state : goal.returns-in-Ok-clause-state
returns-in-Ok-clause-state g c = λ n asks zero. told _ _ _ c.in-Ok.words c.in-Ok.ensures.reading n asks (c.act.ensures.done zero)

pub returns-in-Ok-clause-state_part : goal.returns-in-Ok-clause-state_part
returns-in-Ok-clause-state_part g c = λ n asks. told_in_part _ _ _ c.in-Ok.words c.in-Ok.ensures.reading n asks c.act.ensures.part

pub returns-in-Ok-clause-why : goal.returns-in-Ok-clause-why
returns-in-Ok-clause-why g c = λ n letter asks zero. why_told _ _ _ c.in-Ok.words c.in-Ok.ensures.reading n letter asks (c.act.ensures.done zero)

pub returns-in-Ok-clause-why_part : goal.returns-in-Ok-clause-why_part
returns-in-Ok-clause-why_part g c = λ n letter asks. why_told_in_part _ _ _ c.in-Ok.words c.in-Ok.ensures.reading n letter asks c.act.ensures.part

pub returns-in-Ok-clause-completed : goal.returns-in-Ok-clause-completed
returns-in-Ok-clause-completed g c = λ asks zero. completed _ _ _ c.in-Ok.words c.in-Ok.ensures.reading asks (c.act.ensures.done zero)

pub returns-in-Ok-clause-completed_part : goal.returns-in-Ok-clause-completed_part
returns-in-Ok-clause-completed_part g c = λ asks. completed_in_part _ _ _ c.in-Ok.words c.in-Ok.ensures.reading asks c.act.ensures.part

pub returns-in-Ok-clause-recorded : goal.returns-in-Ok-clause-recorded
returns-in-Ok-clause-recorded g c = λ n asks zero. recorded _ _ _ c.in-Ok.words c.in-Ok.ensures.reading n asks (c.act.ensures.done zero)

pub returns-in-Ok-clause-recorded_part : goal.returns-in-Ok-clause-recorded_part
returns-in-Ok-clause-recorded_part g c = λ n asks. recorded_in_part _ _ _ c.in-Ok.words c.in-Ok.ensures.reading n asks c.act.ensures.part
