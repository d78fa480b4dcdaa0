use Rattle.task_board.proofs.FrameStores.{first_is}
use Rattle.task_board.proofs.frame_store.FrameStore.new.Goals as goal

pub returns-clause-first : goal.returns-clause-first
returns-clause-first c = rw (c.in_ok-first.ensures, c.in_ok-new.ensures, c.in_ok-no_questions.ensures, c.in_ok-new-2.ensures, c.in_ok-no_turns.ensures) (first_is c.args.session.now c.args.slots c.args.agents c.requires.agents)
