use Rattle.std.proofs.Common.{refl}
use Rattle.task_board.proofs.frame_store.FrameStore.keep.Goals as goal

pub turned-requires-clause-free : goal.turned-requires-clause-free
turned-requires-clause-free c = rw c.in-Turned.is at c.requires.wanted

pub answer-requires-clause-asked : goal.answer-requires-clause-asked
answer-requires-clause-asked c = rw (c.learn.ensures.frame_store, c.learn.ensures.way) (rw c.in-Way.is at c.requires.wanted)

pub returns-in-Turned : goal.returns-in-Turned
returns-in-Turned c = λ st w. rw c.in-Turned.is (c.turned.ensures st w)

pub returns-in-Way : goal.returns-in-Way
returns-in-Way c = λ st w. rw c.in-Way.is (rw (c.learn.ensures.frame_store, c.learn.ensures.way) at (c.answer.ensures st w))

pub returns-in-Drawn : goal.returns-in-Drawn
returns-in-Drawn c = λ st w. rw c.in-Drawn.is refl
