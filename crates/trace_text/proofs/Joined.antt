-- A number of what arrows join says its frame and its agent.
use Rattle.std.proofs.Common.{◌≡◌, ◌≤◌, ◌<◌, ◌+◌, ◌*◌, ◌∙◌, ℕ, Option, Some, None, sym, arith}
use Rattle.std.proofs.lemmas.Nat.{same_from_place}
use Rattle.job_core.specs.Names.{frame_of}
use Rattle.job_core.specs.declared.names.JobName.{JobName}
use Rattle.job_core.specs.declared.names.JobName.TheVariants.{Logic, Think, Path, Draw}
use Rattle.trace_text.specs.declared.board.Board.{Board}
use Rattle.trace_text.specs.declared.board.Board.TheVariants.{Play, Jobs}
use Rattle.trace_text.specs.Boards.{joined_in}
use Rattle.trace_text.specs.Jobs.{joined_by}
use Rattle.trace_text.specs.Laws.{IsOf, agent_in, agents_of}

abbrev some : ℕ → Option ℕ
some n = Some n

of_logic : (x n : ℕ) → some x ≡ some n → n ≡ x + 0
of_logic x n e = let same : x ≡ n = cc in omega (arith, same)

of_think : (x agent n : ℕ) → some (x + agent + 1) ≡ some n → n ≡ x + (agent + 1)
of_think x agent n e = let same : x + agent + 1 ≡ n = cc in omega (arith, same)

number : (board : Board) (job : JobName) (n : ℕ) → joined_by board job ≡ Some n → n ≡ frame_of job * joined_in board + agent_in job
number board (Logic frame) n e = of_logic (frame * joined_in board) n e
number board (Think frame agent) n e = of_think (frame * joined_in board) agent n e
number board (Path frame agent question) n e = of_think (frame * joined_in board) agent n e
number board (Draw frame band) n e = absurd cc

below : (board : Board) (agent : ℕ) → agent ≤ agents_of board → agent < joined_in board
below (Play workers) agent most = omega (arith, most)
below (Jobs workers agents) agent most = omega (arith, most)

pub one_logic_or_think : (board : Board) (one other : JobName) (n : ℕ) → IsOf board one → IsOf board other → joined_by board one ≡ Some n → joined_by board other ≡ Some n
    → (frame_of one ≡ frame_of other) × (agent_in one ≡ agent_in other)
one_logic_or_think board one other n p q e f =
    same_from_place (frame_of one) (agent_in one) (frame_of other) (agent_in other) (joined_in board) (below board (agent_in one) p) (below board (agent_in other) q)
    (sym (number board one n e) ∙ number board other n f)
