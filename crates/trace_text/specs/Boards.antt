-- The board whose events are shown: that of a play of a level, or one of jobs alone, which has up to 64 workers and any number of agents.
use Rattle.std.specs.Prelude.{ℕ, ◌+◌, ◌%◌, min, List, [], ◌∷◌, ◌++◌, codes, decimal}
use Rattle.trace_text.specs.declared.board.Board.{Board}
use Rattle.trace_text.specs.declared.board.Board.TheVariants.{Play, Jobs}

-- whose board it is
abbrev pub title_text : Board → List ℕ
title_text (Play workers) = codes "btworld"
title_text (Jobs workers agents) = codes "btjobs"

-- the workers whose lanes are named, though a log may tell of any number
abbrev pub workers_of : Board → ℕ
workers_of (Play workers) = workers
workers_of (Jobs workers agents) = min workers 64

-- the printer's thread, behind those of all workers that there can be
abbrev pub printer_of : Board → ℕ
printer_of (Play workers) = 17
printer_of (Jobs workers agents) = 65

-- how many numbers a frame has for what arrows join: one for its Logic, and one for each of its agents
abbrev pub joined_in : Board → ℕ
joined_in (Play workers) = 100
joined_in (Jobs workers agents) = agents + 1

abbrev pub letter : ℕ → List ℕ
letter agent = (65 + agent % 26) ∷ []

-- what an agent is called behind its frame
abbrev pub agent_text : Board → ℕ → List ℕ
agent_text (Play workers) agent = letter agent
agent_text (Jobs workers agents) agent = codes "." ++ decimal agent
