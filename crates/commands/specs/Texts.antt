-- What is written of a level, and what two machines write of a game, to compare it.
use Rattle.std.specs.Prelude.{ℕ, List, ◌++◌, length, codes, decimal}
use Rattle.std.specs.List.{flat_map}
use Rattle.byte_streams.specs.Hex.{hex}
use Rattle.grid_world.specs.Map.{count_up}
use Rattle.game_session.specs.Parts.{Parts}
use Rattle.game_session.specs.Faults.{world_of}
use Rattle.game_rules.specs.Game.{Game, signals}
use Rattle.game_rules.specs.Play.{play}
use Rattle.stepping.specs.Digest.{digest_of}
use Rattle.stepping.specs.LevelDigest.{level_digest_of, script_digest_of}
use Rattle.stepping.specs.Played.{State}

-- the line that tells of a right level: its width and height, how many agents and trees it has
abbrev pub check_line : Parts → List ℕ
check_line level =
    codes "ok " ++ decimal (world_of level).width ++ codes " " ++ decimal (world_of level).height ++ codes " " ++ decimal (length (world_of level).agents)
    ++ codes " " ++ decimal (length level.trees) ++ codes "\n"

-- a game after a frame; the frame's signals stay until others are handed in
abbrev pub state_after : Game → ℕ → State
state_after g f = record {
  frame = f;
  world = (play g f).world;
  trees = g.trees;
  memories = (play g f).memories;
  signals = signals g.changes f;
}

-- a line that names a level and a script by the digits of their digests
abbrev pub named_line : (words level script : List ℕ) → List ℕ
named_line words level script = words ++ level ++ codes " script " ++ script ++ codes "\n"

abbrev pub digests_head : (level script : ℕ) → List ℕ
digests_head level script = named_line (codes "btworld digest 1 level ") (hex 16 level) (hex 16 script)

abbrev pub digest_line : ℕ → ℕ → List ℕ
digest_line f digest = decimal f ++ codes " " ++ hex 16 digest ++ codes "\n"

abbrev pub digest_lines : Game → ℕ → List ℕ
digest_lines g frames = flat_map (λ f. digest_line f (digest_of (state_after g f))) (count_up 1 frames)

-- the digests of level and script, and then that of the state after each of the frames 1 to `frames`
abbrev pub digests_text : Game → ℕ → List ℕ
digests_text g frames = digests_head (level_digest_of g) (script_digest_of g.changes) ++ digest_lines g frames
