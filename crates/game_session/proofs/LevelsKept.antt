-- What holds of the parts of each level.
use Rattle.std.proofs.Common.{◌≡◌, None}
use Rattle.game_session.specs.Faults.{parts_fault}
use Rattle.game_session.specs.Levels.{value_of}
use Rattle.game_session.specs.declared.level.Level.{Level}

pub level_is_faultless : (level : Level) → parts_fault (value_of level) ≡ None
level_is_faultless level = level.faultless
