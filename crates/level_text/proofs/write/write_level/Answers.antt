use Rattle.std.proofs.Common.{◌≡◌, ◌≤◌, ◌∙◌, ap, sym, subst}
use Rattle.serde_json.specs.Data.{depth}
use Rattle.serde_json.specs.View.{view}
use Rattle.serde_json.specs.Written.{has_float, compact_text}
use Rattle.game_session.specs.Levels.{value_of}
use Rattle.level_text.specs.Levels.{of_json, level_of}
use Rattle.level_text.specs.Written.{level_data}
use Rattle.game_session.proofs.Faultless.{faultless}
use Rattle.game_session.proofs.LevelsKept.{level_is_faultless}
use Rattle.level_text.proofs.JsonBytes.{json_is}
use Rattle.level_text.proofs.LevelsSpelled.{level_of-level_data, nesting-level_data, has_float-level_data}
use Rattle.level_text.proofs.write.write_level.Goals as goal

pub returns-clause-text : goal.returns-clause-text
returns-clause-text c =
    let parts = value_of c.args.level.now in
    let seen : view c.in_ok-value.value ≡ level_data parts = c.in_ok-value.ensures.value in
    c.in_ok-bytes.ensures.text (ap has_float seen ∙ has_float-level_data parts) ∙ ap compact_text seen

pub returns-clause-reads_back : goal.returns-clause-reads_back
returns-clause-reads_back c =
    let level = c.args.level.now in
    let parts = value_of level in
    let seen : view c.in_ok-value.value ≡ level_data parts = c.in_ok-value.ensures.value in
    let shallow : depth (view c.in_ok-value.value) ≤ 127 = subst (λ d. depth d ≤ 127) (sym seen) (nesting-level_data parts (faultless parts (level_is_faultless level)).limits) in
    ap of_json (json_is c.in_ok-bytes.bytes.items (view c.in_ok-value.value) c.in_ok-bytes.ensures.utf8 (c.in_ok-bytes.ensures.reads_back shallow))
    ∙ ap level_of seen ∙ level_of-level_data parts (level_is_faultless level) c.in_ok-value.ensures.marks
