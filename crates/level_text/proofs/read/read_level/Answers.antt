use Rattle.std.proofs.Common.{◌≡◌, ap, sym, subst, IsTrue, true≢false, Ok, IfOk, IfErr}
use Rattle.serde_json.specs.View.{view}
use Rattle.game_session.specs.Levels.{value_of}
use Rattle.level_text.specs.Levels.{of_json, IsFaultOf}
use Rattle.level_text.proofs.JsonBytes.{json_is, no_json}
use Rattle.level_text.proofs.read.read_level.Goals as goal

pub returns-in-Ok-clause-ok : goal.returns-in-Ok-clause-ok
returns-in-Ok-clause-ok c =
    subst (λ right. IfOk c.level_of.result (λ level. right ≡ Ok (value_of level)))
    (sym (ap of_json (json_is c.args.bytes.now (view c.in-Ok.value) c.in-Ok.ensures.ok.0 c.in-Ok.ensures.ok.1))) c.level_of.ensures.ok

pub returns-in-Ok-clause-err : goal.returns-in-Ok-clause-err
returns-in-Ok-clause-err c =
    subst (λ right. IfErr c.level_of.result (IsFaultOf right))
    (sym (ap of_json (json_is c.args.bytes.now (view c.in-Ok.value) c.in-Ok.ensures.ok.0 c.in-Ok.ensures.ok.1))) c.level_of.ensures.err

pub returns-else-is_memory-clause-err : goal.returns-else-is_memory-clause-err
returns-else-is_memory-clause-err c =
    ap of_json (no_json c.args.bytes.now (c.in-Err.ensures.err (λ m. true≢false (sym (subst (λ b. IsTrue b) c.if-is_memory.false (c.is_memory.ensures.1 m))))))
