use Rattle.command_line.proofs.Statuses.{on_err_map}
use Rattle.commands.specs.Texts.{digests_text}
use Rattle.commands.proofs.Written.{on_ok_map, some_part, is_script}
use Rattle.commands.proofs.digests.digest_files.Goals as goal

pub returns-clause-ok : goal.returns-clause-ok
returns-clause-ok g c = on_ok_map c.digest_bytes.result _ _ (λ h. (c.deref.result.now, c.deref-2.result.now, (is_script c.args.script _ c.in_ok-script.script.items c.in_ok-script.ensures.none c.deref-2.ensures.value), h)) c.digest_bytes.ensures.ok

pub returns-clause-part : goal.returns-clause-part
returns-clause-part g c =
    on_err_map c.digest_bytes.result _ _ (some_part (λ g'. digests_text g' c.args.frames) _ _ _ c.deref.result.now c.deref-2.result.now
    (is_script c.args.script _ c.in_ok-script.script.items c.in_ok-script.ensures.none c.deref-2.ensures.value)) c.digest_bytes.ensures.part
