use Rattle.command_line.proofs.Statuses.{on_err_map}
use Rattle.view_commands.proofs.Paged.{page_of_some}
use Rattle.view_commands.proofs.paging.page_files.Goals as goal

pub returns-clause-part : goal.returns-clause-part
returns-clause-part g c =
    on_err_map c.page_bytes.result _ _
    (page_of_some (g.W.Write.contents c.args.out.now) (g.W.Write.contents c.page_bytes.new.out)
    (record { name = c.as_bytes.result.now; level = c.deref.result.now; script = c.deref-2.result.now; live = c.deref-3.result.now }) c.args.frames c.in_ok-log.log.items)
    c.page_bytes.ensures.part
