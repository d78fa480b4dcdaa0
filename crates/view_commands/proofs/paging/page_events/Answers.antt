use Rattle.std.proofs.Common.{◌∙◌, inl, inr, refl}
use Rattle.command_line.proofs.Statuses.{on_err}
use Rattle.view_commands.proofs.Paged.{all_page, first_page, said, whole_page}
use Rattle.view_commands.proofs.Traced.{on_ok_map}
use Rattle.view_commands.proofs.paging.page_events.Goals as goal

pub page_text-requires : goal.page_text-requires
page_text-requires g c = c.in-Ok.ensures.within

pub returns-in-Err-clause-fault : goal.returns-in-Err-clause-fault
returns-in-Err-clause-fault g c = λ log reading. inr (c.args.settings, c.args.events.now, reading, inl refl)

pub returns-in-Err-page_text-clause-fault : goal.returns-in-Err-page_text-clause-fault
returns-in-Err-page_text-clause-fault g c = λ log reading. inr (c.args.settings, c.args.events.now, reading, inl refl)

pub returns-in-Err-put-clause-part : goal.returns-in-Err-put-clause-part
returns-in-Err-put-clause-part g c = λ log reading.
    first_page c.args.session.now log c.args.settings c.args.events.now c.in-Ok.filmed
    c.args.sources.now c.args.frames reading c.in-Ok.ensures c.deref.result.now
    (c.deref.ensures.value ∙ c.in-Ok-page_text.ensures) (g.W.Write.contents c.args.out.now) (g.W.Write.contents c.put.new.out) c.in-Err-put.ensures.err

pub returns-in-Err-put-clause-fault : goal.returns-in-Err-put-clause-fault
returns-in-Err-put-clause-fault g c = λ log reading. inr (c.args.settings, c.args.events.now, reading, inr (inl c.in-Err-put.ensures.fault))

pub returns-clause-ok : goal.returns-clause-ok
returns-clause-ok g c = λ log reading.
    on_ok_map c.said_of.result _ _
    (whole_page c.args.session.now log c.args.settings c.args.events.now c.in-Ok.filmed
    c.args.sources.now c.args.frames reading c.in-Ok.ensures c.deref.result.now
    (c.deref.ensures.value ∙ c.in-Ok-page_text.ensures) (g.W.Write.contents c.args.out.now) (g.W.Write.contents c.put.new.out) c.in-Ok-put.ensures.ok)
    c.said_of.ensures.whole

pub returns-clause-part : goal.returns-clause-part
returns-clause-part g c = λ log reading.
    on_err c.said_of.result _
    (all_page c.args.session.now log c.args.settings c.args.events.now c.in-Ok.filmed
    c.args.sources.now c.args.frames reading c.in-Ok.ensures c.deref.result.now
    (c.deref.ensures.value ∙ c.in-Ok-page_text.ensures) (g.W.Write.contents c.args.out.now) (g.W.Write.contents c.put.new.out) c.in-Ok-put.ensures.ok)

pub returns-clause-fault : goal.returns-clause-fault
returns-clause-fault g c = λ log reading.
    said c.args.session.now log c.args.settings c.args.events.now c.in-Ok.filmed
    c.args.sources.now c.args.frames reading c.in-Ok.ensures c.said_of.result
    c.said_of.ensures.fault
