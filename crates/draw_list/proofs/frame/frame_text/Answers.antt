use Rattle.std.proofs.Common.{◌∙◌, ap, ap₂, ◌++◌, codes, decimal}
use Rattle.game_rules.specs.Text.{agents_text}
use Rattle.draw_list.specs.Bands.{gap_from}
use Rattle.draw_list.proofs.Joined.{written, not_gap}
use Rattle.draw_list.proofs.frame.frame_text.Goals as goal

pub returns-in-Some-clause-drawn : goal.returns-in-Some-clause-drawn
returns-in-Some-clause-drawn c = λ on h. absurd (not_gap c.args.world.now on c.args.bands.now c.in-Some.band h
    (c.in-Some.ensures ∙ ap₂ (λ width height. gap_from width height 0 c.args.bands.now) c.width-width.ensures.value c.height-height.ensures.value))

pub returns-clause-drawn : goal.returns-clause-drawn
returns-clause-drawn c = λ on h.
    written c.args.world.now on (codes "frame " ++ decimal c.args.frame ++ codes "\n") (agents_text 0 c.args.world.now.agents c.args.statuses.now)
    c.in_ok-written.written.items c.push_frame_line.new.text.items c.push_rows.new.text.items c.push_agent_lines.new.text.items c.args.bands.now
    c.in_ok-written.ensures.items c.in_ok-push_frame_line.ensures c.in_ok-push_rows.ensures
    (c.in_ok-push_agent_lines.ensures ∙ ap (λ a. c.push_rows.new.text.items ++ agents_text 0 a c.args.statuses.now) c.agents.ensures.value) h
