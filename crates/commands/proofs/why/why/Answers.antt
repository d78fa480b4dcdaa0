use Rattle.std.proofs.Common.{◌≡◌, ◌∙◌, ◌<◌, ◌≤◌, inr, refl, ap, subst, length, arith, ℕ, List, Bool, Option}
use Rattle.std.specs.Prelude.{IsSomeAnd, unwrap_or}
use Rattle.game_rules.specs.Game.{Game}
use Rattle.level_text.specs.Games.{spelled_game}
use Rattle.stepping.specs.Played.{Played}
use Rattle.tick_text.specs.Text.{IsNextTickText}
use Rattle.commands.specs.Why.{HasAgent, agent_of_letter, why_text}
use Rattle.commands.proofs.WhyTold.{has_agent, has_no_agent, no_tick, why_is}
use Rattle.commands.proofs.why.why.Goals as goal

pub returns-then-agent-agents-clause-fault : goal.returns-then-agent-agents-clause-fault
returns-then-agent-agents-clause-fault c =
    let game : Option Game = spelled_game c.args.level.now c.args.script.now in
    let same : c.unwrap_or-agent.result ≡ agent_of_letter c.args.letter.now = c.unwrap_or-agent.ensures ∙ ap (λ (o : Option ℕ). unwrap_or o 26) c.mark_in.ensures in
    let none : length c.in_ok-opened.opened.game.game.trees ≤ c.unwrap_or-agent.result =
    omega (arith, c.if-agent-agents.true, ap length c.agents.ensures.value, c.world.ensures.agents) in
    let there = has_no_agent game c.in_ok-opened.opened.game c.unwrap_or-agent.result c.in_ok-opened.ensures.game none in
    inr (inr (refl, subst (λ (a : ℕ). IsSomeAnd game (λ g. length g.trees ≤ a)) same there))

pub returns-then-frame-eq0-clause-ok : goal.returns-then-frame-eq0-clause-ok
returns-then-frame-eq0-clause-ok c =
    no_tick (spelled_game c.args.level.now c.args.script.now) c.in_ok-opened.opened.game c.args.frame (agent_of_letter c.args.letter.now) c.new.result.items
    c.if-frame-eq0.true c.in_ok-opened.ensures.game c.new.ensures.items

pub returns-then-frame-eq0-clause-agent : goal.returns-then-frame-eq0-clause-agent
returns-then-frame-eq0-clause-agent c =
    let game : Option Game = spelled_game c.args.level.now c.args.script.now in
    let same : c.unwrap_or-agent.result ≡ agent_of_letter c.args.letter.now = c.unwrap_or-agent.ensures ∙ ap (λ (o : Option ℕ). unwrap_or o 26) c.mark_in.ensures in
    let less : c.unwrap_or-agent.result < length c.in_ok-opened.opened.game.game.trees =
    omega (arith, c.if-agent-agents.false, ap length c.agents.ensures.value, c.world.ensures.agents) in
    subst (λ (a : ℕ). IsSomeAnd game (HasAgent a)) same (has_agent game c.in_ok-opened.opened.game c.unwrap_or-agent.result c.in_ok-opened.ensures.game less)

pub returns-clause-ok : goal.returns-clause-ok
returns-clause-ok c =
    let game : Option Game = spelled_game c.args.level.now c.args.script.now in
    let same : c.unwrap_or-agent.result ≡ agent_of_letter c.args.letter.now = c.unwrap_or-agent.ensures ∙ ap (λ (o : Option ℕ). unwrap_or o 26) c.mark_in.ensures in
    let some : 0 < c.args.frame = omega (arith, c.if-frame-eq0.false) in
    let p : Played = c.step_all.new.game in
    let text : List ℕ = c.in_ok-next_tick_text.field-0.items in
    let told = subst (λ (on : List Bool). IsNextTickText p on c.unwrap_or-agent.result text) c.scripted_signals-signals.ensures c.in_ok-next_tick_text.ensures in
    subst (λ (a : ℕ). IsSomeAnd game (λ g. text ≡ why_text g c.args.frame a)) same
    (why_is game c.in_ok-opened.opened.game p c.args.frame c.unwrap_or-agent.result text some c.in_ok-opened.ensures.game c.in_ok-step_all.ensures.ok told)

pub returns-clause-agent : goal.returns-clause-agent
returns-clause-agent c =
    let game : Option Game = spelled_game c.args.level.now c.args.script.now in
    let same : c.unwrap_or-agent.result ≡ agent_of_letter c.args.letter.now = c.unwrap_or-agent.ensures ∙ ap (λ (o : Option ℕ). unwrap_or o 26) c.mark_in.ensures in
    let less : c.unwrap_or-agent.result < length c.in_ok-opened.opened.game.game.trees =
    omega (arith, c.if-agent-agents.false, ap length c.agents.ensures.value, c.world.ensures.agents) in
    subst (λ (a : ℕ). IsSomeAnd game (HasAgent a)) same (has_agent game c.in_ok-opened.opened.game c.unwrap_or-agent.result c.in_ok-opened.ensures.game less)
