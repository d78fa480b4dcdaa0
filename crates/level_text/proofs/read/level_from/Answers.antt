use Rattle.std.proofs.Common.{◌≡◌, ◌∙◌, ap, sym, subst, get_or, None, Some, string_bytes}
use Rattle.std.proofs.lemmas.Result.{err_from_is_err_and}
use Rattle.level_text.specs.Drafts.{parts_view}
use Rattle.game_session.specs.Parts.{Parts}
use Rattle.game_session.specs.Faults.{place_fault, crew_fault, parts_fault, world_of, no_place, no_agent}
use Rattle.game_session.specs.Kept.{texts_view, trees_view}
use Rattle.level_text.specs.Levels.{IsFirstOf}
use Rattle.level_text.specs.declared.level_fault.LevelFault.{LevelFault}
use Rattle.game_session.specs.declared.named_tree.NamedTree.{NamedTree}
use Rattle.level_text.proofs.Drafted.{counted, agent_fault-same, place_fault-same, crew_fault-same}
use Rattle.game_session.proofs.Faultless.{faultless_is}
use Rattle.level_text.proofs.FaultOrder.{at_agents, at_places, at_crew}
use Rattle.level_text.proofs.read.level_from.Goals as goal

pub returns-in_err-picks-clause-err : goal.returns-in_err-picks-clause-err
returns-in_err-picks-clause-err c =
    let parts : Parts = parts_view c.args.draft in
    let at = counted parts _ _ c.in_ok-world.world _ (ap texts_view c.deref.ensures.value) c.in_ok-world.ensures.ok (ap texts_view c.deref-2.ensures.value) c.is_counted.ensures c.if-not-is_counted.false in
    let fault : LevelFault = c.in_err-picks.field-0.0 in
    let p = err_from_is_err_and c.from_residual-in_err-picks.result c.from_residual-in_err-picks.ensures.1 in
    rw (p.1, p.2) (at_agents parts fault at.rows at.count c.in_ok-trees.ensures.ok.0
    (subst (λ f. IsFirstOf f fault)
    (agent_fault-same parts _ _ (ap texts_view c.deref-3.ensures.value) (ap trees_view c.deref-4.ensures.value ∙ c.in_ok-trees.ensures.ok.1)) c.in_err-picks.ensures.err))

pub returns-in-Some-clause-err : goal.returns-in-Some-clause-err
returns-in-Some-clause-err c =
    let parts : Parts = parts_view c.args.draft in
    let at = counted parts _ _ c.in_ok-world.world _ (ap texts_view c.deref.ensures.value) c.in_ok-world.ensures.ok (ap texts_view c.deref-2.ensures.value) c.is_counted.ensures c.if-not-is_counted.false in
    let agents = sym (agent_fault-same parts _ _ (ap texts_view c.deref-3.ensures.value) (ap trees_view c.deref-4.ensures.value ∙ c.in_ok-trees.ensures.ok.1)) ∙ c.in_ok-picks.ensures.ok.0 in
    let r : NamedTree = c.remove.result in
    let places : place_fault (world_of parts) parts.trees ≡ Some (no_place (string_bytes r.name)) =
    sym (place_fault-same parts _ _ at.world (ap trees_view c.deref-5.ensures.value ∙ c.in_ok-trees.ensures.ok.1)) ∙ c.in-Some.ensures.some.1 r
    ∙ ap (λ (t : NamedTree). Some (no_place (string_bytes t.name))) (ap (λ ts. get_or ts c.in-Some.i r) c.deref-5.ensures.value ∙ sym c.remove.ensures.value) in
    at_places parts (string_bytes r.name) at.rows at.count c.in_ok-trees.ensures.ok.0 agents places

pub returns-in-Some-first_uncrewed-clause-err : goal.returns-in-Some-first_uncrewed-clause-err
returns-in-Some-first_uncrewed-clause-err c =
    let parts : Parts = parts_view c.args.draft in
    let at = counted parts _ _ c.in_ok-world.world _ (ap texts_view c.deref.ensures.value) c.in_ok-world.ensures.ok (ap texts_view c.deref-2.ensures.value) c.is_counted.ensures c.if-not-is_counted.false in
    let agents = sym (agent_fault-same parts _ _ (ap texts_view c.deref-3.ensures.value) (ap trees_view c.deref-4.ensures.value ∙ c.in_ok-trees.ensures.ok.1)) ∙ c.in_ok-picks.ensures.ok.0 in
    let same_trees : trees_view c.in_ok-trees.trees.items ≡ parts.trees = c.in_ok-trees.ensures.ok.1 in
    let places = sym (place_fault-same parts _ _ at.world (ap trees_view c.deref-5.ensures.value ∙ same_trees)) ∙ c.in_default.ensures.none in
    let r : NamedTree = c.remove-in-Some-first_uncrewed.result in
    let crew : crew_fault (world_of parts) parts.trees ≡ Some (no_agent (string_bytes r.name)) =
    sym (crew_fault-same parts _ _ at.world (ap trees_view c.deref-6.ensures.value ∙ same_trees)) ∙ c.in-Some-first_uncrewed.ensures.some.1 r
    ∙ ap (λ (t : NamedTree). Some (no_agent (string_bytes t.name))) (ap (λ ts. get_or ts c.in-Some-first_uncrewed.i r) c.deref-6.ensures.value ∙ sym c.remove-in-Some-first_uncrewed.ensures.value) in
    at_crew parts (string_bytes r.name) at.rows at.count c.in_ok-trees.ensures.ok.0 agents places crew

pub new-requires-clause-faultless : goal.new-requires-clause-faultless
new-requires-clause-faultless c =
    let parts : Parts = parts_view c.args.draft in
    let at = counted parts _ _ c.in_ok-world.world _ (ap texts_view c.deref.ensures.value) c.in_ok-world.ensures.ok (ap texts_view c.deref-2.ensures.value) c.is_counted.ensures c.if-not-is_counted.false in
    let agents = sym (agent_fault-same parts _ _ (ap texts_view c.deref-3.ensures.value) (ap trees_view c.deref-4.ensures.value ∙ c.in_ok-trees.ensures.ok.1)) ∙ c.in_ok-picks.ensures.ok.0 in
    let same_trees : trees_view c.in_ok-trees.trees.items ≡ parts.trees = c.in_ok-trees.ensures.ok.1 in
    let places = sym (place_fault-same parts _ _ at.world (ap trees_view c.deref-5.ensures.value ∙ same_trees)) ∙ c.in_default.ensures.none in
    let crew : crew_fault (world_of parts) parts.trees ≡ None =
    sym (crew_fault-same parts _ _ at.world (ap trees_view c.deref-6.ensures.value ∙ same_trees)) ∙ c.in_default-first_uncrewed.ensures.none in
    ap (λ ts. parts_fault (record { rows = parts.rows; names = parts.names; trees = ts })) same_trees
    ∙ faultless_is parts (record { rows = at.rows; count = at.count; limits = c.in_ok-trees.ensures.ok.0; agents = agents; places = places; crew = crew })
