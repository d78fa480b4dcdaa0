use Rattle.std.proofs.Common.{◌∙◌, ap, ◌++◌, map, drop, ◌+◌, string_bytes, String, Global}
use Rattle.game_session.specs.Kept.{trees_view, texts_view, index_of}
use Rattle.level_text.proofs.Picks.{pick_more, pick_missing, position-trees_view}
use Rattle.level_text.proofs.read.picks_of.Goals as goal

pub returns-in-None-clause-err : goal.returns-in-None-clause-err
returns-in-None-clause-err c =
    let l = c.names in
    let name = c.index-names-agent.result in
    pick_missing c.args.names.now (trees_view c.args.trees.now) l.agent name c.names-test.true c.index-names-agent.is _ l.invariant.0
    (c.in-None.ensures ∙ position-trees_view (string_bytes name) c.args.trees.now)

pub names-preserved : goal.names-preserved
names-preserved c =
    let l = c.names in
    let name : String Global = c.index-names-agent.result in
    let ts = trees_view c.args.trees.now in
    let found = c.in-Some.ensures ∙ position-trees_view (string_bytes name) c.args.trees.now in
    let left = map (index_of ts) (texts_view (drop (l.agent + 1) c.args.names.now)) in (
      (pick_more c.args.names.now ts l.agent name c.names-test.true c.index-names-agent.is _ l.invariant.0 c.in-Some.i l.picks.items _ found l.invariant.1).0,
      ap (λ ps. ps ++ left) c.in_ok-push-in-Some.ensures.items
          ∙ (pick_more c.args.names.now ts l.agent name c.names-test.true c.index-names-agent.is _ l.invariant.0 c.in-Some.i l.picks.items _ found l.invariant.1).1,
    )
