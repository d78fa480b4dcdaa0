-- Parts that were read, without where they lie in memory.
use Rattle.std.specs.Prelude.{map, string_bytes}
use Rattle.bt_nodes.specs.Plain.{plain}
use Rattle.game_session.specs.Parts.{NamedPlain, Parts, named}
use Rattle.level_text.specs.declared.draft.NamedNode.{NamedNode}
use Rattle.level_text.specs.declared.draft.Draft.{Draft}

abbrev pub node_view : NamedNode → NamedPlain
node_view t = named (string_bytes t.name) (plain t.node)

abbrev pub parts_view : Draft → Parts
parts_view p = record { rows = map string_bytes p.rows.items; names = map string_bytes p.names.items; trees = map node_view p.trees.items }
