-- A tree as plain data.
use Rattle.bt_nodes.specs.Plain.{Plain, plain}
use Rattle.bt_nodes.specs.declared.tree.Tree.{Tree}

abbrev pub plain_of : {A : Type 0} → Tree A → Plain
plain_of t = plain t.root
