-- The parts of a level, before any fault of them is looked for.
use Rattle.std.specs.Prelude.{ℕ, List}
use Rattle.bt_nodes.specs.Plain.{Plain}

-- a tree and its name, the bytes of a text
pub record NamedPlain : Type 0 where
  pub name : List ℕ
  pub tree : Plain

-- the rows of the map from the top, the tree name of agent A, B, .., and the trees
pub record Parts : Type 0 where
  pub rows : List (List ℕ)
  pub names : List (List ℕ)
  pub trees : List NamedPlain

abbrev pub named : List ℕ → Plain → NamedPlain
named name p = record { name = name; tree = p }
