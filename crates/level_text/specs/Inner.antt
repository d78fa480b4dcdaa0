-- Nodes that take nodes, before those are read.
use Rattle.std.specs.Prelude.{ℕ, List, Option, Some, None, option_map}
use Rattle.serde_json.specs.Data.{Items}
use Rattle.serde_json.specs.View.{items_view}
use Rattle.serde_json.specs.declared.value.Value.{Value, size-Value}
use Rattle.bt_nodes.specs.Plain.{Plain, Composite, Star, Par, Not, Tries, Ticks, Seq, Fallback, Forest}
use Rattle.level_text.specs.Nodes.{form_of, childless_of, forest_in, child_in, forest_behind, child_behind}
use Rattle.level_text.specs.declared.inner.Lister.{Lister}
use Rattle.level_text.specs.declared.inner.Lister.TheVariants as lister
use Rattle.level_text.specs.declared.inner.Decorator.{Decorator}
use Rattle.level_text.specs.declared.inner.Decorator.TheVariants as decorator
use Rattle.level_text.specs.declared.inner.Inner.{Inner}
use Rattle.level_text.specs.declared.inner.Inner.TheVariants.{Lists, Decorates}
use denote.Param.Weighed.{most}

-- the node of a head and its arguments
abbrev pub form_in : List ℕ → Items → Option Plain
form_in name arguments =
    form_of name (record { all = arguments; nodes = forest_in arguments; node = child_in arguments; nodes_behind = forest_behind arguments; node_behind = child_behind arguments })

abbrev pub over_forest : Lister → Forest → Plain
over_forest lister.Seq = Composite Seq
over_forest lister.Fallback = Composite Fallback
over_forest (lister.Par n) = Par n
over_forest lister.SeqStar = Star Seq
over_forest lister.FallbackStar = Star Fallback

abbrev pub over_child : Decorator → Plain → Plain
over_child decorator.Not = Not
over_child (decorator.Tries n) = Tries n
over_child (decorator.Ticks n) = Ticks n

abbrev pub values_of : Inner → List Value
values_of (Lists l values) = values.now
values_of (Decorates d values) = values.now

-- the node, once its values are read; that of another head takes no nodes
abbrev pub inner_in : Option Inner → List ℕ → Items → Option Plain
inner_in None head arguments = childless_of head arguments
inner_in (Some (Lists l values)) head arguments = option_map (over_forest l) (forest_in (items_view values.now))
inner_in (Some (Decorates d values)) head arguments = option_map (over_child d) (child_in (items_view values.now))

-- how deep the deepest of some values is
abbrev pub deepest : List Value → ℕ
deepest values = most size-Value values
