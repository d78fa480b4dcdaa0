-- How an action or a condition is spelled: by a word, and behind it by its argument if it has one.
use Rattle.std.specs.Prelude.{List, ℕ, codes, if◌then◌else◌, Option, Some, None, option_map, option_and_then}
use Rattle.std.specs.Str.{bytes_eq}
use Rattle.serde_json.specs.Data.{Items}
use Rattle.bt_nodes.specs.declared.leaf.Leaf.{Leaf}
use Rattle.bt_nodes.specs.declared.leaf.Leaf.TheVariants.{Take, Drop, At, Carrying, Item, Signal, Near, Give}
use Rattle.level_text.specs.declared.argument.Argument.{Argument}
use Rattle.level_text.specs.declared.argument.Argument.TheVariants as argument
use Rattle.level_text.specs.Arguments.{only, count_in, place_in, signal_in, agent_in, if_empty}

-- the leaf of a word and its arguments
abbrev pub leaf_of : List ℕ → Items → Option Leaf
leaf_of head arguments =
    if bytes_eq head (codes "take") then if_empty arguments Take
    else (if bytes_eq head (codes "drop") then if_empty arguments Drop
    else (if bytes_eq head (codes "at") then option_map At (option_and_then place_in (only arguments))
    else (if bytes_eq head (codes "carrying") then if_empty arguments Carrying
    else (if bytes_eq head (codes "item") then if_empty arguments Item
    else (if bytes_eq head (codes "signal") then option_map Signal (option_and_then signal_in (only arguments))
    else (if bytes_eq head (codes "near") then option_map Near (option_and_then count_in (only arguments))
    else (if bytes_eq head (codes "give") then option_map Give (option_and_then agent_in (only arguments))
    else None)))))))

-- the word that names a leaf
abbrev pub leaf_head : Leaf → List ℕ
leaf_head Take = codes "take"
leaf_head Drop = codes "drop"
leaf_head (At p) = codes "at"
leaf_head Carrying = codes "carrying"
leaf_head Item = codes "item"
leaf_head (Signal a) = codes "signal"
leaf_head (Near n) = codes "near"
leaf_head (Give b) = codes "give"

-- its argument, if it has one
abbrev pub leaf_argument : Leaf → Option Argument
leaf_argument (At p) = Some (argument.Place p)
leaf_argument (Signal a) = Some (argument.Signal a)
leaf_argument (Near n) = Some (argument.Count n)
leaf_argument (Give b) = Some (argument.Agent b)
leaf_argument _ = None
