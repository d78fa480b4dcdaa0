-- What the nodes of a tree answer in a tick. The tick itself is only looked at: each answer and each state that is handed on is its own.
use Rattle.std.specs.Prelude.{ℕ, zero, suc, ◌+◌, Bool, true, false, nat_lt, if◌then◌else◌, List, [], ◌∷◌, ◌++◌, replicate, slice_set, Option, Some, None}
use Rattle.bt_nodes.specs.declared.node.Status.{Status}
use Rattle.bt_nodes.specs.declared.node.Status.TheVariants.{Success, Failure}
use Rattle.bt_nodes.specs.Plain.{Kind, Seq, Fallback, Plain, Composite, Star, Par, Not, Tries, Ticks, Wait, Move, Does, Forest, none, tree}
use Rattle.bt_nodes.specs.Sizes.{size}
use Rattle.game_rules.specs.View.{View}
use Rattle.game_rules.specs.Tick.{Reply, Gives, Stands, State, number_of, put, tick}
use Rattle.game_rules.specs.Thought.{all_ways}

-- the answer of node n; where a tick stands at a question, no node around it has answered
abbrev pub given : ℕ → Reply → List (ℕ × Status)
given n (Gives st) = (n, st) ∷ []
given n Stands = []

-- whether a seq or a fallback ticks the next child
abbrev pub goes_on : Kind → Reply → Bool
goes_on Seq (Gives Success) = true
goes_on Fallback (Gives Failure) = true
goes_on kind reply = false

abbrev pub has_answered : Reply → Bool
has_answered (Gives st) = true
has_answered Stands = false

module _ (v : View) where
  -- of a node itself
  abbrev pub own : Plain → ℕ → State → List (ℕ × Status)
  own p n s = given n (tick v p n s).reply

  abbrev mutual
    -- of the nodes below node n
    pub below : Plain → ℕ → State → List (ℕ × Status)
    below (Composite kind children) n s = below_line children kind (n + 1) s
    below (Star kind children) n s = below_star children kind (number_of n s) 0 n (n + 1) s
    below (Par m children) n s = below_all children (n + 1) s
    below (Not child) n s = below child (n + 1) s ++ own child (n + 1) s
    below (Tries k child) n s = if nat_lt (number_of n s) k then below child (n + 1) s ++ own child (n + 1) s else []
    below (Ticks k child) n s = if nat_lt (number_of n s) k then below child (n + 1) s ++ own child (n + 1) s else []
    below (Wait k) n s = []
    below (Move p) n s = []
    below (Does leaf) n s = []

    -- of the children that are left of a seq or a fallback, and of all below them; the first of them has the number at
    pub below_line : Forest → Kind → ℕ → State → List (ℕ × Status)
    below_line none kind at s = []
    below_line (tree c cs) kind at s =
        (below c at s ++ own c at s)
        ++ (if goes_on kind (tick v c at s).reply then below_line cs kind (at + size c) (tick v c at s).state else [])

    -- of a seq* or a fallback*, own, from child i on, of which the first k are passed over
    pub below_star : Forest → Kind → (k i own at : ℕ) → State → List (ℕ × Status)
    below_star none kind k i node at s = []
    below_star (tree c cs) kind zero i node at s =
        (below c at s ++ own c at s)
        ++ (if goes_on kind (tick v c at s).reply then below_star cs kind 0 (i + 1) node (at + size c) (put node (i + 1) (tick v c at s).state) else [])
    below_star (tree c cs) kind (suc k) i node at s = below_star cs kind k (i + 1) node (at + size c) s

    -- of a par
    pub below_all : Forest → ℕ → State → List (ℕ × Status)
    below_all none at s = []
    below_all (tree c cs) at s =
        (below c at s ++ own c at s)
        ++ (if has_answered (tick v c at s).reply then below_all cs (at + size c) (tick v c at s).state else [])

  -- of node n and all below it: for each that was ticked its number and its answer, in the order in which they come
  abbrev pub answered : Plain → ℕ → State → List (ℕ × Status)
  answered p n s = below p n s ++ own p n s

-- written to their places
abbrev pub written : List (ℕ × Status) → List (Option Status) → List (Option Status)
written [] them = them
written (a ∷ more) them = written more (slice_set them a.0 (Some a.1))

-- of each node of a tree, in preorder, what it answers in an agent's tick; None where it is not ticked
abbrev pub node_answers : View → Plain → List ℕ → List (Option Status)
node_answers v p memory =
    written (answered v p 0 (record { memory = memory; wants = []; asked = []; left = all_ways v p memory })) (replicate (size p) None)
