-- The intents of a frame, one after another.
use Rattle.std.proofs.Common.{◌≡◌, ℕ, suc, ◌+◌, ◌<◌, ◌&&◌, Bool, true, false, not, is_none, if◌then◌else◌, List, [], ◌∷◌, length, get_or, drop, Option, Some, None, refl, ap, ◌∙◌, arith, sym, length-set}
use Rattle.std.proofs.lemmas.List.{drop_more}
use Rattle.grid_world.specs.declared.cell.Agent.{Agent}
use Rattle.grid_world.specs.declared.cell.Intent.{Intent}
use Rattle.grid_world.specs.declared.cell.Intent.TheVariants.{Stay, Move, Take, Drop, Give}
use Rattle.grid_world.specs.Grid.{Grid, Point, agent_of, agent_on, has_item, point_of}
use Rattle.grid_world.specs.Ground.{emptied, furnished}
use Rattle.grid_world.specs.Intents.{apply, apply_all, given, handed, may_give, moved, with_agent}
use Rattle.grid_world.specs.Open.{is_open}
use Rattle.grid_world.specs.Walks.{next}

length-if : (b : Bool) (g h : Grid) → length g.agents ≡ length h.agents
    → length (if b then g else h).agents ≡ length h.agents
length-if true g h same = same
length-if false g h same = refl

-- no agent comes or goes
pub length-apply : (g : Grid) (signals : List Bool) (a : ℕ) (intent : Intent)
    → length (apply g signals a intent).agents ≡ length g.agents
length-apply g signals a Stay = refl
length-apply g signals a (Move d) = go (next d (point_of (agent_of g a)))
  where
    go : (target : Option Point) → length (moved g signals a target).agents ≡ length g.agents
    go None = refl
    go (Some p) = length-if (is_open g signals p && is_none (agent_on g p))
        (with_agent g a (record (agent_of g a) { x = p.x; y = p.y })) g (length-set g.agents a _)
length-apply g signals a Take =
    length-if (not (agent_of g a).carrying && has_item g (point_of (agent_of g a))) (handed g a true) g
    (length-set g.agents a _)
length-apply g signals a Drop =
    length-if ((agent_of g a).carrying && not (has_item g (point_of (agent_of g a)))) (handed g a false) g
    (length-set g.agents a _)
length-apply g signals a (Give b) =
    length-if (may_give g a b) (given g a b) g (length-set _ b _ ∙ length-set g.agents a _)

-- one intent more
pub apply_all-left : (g : Grid) (signals : List Bool) (a : ℕ) (intents : List Intent) (d : Intent)
    → a < length intents
    → apply_all g signals a (drop a intents)
    ≡ apply_all (apply g signals a (get_or intents a d)) signals (a + 1) (drop (a + 1) intents)
apply_all-left g signals a intents d within =
    let next_one : suc a ≡ a + 1 = omega arith in
    ap (apply_all g signals a) (drop_more intents a d within)
    ∙ ap (λ n. apply_all (apply g signals a (get_or intents a d)) signals n (drop (a + 1) intents)) next_one

-- no cell changes
emptied-if : (b : Bool) (g h : Grid) → emptied g ≡ emptied h → emptied (if b then g else h) ≡ emptied h
emptied-if true g h same = same
emptied-if false g h same = refl

pub emptied-apply : (g : Grid) (signals : List Bool) (a : ℕ) (intent : Intent) → emptied (apply g signals a intent) ≡ emptied g
emptied-apply g signals a Stay = refl
emptied-apply g signals a (Move d) = go (next d (point_of (agent_of g a)))
  where
    go : (target : Option Point) → emptied (moved g signals a target) ≡ emptied g
    go None = refl
    go (Some p) = emptied-if (is_open g signals p && is_none (agent_on g p))
        (with_agent g a (record (agent_of g a) { x = p.x; y = p.y })) g refl
emptied-apply g signals a Take =
    emptied-if (not (agent_of g a).carrying && has_item g (point_of (agent_of g a))) (handed g a true) g refl
emptied-apply g signals a Drop =
    emptied-if ((agent_of g a).carrying && not (has_item g (point_of (agent_of g a)))) (handed g a false) g refl
emptied-apply g signals a (Give b) = emptied-if (may_give g a b) (given g a b) g refl

pub emptied-apply_all : (g : Grid) (signals : List Bool) (a : ℕ) (intents : List Intent) → emptied (apply_all g signals a intents) ≡ emptied g
emptied-apply_all g signals a [] = refl
emptied-apply_all g signals a (i ∷ is) = emptied-apply_all (apply g signals a i) signals (suc a) is ∙ emptied-apply g signals a i

-- the ground of a world, with the items and the agents that it has once all intents are applied
pub furnished_after : (ground w after : Grid) (signals : List Bool) (intents : List Intent) (items : List Bool) (agents : List Agent)
    → after ≡ apply_all w signals 0 intents → emptied w ≡ emptied ground → items ≡ after.items → agents ≡ after.agents
    → furnished ground items agents ≡ after
furnished_after ground w after signals intents items agents all same here there =
    rw (here, there) (ap (λ (g : Grid). furnished g after.items after.agents)
    (sym (ap (λ (g : Grid). emptied g) all ∙ emptied-apply_all w signals 0 intents ∙ same)))
