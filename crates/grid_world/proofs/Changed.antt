-- What a move makes of a world: one agent stands elsewhere, and the world stays one.
use Rattle.std.proofs.Common.{is_some, nat_lt, ltb-true, true≢false, ne_eqb, ◌≡◌, ◌≢◌, ℕ, ◌<◌, ◌≤◌, ◌==◌, ◌&&◌, Bool, true, false, if◌then◌else◌, List, All, length, get_or, set, position, Option, Some, None, is_none, refl, sym, ap, ◌∙◌, arith, inl, inr, get_or-set_same, get_or-set_other, length-set}
use Rattle.std.proofs.lemmas.Bool.{cases_eq}
use Rattle.std.proofs.lemmas.List.{get_or_default}
use Rattle.std.proofs.lemmas.List.Elements.{All-set}
use Rattle.std.proofs.lemmas.List.Sums.{fails_before_first}
use Rattle.std.proofs.lemmas.Grind.{common_steps}
use Rattle.std.specs.List.{position_or_len}
use Rattle.grid_world.specs.declared.cell.Agent.{Agent}
use Rattle.grid_world.specs.declared.cell.Cell.TheVariants.{Wall}
use Rattle.grid_world.specs.Grid.{Grid, Point, agent_of, cell_at, has_item, is_on_map, point_of, same_point}
use Rattle.grid_world.specs.Ground.{furnished}
use Rattle.grid_world.specs.Intents.{with_agent, moved}
use Rattle.grid_world.specs.Open.{is_open, is_passable}
use Rattle.grid_world.specs.World.{AreApart, IsStanding, IsWorld}
use Rattle.grid_world.proofs.Rows.{and_parts}

eqb-sym : (a b : ℕ) → (a == b) ≡ (b == a)
eqb-sym a b = elim (cases_eq a b) [
  | inl same ↦ rw same refl
  | inr differ ↦ ne_eqb a b differ ∙ sym (ne_eqb b a (λ e. differ (sym e)))
]

same_point-sym : (p q : Point) → same_point p q ≡ same_point q p
same_point-sym p q = rw (eqb-sym p.x q.x, eqb-sym p.y q.y) refl

pub position-None : {X : Type 0} (p : X → Bool) (xs : List X) (k : ℕ) (d : X) → position p xs ≡ None
    → k < length xs → p (get_or xs k d) ≡ false
position-None p xs k d none within =
    let none_passes : length xs ≤ position_or_len p xs = grind (arith, common_steps) in
    fails_before_first p xs k d (omega arith)

-- an agent set on a cell apart from the others
pub AreApart-set : (agents : List Agent) (a : ℕ) (new : Agent) → a < length agents
    → ((k : ℕ) (d : Agent) → k < length agents → k ≢ a
    → same_point (point_of (get_or agents k d)) (point_of new) ≡ false)
    → AreApart agents → AreApart (set agents a new)
AreApart-set agents a new within free apart i j d before inside =
    let j_in : j < length agents = omega (arith, inside, length-set agents a new) in
    elim (cases_eq i a) [
      | inl here ↦ (let other : j ≢ a = omega arith in
          rw (here, get_or-set_same agents a new d within, get_or-set_other agents a j new d other)
          (same_point-sym (point_of new) (point_of (get_or agents j d)) ∙ free j d j_in other))
      | inr first ↦ elim (cases_eq j a) [
        | inl here ↦ rw (get_or-set_other agents a i new d first, here, get_or-set_same agents a new d within)
            (free i d (omega arith) first)
        | inr second ↦ rw (get_or-set_other agents a i new d first, get_or-set_other agents a j new d second)
            (apart i j d before j_in)
      ]
    ]

-- the same ground with another agent
module _ (ground : Grid) (items : List Bool) (agents : List Agent) (world : IsWorld (furnished ground items agents)) where
  -- with agents that stand well, and items off the walls
  IsWorld-changed : (items' : List Bool) (agents' : List Agent) → length items' ≡ length items
      → length agents' ≡ length agents
      → All (IsStanding (furnished ground items agents)) agents' → AreApart agents'
      → ((p : Point) → has_item (furnished ground items' agents') p ≡ true → cell_at ground p ≢ Wall)
      → IsWorld (furnished ground items' agents')
  IsWorld-changed items' agents' as_many same standing apart off_walls =
      let sized = world.sized in
      record {
        sized = record {
          some_columns = sized.some_columns;
          most_columns = sized.most_columns;
          some_rows = sized.some_rows;
          most_rows = sized.most_rows;
          all_cells = sized.all_cells;
        };
        all_items = as_many ∙ world.all_items;
        few_agents = omega (arith, world.few_agents, same);
        standing = λ k d within. let stands = standing k d within in record { column = stands.column; row = stands.row; no_wall = stands.no_wall };
        apart = apart;
        items_off_walls = off_walls;
      }

  -- agent a on an open cell on which no agent stands
  pub IsWorld-moved : (a : ℕ) (new : Agent) (signals : List Bool) → a < length agents
      → is_open ground signals (point_of new) ≡ true
      → position (λ b. same_point (point_of b) (point_of new)) agents ≡ None
      → IsWorld (furnished ground items (set agents a new))
  IsWorld-moved a new signals within open_cell free =
      let on_map = and_parts (is_on_map ground (point_of new))
      (is_passable signals (cell_at ground (point_of new))) open_cell in
      let inside = and_parts (nat_lt new.x ground.width) (nat_lt new.y ground.height) on_map.0 in
      IsWorld-changed items (set agents a new) refl (length-set agents a new)
      (All-set (IsStanding (furnished ground items agents)) agents a new (record {
        column = ltb-true _ _ inside.0;
        row = ltb-true _ _ inside.1;
        no_wall = λ wall. absurd (true≢false (sym on_map.1 ∙ ap (is_passable signals) wall));
      }) world.standing)
      (AreApart-set agents a new within
      (λ k d small _. position-None
      (λ b. same_point (point_of b) (point_of new)) agents k d free small) world.apart)
      world.items_off_walls

-- what a step makes of a world
module _ (ground : Grid) (items : List Bool) (agents : List Agent) (a : ℕ) (agent : Agent)
    (within : a < length agents) (at : agent ≡ get_or agents a agent) where
  pub agent_of-at : agent_of (furnished ground items agents) a ≡ agent
  agent_of-at = get_or_default agents a _ agent within ∙ sym at

  module _ (signals : List Bool) (target : Option Point) (p : Point) (leads : target ≡ Some p) where
    pub moved-there : is_open ground signals p ≡ true
        → position (λ b. same_point (point_of b) p) agents ≡ None
        → furnished ground items (set agents a (record agent { x = p.x; y = p.y }))
        ≡ moved (furnished ground items agents) signals a target
    moved-there open_cell free = rw (leads, open_cell, free, agent_of-at) refl

    pub moved-shut : is_open ground signals p ≡ false
        → furnished ground items agents ≡ moved (furnished ground items agents) signals a target
    moved-shut shut = rw (leads, shut) refl

    pub moved-taken : is_none (position (λ b. same_point (point_of b) p) agents) ≡ false
        → furnished ground items agents ≡ moved (furnished ground items agents) signals a target
    moved-taken taken = rw leads (go (is_open ground signals p))
      where
        go : (b : Bool) → furnished ground items agents
            ≡ (if b && is_none (position (λ b. same_point (point_of b) p) agents)
            then with_agent (furnished ground items agents) a
            (record (agent_of (furnished ground items agents) a) { x = p.x; y = p.y })
            else furnished ground items agents)
        go true = rw taken refl
        go false = refl

pub none_found : {X : Type 0} (o : Option X) → is_some o ≡ false → o ≡ None
none_found None e = refl
none_found (Some x) e = absurd (cc)

pub is_none-some : {X : Type 0} (o : Option X) → is_some o ≡ true → is_none o ≡ false
is_none-some None e = absurd (cc)
is_none-some (Some x) e = refl
