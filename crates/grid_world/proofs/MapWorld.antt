-- The grid that a map's rows say is a world.
use Rattle.std.proofs.Common.{◌≡◌, ◌≢◌, ℕ, zero, suc, ◌+◌, ◌-◌, ◌*◌, ◌/◌, ◌%◌, ◌<◌, ◌≤◌, ◌==◌, Bool, true, false, if◌then◌else◌, List, All, AllPairs, map, length, get_or, position, Option, Some, None, option_map, refl, sym, ap, subst, ◌∙◌, arith, eqb-true, mul_comm}
use Rattle.std.specs.List.{filter_map, cons_option}
use Rattle.std.proofs.Math.Nat.{div-lt_iff_lt-mul}
use Rattle.std.proofs.Math.ListN.{get_or-map}
use Rattle.std.proofs.lemmas.Nat.{div-add-mod'}
use Rattle.std.proofs.lemmas.List.{length-map}
use Rattle.std.proofs.lemmas.List.Elements.{All-cons}
use Rattle.std.proofs.lemmas.List.Kept.{AllPairs-cons}
use Rattle.std.proofs.lemmas.List.Quantifiers.{position-Some}
use Rattle.grid_world.specs.declared.cell.Agent.{Agent}
use Rattle.grid_world.specs.declared.cell.Cell.{Cell}
use Rattle.grid_world.specs.declared.cell.Cell.TheVariants.{Wall, Floor, Door, Spot}
use Rattle.grid_world.specs.Grid.{Point, cell_at, index_of, point_of, same_point}
use Rattle.grid_world.specs.Ground.{bare, furnished}
use Rattle.grid_world.specs.Map.{agent_at, agent_in, cell_of, count_up, grid_of, is_between, marks_of, width_of}
use Rattle.grid_world.specs.World.{IsSized, IsStanding, IsWorld}
use Rattle.grid_world.proofs.Rows.{IsRectangle, and_parts}

-- an item put before others, if there is one
module _ {X : Type 0} where
  All-cons_option : (P : X → Type 0) (o : Option X) (xs : List X) → ((x : X) → o ≡ Some x → P x) → All P xs
      → All P (cons_option o xs)
  All-cons_option P None xs first rest = rest
  All-cons_option P (Some x) xs first rest = All-cons P x xs (first x refl) rest

  AllPairs-cons_option : (R : X → X → Type 0) (o : Option X) (xs : List X)
      → ((x : X) → o ≡ Some x → All (R x) xs) → AllPairs R xs → AllPairs R (cons_option o xs)
  AllPairs-cons_option R None xs first rest = rest
  AllPairs-cons_option R (Some x) xs first rest = AllPairs-cons R x xs (first x refl) rest

  length-cons_option : (o : Option X) (xs : List X) (n : ℕ) → length xs ≤ n
      → length (cons_option o xs) ≤ suc n
  length-cons_option None xs n few = omega arith
  length-cons_option (Some x) xs n few = omega arith

-- what holds of each item made of the numbers counted up, of each two of them, and of how many there are
module _ {X : Type 0} (make : ℕ → Option X) where
  All-made : (P : X → Type 0) (a n : ℕ) → ((k : ℕ) (x : X) → a ≤ k → make k ≡ Some x → P x)
      → All P (filter_map make (count_up a n))
  unfolding count_up
  All-made P a zero each = λ k d l. absurd (omega arith)
  All-made P a (suc n) each =
      All-cons_option P (make a) _ (λ x e. each a x (omega arith) e)
      (All-made P (suc a) n (λ k x after. each k x (omega arith)))

  AllPairs-made : (R : X → X → Type 0) (a n : ℕ)
      → ((k l : ℕ) (x y : X) → k < l → make k ≡ Some x → make l ≡ Some y → R x y)
      → AllPairs R (filter_map make (count_up a n))
  unfolding count_up
  AllPairs-made R a zero each = λ i j d before within. absurd (omega arith)
  AllPairs-made R a (suc n) each =
      AllPairs-cons_option R (make a) _
      (λ x e. All-made (R x) (suc a) n (λ k y after found. each a k x y (omega arith) e found))
      (AllPairs-made R (suc a) n each)

  length-made : (a n : ℕ) → length (filter_map make (count_up a n)) ≤ n
  unfolding count_up
  length-made a zero = omega arith
  length-made a (suc n) = length-cons_option (make a) _ n (length-made (suc a) n)

-- only `#` is a wall
cell_of-Wall : (c : ℕ) → cell_of c ≡ Wall → c ≡ 35
cell_of-Wall c e = go (c == 35) (is_between 97 122 c) (is_between 48 57 c) refl e
  where
    go : (wall door spot : Bool) → (c == 35) ≡ wall
        → (if wall then Wall else (if door then Door (c - 97) else (if spot then Spot (c - 48) else Floor)))
        ≡ Wall → c ≡ 35
    go true door spot is e = eqb-true c 35 is
    go false true spot is e = absurd (cc)
    go false false true is e = absurd (cc)
    go false false false is e = absurd (cc)

-- the place of a letter
record StandsAt (width : ℕ) (marks : List ℕ) (k : ℕ) (agent : Agent) : Type 0 where
  index : ℕ
  within : index < length marks
  letter : get_or marks index 35 ≡ 65 + k
  place : agent ≡ agent_at width index

agent_in-Some : (width : ℕ) (marks : List ℕ) (k : ℕ) (agent : Agent) → agent_in width marks k ≡ Some agent
    → StandsAt width marks k agent
agent_in-Some width marks k agent e = go (position (λ c. c == 65 + k) marks) refl e
  where
    go : (o : Option ℕ) → position (λ c. c == 65 + k) marks ≡ o → option_map (agent_at width) o ≡ Some agent
        → StandsAt width marks k agent
    go None found made = absurd (cc)
    go (Some i) found made =
        let at = position-Some (λ c. c == 65 + k) marks i 35 found in
        record { index = i; within = at.0; letter = eqb-true _ _ at.1; place = cc }

module _ (rows : List (List ℕ)) (size : IsRectangle rows) where
  some_columns : 0 < width_of rows
  some_columns = omega (arith, size.some_columns)

  index-agent_at : (i : ℕ) → index_of (grid_of rows) (point_of (agent_at (width_of rows) i)) ≡ i
  index-agent_at i = div-add-mod' i (width_of rows)

  cell_at-mark : (p : Point)
      → cell_at (grid_of rows) p ≡ cell_of (get_or (marks_of rows) (index_of (grid_of rows) p) 35)
  cell_at-mark p = get_or-map cell_of (marks_of rows) (index_of (grid_of rows) p) 35

  stands : (k : ℕ) (agent : Agent) → agent_in (width_of rows) (marks_of rows) k ≡ Some agent
      → IsStanding (grid_of rows) agent
  stands k agent e =
      let at = agent_in-Some (width_of rows) (marks_of rows) k agent e in
      let within : at.index < length rows * width_of rows = omega (arith, at.within, size.all_marks) in
      subst (IsStanding (grid_of rows)) (sym at.place) (record {
        column = omega (arith, some_columns);
        row = (div-lt_iff_lt-mul some_columns).1 within;
        no_wall = λ wall.
            let mark = cell_of-Wall (get_or (marks_of rows) at.index 35)
            (ap (λ i. cell_of (get_or (marks_of rows) i 35)) (sym (index-agent_at at.index))
            ∙ sym (cell_at-mark _) ∙ wall) in
            omega (arith, mark, at.letter);
      })

  -- two cells of different numbers are two points
  apart : (i j : ℕ) → i ≢ j
      → same_point (point_of (agent_at (width_of rows) i)) (point_of (agent_at (width_of rows) j)) ≡ false
  apart i j differ = go
      (same_point (point_of (agent_at (width_of rows) i)) (point_of (agent_at (width_of rows) j))) refl
    where
      go : (same : Bool) → same_point (point_of (agent_at (width_of rows) i))
          (point_of (agent_at (width_of rows) j)) ≡ same
          → same_point (point_of (agent_at (width_of rows) i)) (point_of (agent_at (width_of rows) j)) ≡ false
      go false e = e
      go true e =
          let both = and_parts (i % width_of rows == j % width_of rows)
          (i / width_of rows == j / width_of rows) e in
          absurd (differ (sym (div-add-mod' i (width_of rows))
          ∙ rw (eqb-true _ _ both.0, eqb-true _ _ both.1) (div-add-mod' j (width_of rows))))

  stand_apart : (k l : ℕ) (a b : Agent) → k < l → agent_in (width_of rows) (marks_of rows) k ≡ Some a
      → agent_in (width_of rows) (marks_of rows) l ≡ Some b
      → same_point (point_of a) (point_of b) ≡ false
  stand_apart k l a b before e f =
      let at = agent_in-Some (width_of rows) (marks_of rows) k a e in
      let bt = agent_in-Some (width_of rows) (marks_of rows) l b f in
      rw (at.place, bt.place)
      (apart at.index bt.index
      (λ same. omega (arith, at.letter, bt.letter, ap (λ i. get_or (marks_of rows) i 35) same)))

  pub IsWorld-grid_of : IsWorld (grid_of rows)
  IsWorld-grid_of =
      let full : length (marks_of rows) ≡ width_of rows * length rows = size.all_marks
      ∙ mul_comm (length rows) (width_of rows) in
      record {
        sized = record {
          some_columns = size.some_columns;
          most_columns = size.most_columns;
          some_rows = size.some_rows;
          most_rows = size.most_rows;
          all_cells = length-map (marks_of rows) cell_of ∙ full;
        };
        all_items = length-map (marks_of rows) (λ c. c == 42) ∙ full;
        few_agents = length-made (agent_in (width_of rows) (marks_of rows)) 0 26;
        standing = All-made (agent_in (width_of rows) (marks_of rows)) (IsStanding (grid_of rows)) 0 26
            (λ k agent _ e. stands k agent e);
        apart = AllPairs-made (agent_in (width_of rows) (marks_of rows))
            (λ a b. same_point (point_of a) (point_of b) ≡ false) 0 26 stand_apart;
        items_off_walls = λ p lies wall.
            let mark = get_or (marks_of rows) (index_of (grid_of rows) p) 35 in
            let item : mark ≡ 42 = eqb-true mark 42
            (sym (get_or-map (λ c. c == 42) (marks_of rows) (index_of (grid_of rows) p) 35) ∙ lies) in
            let stone : mark ≡ 35 = cell_of-Wall mark (sym (cell_at-mark p) ∙ wall) in
            omega (arith, item, stone);
      }

-- the parts that a map is read into
pub record AreParts (rows : List (List ℕ)) (width height : ℕ) (kinds : List Cell) : Type 0 where
  pub wide : width ≡ width_of rows
  pub high : height ≡ length rows
  pub ground : kinds ≡ map cell_of (marks_of rows)

pub IsSized-parts : (rows : List (List ℕ)) → IsRectangle rows → (width height : ℕ) (kinds : List Cell)
    → AreParts rows width height kinds → IsSized (bare width height kinds)
IsSized-parts rows size width height kinds parts =
    let sized = (IsWorld-grid_of rows size).sized in
    rw (parts.wide, parts.high, parts.ground) (record {
      some_columns = sized.some_columns;
      most_columns = sized.most_columns;
      some_rows = sized.some_rows;
      most_rows = sized.most_rows;
      all_cells = sized.all_cells;
    })

pub furnished-parts : (rows : List (List ℕ)) (width height : ℕ) (kinds : List Cell) (items : List Bool)
    (agents : List Agent) → AreParts rows width height kinds
    → items ≡ map (λ c. c == 42) (marks_of rows)
    → agents ≡ filter_map (agent_in (width_of rows) (marks_of rows)) (count_up 0 26)
    → furnished (bare width height kinds) items agents ≡ grid_of rows
furnished-parts rows width height kinds items agents parts lie stand =
    rw (parts.wide, parts.high, parts.ground, stand, lie) refl

pub IsWorld-parts : (rows : List (List ℕ)) → IsRectangle rows
    → (width height : ℕ) (kinds : List Cell) (items : List Bool) (agents : List Agent)
    → AreParts rows width height kinds
    → items ≡ map (λ c. c == 42) (marks_of rows)
    → agents ≡ filter_map (agent_in (width_of rows) (marks_of rows)) (count_up 0 26)
    → IsWorld (furnished (bare width height kinds) items agents)
IsWorld-parts rows size width height kinds items agents parts lie stand =
    subst IsWorld (sym (furnished-parts rows width height kinds items agents parts lie stand)) (IsWorld-grid_of rows size)
