-- The lines of agents: one for each, which ends with its only line feed.
use Rattle.std.proofs.Common.{◌≡◌, ◌≢◌, ◌+◌, ◌∙◌, ◌==◌, ℕ, zero, suc, Bool, true, false, if◌then◌else◌, List, [], ◌∷◌, ◌++◌, map, length, refl, sym, ap, subst, arith, append_assoc, codes, decimal}
use Rattle.std.proofs.lemmas.Bool.{ne_eqb}
use Rattle.std.proofs.lemmas.List.{length-map}
use Rattle.std.proofs.lemmas.List.Elements.{All-nil, All-cons, All-append}
use Rattle.grid_world.specs.Grid.{Grid}
use Rattle.grid_world.specs.declared.cell.Agent.{Agent}
use Rattle.bt_nodes.specs.Bounds.{zero_memory}
use Rattle.bt_nodes.specs.Plain.{Plain}
use Rattle.bt_nodes.specs.declared.node.Status.{Status}
use Rattle.bt_nodes.specs.declared.node.Status.TheVariants.{Success, Failure, Running}
use Rattle.game_rules.specs.Game.{Game, signals}
use Rattle.game_rules.specs.Play.{play, thoughts, thoughts_from}
use Rattle.game_rules.specs.Text.{agent_text, agents_text, status_letter}
use Rattle.game_rules.proofs.Ground.{play_ground}
use Rattle.page_text.specs.Films.{HasNoMark, IsLines, in_front, lines_of}
use Rattle.page_text.specs.Frames.{IsPlayable, lines_at}
use Rattle.page_text.proofs.Plain.{ArePlain, IsPlain, decimal_plain, plain, unmarked}

-- ---- a line

one_line : (n : ℕ) (front rest : List ℕ) → ArePlain front
    → lines_of (suc n) (front ++ 10 ∷ rest) ≡ (front ++ 10 ∷ (lines_of n rest).0, (lines_of n rest).1)
one_line n [] rest are = refl
one_line n (c ∷ front) rest are =
    let other : (c == 10) ≡ false = ne_eqb c 10 (are 0 c (omega arith)).no_feed in
    ap (λ feed. in_front c (if feed then lines_of n (front ++ 10 ∷ rest) else lines_of (suc n) (front ++ 10 ∷ rest))) other
    ∙ ap (in_front c) (one_line n front rest (λ k d l. are (suc k) d (omega (arith, l))))

-- ---- an agent's line, up to its line feed

abbrev load_front : Bool → List ℕ
load_front carrying = if carrying then codes " *" else codes " -"

-- behind its letter, up to its load
abbrev middle : Agent → Status → List ℕ
middle agent st = codes " " ++ status_letter st ++ codes " " ++ decimal agent.x ++ codes "," ++ decimal agent.y

abbrev agent_front : ℕ → Agent → Status → List ℕ
agent_front a agent st = (65 + a) ∷ (middle agent st ++ load_front agent.carrying)

load_ends : (carrying : Bool) → (if carrying then codes " *\n" else codes " -\n") ≡ load_front carrying ++ 10 ∷ []
load_ends true = refl
load_ends false = refl

agent_ends : (a : ℕ) (agent : Agent) (st : Status) → agent_text a agent st ≡ agent_front a agent st ++ 10 ∷ []
agent_ends a agent st =
    ap (λ l. (65 + a) ∷ l)
    (ap (λ load. middle agent st ++ load) (load_ends agent.carrying) ∙ sym (append_assoc (middle agent st) (load_front agent.carrying) (10 ∷ [])))

-- ---- its bytes

one : (c : ℕ) → IsPlain c → ArePlain (c ∷ [])
one c is = All-cons IsPlain c [] is (All-nil IsPlain)

space : IsPlain 32
space = plain 32 (omega arith) (λ e. omega (arith, e))

load_plain : (carrying : Bool) → ArePlain (load_front carrying)
load_plain true = All-cons IsPlain 32 (42 ∷ []) space (one 42 (plain 42 (omega arith) (λ e. omega (arith, e))))
load_plain false = All-cons IsPlain 32 (45 ∷ []) space (one 45 (plain 45 (omega arith) (λ e. omega (arith, e))))

letter_plain : (st : Status) → ArePlain (status_letter st)
letter_plain Success = one 83 (plain 83 (omega arith) (λ e. omega (arith, e)))
letter_plain Failure = one 70 (plain 70 (omega arith) (λ e. omega (arith, e)))
letter_plain Running = one 82 (plain 82 (omega arith) (λ e. omega (arith, e)))

middle_plain : (agent : Agent) (st : Status) → ArePlain (middle agent st)
middle_plain agent st =
    let first = codes " " ++ status_letter st in
    let second = first ++ codes " " in
    let third = second ++ decimal agent.x in
    let fourth = third ++ codes "," in
    All-append IsPlain fourth (decimal agent.y)
    (All-append IsPlain third (codes ",")
    (All-append IsPlain second (decimal agent.x)
    (All-append IsPlain first (codes " ") (All-append IsPlain (codes " ") (status_letter st) (one 32 space) (letter_plain st)) (one 32 space))
    (decimal_plain agent.x))
    (one 44 (plain 44 (omega arith) (λ e. omega (arith, e)))))
    (decimal_plain agent.y)

front_plain : (a : ℕ) (agent : Agent) (st : Status) → ArePlain (agent_front a agent st)
front_plain a agent st =
    All-cons IsPlain (65 + a) (middle agent st ++ load_front agent.carrying) (plain (65 + a) (omega arith) (λ e. omega (arith, e)))
    (All-append IsPlain (middle agent st) (load_front agent.carrying) (middle_plain agent st) (load_plain agent.carrying))

-- ---- the lines of all

read_on : (n a : ℕ) (agent : Agent) (st : Status) (more rest : List ℕ) → lines_of n (more ++ rest) ≡ (more, rest)
    → lines_of (suc n) ((agent_text a agent st ++ more) ++ rest) ≡ (agent_text a agent st ++ more, rest)
read_on n a agent st more rest h =
    let front = agent_front a agent st in
    ap (λ l. lines_of (suc n) ((l ++ more) ++ rest)) (agent_ends a agent st)
    ∙ ap (λ l. lines_of (suc n) (l ++ rest)) (append_assoc front (10 ∷ []) more)
    ∙ ap (lines_of (suc n)) (append_assoc front (10 ∷ more) rest)
    ∙ one_line n front (more ++ rest) (front_plain a agent st)
    ∙ ap (λ (parts : List ℕ × List ℕ). (front ++ 10 ∷ parts.0, parts.1)) h
    ∙ ap (λ (l : List ℕ). (l, rest)) (sym (append_assoc front (10 ∷ []) more))
    ∙ ap (λ (l : List ℕ). (l ++ more, rest)) (sym (agent_ends a agent st))

are_lines : (a : ℕ) (agents : List Agent) (sts : List Status) → length sts ≡ length agents → IsLines (length agents) (agents_text a agents sts)
are_lines a [] sts same = λ rest. refl
are_lines a (agent ∷ agents) [] same = absurd (omega (arith, same))
are_lines a (agent ∷ agents) (st ∷ sts) same = λ rest.
    read_on (length agents) a agent st (agents_text (suc a) agents sts) rest (are_lines (suc a) agents sts (let e : length sts ≡ length agents = omega (arith, same) in e) rest)

unmarked_lines : (a : ℕ) (agents : List Agent) (sts : List Status) → HasNoMark (agents_text a agents sts)
unmarked_lines a [] sts = All-nil (λ c. c ≢ 60)
unmarked_lines a (agent ∷ agents) [] = All-nil (λ c. c ≢ 60)
unmarked_lines a (agent ∷ agents) (st ∷ sts) =
    All-append (λ c. c ≢ 60) (agent_text a agent st) (agents_text (suc a) agents sts)
    (subst HasNoMark (sym (agent_ends a agent st))
    (All-append (λ c. c ≢ 60) (agent_front a agent st) (10 ∷ []) (unmarked (agent_front a agent st) (front_plain a agent st))
    (All-cons (λ c. c ≢ 60) 10 [] (λ e. omega (arith, e)) (All-nil (λ c. c ≢ 60)))))
    (unmarked_lines (suc a) agents sts)

-- ---- those of a game's frames

thoughts_count : (w : Grid) (on : List Bool) (a : ℕ) (ps : List Plain) (ms : List (List ℕ)) → length ms ≡ length ps → length (thoughts_from w on a ps ms) ≡ length ps
thoughts_count w on a [] ms same = refl
thoughts_count w on a (p ∷ ps) [] same = absurd (omega (arith, same))
thoughts_count w on a (p ∷ ps) (m ∷ ms) same = ap suc (thoughts_count w on (suc a) ps ms (let e : length ms ≡ length ps = omega (arith, same) in e))

memories_count : (g : Game) (f : ℕ) → length (play g f).memories ≡ length g.trees
memories_count g zero = length-map g.trees zero_memory
memories_count g (suc f) =
    length-map (thoughts g (suc f) (play g f)) (λ t. t.memory)
    ∙ thoughts_count (play g f).world (signals g.changes (suc f)) 0 g.trees (play g f).memories (memories_count g f)

pub lines_are : (g : Game) (f : ℕ) → IsPlayable g → IsLines (length g.trees) (lines_at g (suc f))
lines_are g f can =
    let sts = map (λ t. t.status) (thoughts g (suc f) (play g f)) in
    let agents = (play g (suc f)).world.agents in
    let count : length agents ≡ length g.trees = (play_ground g (suc f)).agents ∙ can.trees in
    let same : length sts ≡ length agents =
    length-map (thoughts g (suc f) (play g f)) (λ t. t.status)
    ∙ thoughts_count (play g f).world (signals g.changes (suc f)) 0 g.trees (play g f).memories (memories_count g f) ∙ sym count in
    subst (λ n. IsLines n (agents_text 0 agents sts)) count (are_lines 0 agents sts same)

pub lines_unmarked : (g : Game) (f : ℕ) → HasNoMark (lines_at g (suc f))
lines_unmarked g f = unmarked_lines 0 (play g (suc f)).world.agents (map (λ t. t.status) (thoughts g (suc f) (play g f)))
