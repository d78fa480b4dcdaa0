-- What is told of a tick by a game before a frame and after it, as what the script's game says.
use Rattle.std.proofs.Common.{◌≡◌, ◌∙◌, ◌<◌, ◌≤◌, ◌+◌, ◌-◌, ℕ, suc, List, [], Bool, Option, None, Some, sym, ap, subst, length, arith}
use Rattle.std.specs.Prelude.{IsSomeAnd}
use Rattle.bt_nodes.specs.Plain.{Plain}
use Rattle.bt_nodes.specs.declared.node.Status.{Status}
use Rattle.game_rules.specs.Game.{Game, signals}
use Rattle.game_rules.specs.Play.{Position, play}
use Rattle.stepping.specs.Played.{Played, statuses_at, scripted_signals}
use Rattle.stepping.proofs.Onward.{scripted_statuses}
use Rattle.tick_text.specs.Text.{IsNextTickText, text_between, tick_text}
use Rattle.commands.specs.Opening.{IsSteppedTo}
use Rattle.commands.specs.Why.{HasAgent, why_text}
use Rattle.commands.proofs.Stepped.{position_is, stepped}

-- ---- agents

trees_are : (g : Game) (f : ℕ) (p : Played) → IsSteppedTo g f p → p.game.trees ≡ g.trees
trees_are g f p h = ap (λ (x : Game). x.trees) h.game

pub has_agent : (game : Option Game) (p : Played) (a : ℕ) → IsSomeAnd game (λ g. IsSteppedTo g 0 p) → a < length p.game.trees → IsSomeAnd game (HasAgent a)
has_agent None p a opened less = absurd opened
has_agent (Some g) p a opened less = omega (arith, less, ap length (trees_are g 0 p opened))

pub has_no_agent : (game : Option Game) (p : Played) (a : ℕ) → IsSomeAnd game (λ g. IsSteppedTo g 0 p) → length p.game.trees ≤ a → IsSomeAnd game (λ g. length g.trees ≤ a)
has_no_agent None p a opened least = absurd opened
has_no_agent (Some g) p a opened least = omega (arith, least, ap length (trees_are g 0 p opened))

-- ---- texts

between_is : (g : Game) (a n : ℕ) (p q : Played) → IsSteppedTo g n p → IsSteppedTo g (suc n) q → text_between (scripted_signals p) p q a ≡ why_text g (suc n) a
between_is g a n p q h k =
    let before : Position = p.position in
    let after : Position = q.position in
    let sts : List Status = q.answers in
    let on : List Bool = scripted_signals p in
    let next : p.frame + 1 ≡ suc n = omega (arith, h.frame) in
    let same_on : on ≡ signals g.changes (suc n) = ap (λ (x : Game). signals x.changes (p.frame + 1)) h.game ∙ ap (signals g.changes) next in
    let same_sts : sts ≡ statuses_at g (suc n) = k.played.answers ∙ scripted_statuses q k.by ∙ ap (λ (x : Game). statuses_at x q.frame) k.game ∙ ap (statuses_at g) k.frame in
    ap (λ f. tick_text p.game.trees on before after sts f a) k.frame
    ∙ ap (λ (x : Position). tick_text p.game.trees on x after sts (suc n) a) (position_is g p n h)
    ∙ ap (λ (x : Position). tick_text p.game.trees on (play g n) x sts (suc n) a) (position_is g q (suc n) k)
    ∙ ap (λ (l : List Status). tick_text p.game.trees on (play g n) (play g (suc n)) l (suc n) a) same_sts
    ∙ ap (λ (l : List Bool). tick_text p.game.trees l (play g n) (play g (suc n)) (statuses_at g (suc n)) (suc n) a) same_on
    ∙ ap (λ (l : List Plain). tick_text l (signals g.changes (suc n)) (play g n) (play g (suc n)) (statuses_at g (suc n)) (suc n) a) (trees_are g n p h)

-- the frames before it, and one more
pub why_is : (game : Option Game) (o p : Played) (frame a : ℕ) (text : List ℕ) → 0 < frame → IsSomeAnd game (λ g. IsSteppedTo g 0 o)
    → ((g : Game) → IsSteppedTo g 0 o → IsSteppedTo g (frame - 1) p) → IsNextTickText p (scripted_signals p) a text → IsSomeAnd game (λ g. text ≡ why_text g frame a)
why_is None o p frame a text some opened goes told = absurd opened
why_is (Some g) o p frame a text some opened goes told =
    let n : ℕ = frame - 1 in
    let q : Played = told.0 in
    let there : IsSteppedTo g n p = goes g opened in
    let here : IsSteppedTo g p.frame p = subst (λ k. IsSteppedTo g k p) (sym there.frame) there in
    let one : p.frame + 1 ≡ suc n = omega (arith, there.frame) in
    let whole : suc n ≡ frame = omega (arith, some) in
    told.2 ∙ between_is g a n p q there (subst (λ k. IsSteppedTo g k q) one (stepped g p q told.1 here)) ∙ ap (λ k. why_text g k a) whole

pub no_tick : (game : Option Game) (o : Played) (frame a : ℕ) (text : List ℕ) → frame ≡ 0 → IsSomeAnd game (λ g. IsSteppedTo g 0 o) → text ≡ []
    → IsSomeAnd game (λ g. text ≡ why_text g frame a)
no_tick None o frame a text none opened is = absurd opened
no_tick (Some g) o frame a text none opened is = is ∙ ap (λ k. why_text g k a) (sym none)
