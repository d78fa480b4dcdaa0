-- A game that is stepped by its script is where the script's game is.
use Rattle.std.proofs.Common.{◌≡◌, ◌∙◌, ◌+◌, ◌++◌, ℕ, suc, List, [], Bool, refl, sym, ap, subst, arith, codes}
use Rattle.std.specs.Prelude.{Ok, IsSomeAnd}
use Rattle.grid_world.specs.Grid.{Grid}
use Rattle.bt_nodes.specs.Plain.{Plain}
use Rattle.bt_nodes.specs.declared.node.Status.{Status}
use Rattle.game_rules.specs.declared.change.Change.{Change}
use Rattle.game_rules.specs.Game.{Game, signals}
use Rattle.game_rules.specs.Play.{Position, play}
use Rattle.game_session.specs.Parts.{Parts}
use Rattle.game_session.specs.Sessions.{game_of}
use Rattle.level_text.specs.Games.{spelled_game, of_both}
use Rattle.level_text.specs.Levels.{spelled}
use Rattle.level_text.specs.Scripts.{script_of}
use Rattle.stepping.specs.LevelDigest.{level_digest_of, script_digest_of}
use Rattle.stepping.specs.Played.{Played, State, opened, state_of, statuses_at, next_signals, scripted_game, scripted_signals, IsStepped}
use Rattle.stepping.specs.StateText.{handed_in, state_head, signals_line, agent_lines, item_lines, state_text, scripted_state_text}
use Rattle.stepping.proofs.Onward.{played_further, scripted_on, scripted_position, scripted_statuses}
use Rattle.commands.specs.Opening.{IsSteppedTo}
use Rattle.commands.specs.Texts.{state_after}

pub spelled_and : (level script : List ℕ) (parts : Parts) (changes : List Change) (P : Game → Type 0) → spelled level ≡ Ok parts → script_of script ≡ Ok changes
    → P (game_of parts changes) → IsSomeAnd (spelled_game level script) P
spelled_and level script parts changes P e f p =
    subst (λ r. IsSomeAnd (of_both r (script_of script)) P) (sym e) (subst (λ r. IsSomeAnd (of_both (Ok parts) r) P) (sym f) p)

pub begun : (parts : Parts) (changes : List Change) → IsSteppedTo (game_of parts changes) 0 (opened (game_of parts []) changes)
begun parts changes = record {
  frame = refl;
  by = λ k some within. absurd (omega (arith, some, within));
  played = record { position = refl; answers = refl };
  game = refl;
  shown = refl;
  next = refl;
}

module _ (level script : List ℕ) (parts : Parts) (changes : List Change) (e : spelled level ≡ Ok parts) (f : script_of script ≡ Ok changes) where
  pub opened_game : (p : Played) → p ≡ opened (game_of parts []) changes → IsSomeAnd (spelled_game level script) (λ g. IsSteppedTo g 0 p)
  opened_game p is = spelled_and level script parts changes (λ g. IsSteppedTo g 0 p) e f (subst (λ q. IsSteppedTo (game_of parts changes) 0 q) (sym is) (begun parts changes))

  pub opened_level : (digest : ℕ) → digest ≡ level_digest_of (game_of parts []) → IsSomeAnd (spelled_game level script) (λ g. digest ≡ level_digest_of g)
  opened_level digest is = spelled_and level script parts changes (λ g. digest ≡ level_digest_of g) e f is

  pub opened_script : (digest : ℕ) → digest ≡ script_digest_of changes → IsSomeAnd (spelled_game level script) (λ g. digest ≡ script_digest_of g.changes)
  opened_script digest is = spelled_and level script parts changes (λ g. digest ≡ script_digest_of g.changes) e f is

handed_more : (script : List Change) (n : ℕ) → signals script (n + 1) ≡ handed_in script (n + 1)
handed_more script n = let e : n + 1 ≡ suc n = omega arith in subst (λ (k : ℕ). signals script k ≡ handed_in script k) (sym e) refl

game_as : Grid → List Plain → List Change → Game
game_as w trees changes = record { world = w; trees = trees; changes = changes }

as_game : (p : Played) → scripted_game p ≡ game_as p.game.world p.game.trees p.script
unfolding game_as
as_game p = refl

module _ (g : Game) (p : Played) where
  pub stepped : (q : Played) → IsStepped (scripted_signals p) p q → IsSteppedTo g p.frame p → IsSteppedTo g (p.frame + 1) q
  stepped q step h =
      let same : scripted_signals p ≡ handed_in g.changes (p.frame + 1) =
      ap (λ (x : Game). signals x.changes (p.frame + 1)) h.game ∙ handed_more g.changes p.frame in
      record {
        frame = step.on.frame;
        by = scripted_on p h.by q step;
        played = played_further (scripted_signals p) p q h.played step;
        game =
            as_game q ∙ ap (λ w. game_as w q.game.trees q.script) step.on.world ∙ ap (λ ts. game_as p.game.world ts q.script) step.on.trees
            ∙ ap (λ cs. game_as p.game.world p.game.trees cs) step.on.script ∙ sym (as_game p) ∙ h.game;
        shown = step.signals_are ∙ same;
        next = step.stay ∙ same;
      }

  pub position_is : (f : ℕ) → IsSteppedTo g f p → p.position ≡ play g f
  position_is f h = h.played.position ∙ scripted_position p h.by ∙ ap (λ x. play x p.frame) h.game ∙ ap (play g) h.frame

  made : ℕ → List Plain → List Bool → Position → State
  made f trees on at = record { frame = f; world = at.world; trees = trees; memories = at.memories; signals = on }

  pub state_is : (n : ℕ) → IsSteppedTo g (n + 1) p → state_of p ≡ state_after g (n + 1)
  unfolding made
  state_is n h =
      ap (λ f. made f p.game.trees (next_signals p) p.position) h.frame
      ∙ ap (λ ts. made (n + 1) ts (next_signals p) p.position) (ap (λ (x : Game). x.trees) h.game)
      ∙ ap (λ on. made (n + 1) g.trees on p.position) (h.next ∙ sym (handed_more g.changes n))
      ∙ ap (made (n + 1) g.trees (signals g.changes (n + 1))) (position_is (n + 1) h)

  text_of : ℕ → ℕ → List Bool → List Bool → Position → List Status → List ℕ
  text_of digest f shown next at sts =
      state_head digest f ++ signals_line (codes "shown") shown ++ signals_line (codes "next") next ++ agent_lines at sts ++ item_lines at.world

  pub text_is : (f : ℕ) → IsSteppedTo g f p → state_text p ≡ scripted_state_text g f
  unfolding text_of
  text_is f h =
      let digest : ℕ = level_digest_of p.game in
      let shown : List Bool = signals p.game.changes p.frame in
      let at : Position = p.position in
      let sts : List Status = p.answers in
      ap (λ (x : Game). text_of (level_digest_of x) p.frame shown (next_signals p) at sts) h.game
      ∙ ap (λ k. text_of (level_digest_of g) k shown (next_signals p) at sts) h.frame
      ∙ ap (λ on. text_of (level_digest_of g) f on (next_signals p) at sts) h.shown
      ∙ ap (λ on. text_of (level_digest_of g) f (handed_in g.changes f) on at sts) h.next
      ∙ ap (λ l. text_of (level_digest_of g) f (handed_in g.changes f) (handed_in g.changes f) l sts) (position_is f h)
      ∙ ap (text_of (level_digest_of g) f (handed_in g.changes f) (handed_in g.changes f) (play g f))
      (h.played.answers ∙ scripted_statuses p h.by ∙ ap (λ x. statuses_at x p.frame) h.game ∙ ap (statuses_at g) h.frame)
