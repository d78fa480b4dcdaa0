-- A tick that was cut at each of its questions, and given the ways to the places that it asked for.
use Rattle.std.specs.Prelude.{◌≡◌, ◌<◌, ℕ, List, ◌++◌}
use Rattle.bt_nodes.specs.Plain.{Plain}
use Rattle.game_rules.specs.View.{View}
use Rattle.game_rules.specs.Tick.{Stands}
use Rattle.game_rules.specs.Thought.{ticked, ways}
use Rattle.bt_tick.specs.Outcome.{ComesTo, IsOfTree}
use Rattle.bt_tick.specs.declared.tick.Outcome.{Outcome}

-- what an agent's tick comes to when it was given its first i answers, at each of which it stood
pub record Thinking {T A : Type 0} (v : View) (p : Plain) (memory : List ℕ) (i : ℕ) (o : Outcome T A) : Type 0 where
  pub places : List ℕ
  pub comes : ComesTo v places o (λ more. ticked v p memory (ways v p memory i ++ more))
  pub tree : IsOfTree p o
  pub stood : (j : ℕ) → j < i → (ticked v p memory (ways v p memory j)).reply ≡ Stands
