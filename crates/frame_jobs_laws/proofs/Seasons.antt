-- Frames that are played in seasons are those that are played at once.
use Rattle.std.proofs.Common.{◌≡◌, ◌≤◌, ◌<◌, ◌+◌, ℕ, zero, suc, List, [], ◌∷◌, ◌++◌, refl, sym, ap, ap₂, ◌∙◌, arith}
use Rattle.std.proofs.lemmas.List.{append_assoc}
use Rattle.job_core.specs.Values.{Game, Position, listed, ways, thought_of, play, texts}
use Rattle.frame_jobs_laws.specs.Seasons.{later, from}
use Rattle.frame_jobs_laws.proofs.Agree.{next_way, same_of, same_turn, same_text, listed_same}

append_nil : {X : Type 0} (xs : List X) → xs ++ [] ≡ xs
append_nil [] = refl
append_nil (x ∷ xs) = ap (λ ys. x ∷ ys) (append_nil xs)

module _ {World Memory Signals Way Thought : Type 0} (g : Game World Memory Signals Way Thought) (agents : ℕ) (q : ℕ → ℕ → ℕ) (n : ℕ) where
  record Alike (m : ℕ) : Type 0 where
    world : (play g agents q (n + m)).world ≡ (play (later g agents q n) agents (from n q) m).world
    memory : (a : ℕ) → (play g agents q (n + m)).memories a ≡ (play (later g agents q n) agents (from n q) m).memories a

  next : (m : ℕ) → n + suc m ≡ suc (n + m)
  next m = omega arith

  module _ (m : ℕ) (h : Alike m) where
    ways_same : (a k : ℕ) → ways g (play g agents q (n + m)) (n + suc m) a k ≡ ways (later g agents q n) (play (later g agents q n) agents (from n q) m) (suc m) a k
    ways_same a zero = refl
    ways_same a (suc k) = next_way g.way (g.signals (n + suc m)) a _ _ _ _ _ _ (ways_same a k) h.world (h.memory a)

    thoughts_same : (a : ℕ) → thought_of g q (play g agents q (n + m)) (suc (n + m)) a ≡ thought_of (later g agents q n) (from n q) (play (later g agents q n) agents (from n q) m) (suc m) a
    thoughts_same a =
        ap (λ k. thought_of g q (play g agents q (n + m)) k a) (sym (next m))
        ∙ same_of g.thought (g.signals (n + suc m)) a _ _ _ _ _ _ (ways_same a (q (n + suc m) a)) h.world (h.memory a)

    alike_next : Alike (suc m)
    alike_next = record {
      world =
          ap (λ k. (play g agents q k).world) (next m)
          ∙ (ap (λ k. g.turn (g.signals k) (play g agents q (n + m)).world (listed agents (thought_of g q (play g agents q (n + m)) (suc (n + m))))) (sym (next m))
          ∙ same_turn g.turn (g.signals (n + suc m)) _ _ _ _ h.world (listed_same agents _ _ (λ a l. thoughts_same a)));
      memory = λ a. ap (λ k. (play g agents q k).memories a) (next m) ∙ ap g.memory (thoughts_same a);
    }

  alike : (m : ℕ) → Alike m
  alike zero = record { world = ap (λ k. (play g agents q k).world) (none n); memory = λ a. ap (λ k. (play g agents q k).memories a) (none n) }
    where
      none : (n : ℕ) → n + 0 ≡ n
      none n = omega arith
  alike (suc m) = alike_next m (alike m)

  pub same_world : (m : ℕ) → (play g agents q (n + m)).world ≡ (play (later g agents q n) agents (from n q) m).world
  same_world m = (alike m).world

  pub same_memory : (m a : ℕ) → (play g agents q (n + m)).memories a ≡ (play (later g agents q n) agents (from n q) m).memories a
  same_memory m a = (alike m).memory a

  pub same_texts : (m : ℕ) → texts g agents q (n + m) ≡ texts g agents q n ++ texts (later g agents q n) agents (from n q) m
  same_texts zero = ap (texts g agents q) (none n) ∙ sym (append_nil (texts g agents q n))
    where
      none : (n : ℕ) → n + 0 ≡ n
      none n = omega arith
  same_texts (suc m) =
      ap (texts g agents q) (next m)
      ∙ (ap₂ (λ x y. x ++ y) (same_texts m) last ∙ append_assoc (texts g agents q n) (texts (later g agents q n) agents (from n q) m) _)
    where
      last : g.text (suc (n + m)) (g.signals (suc (n + m))) (play g agents q (suc (n + m))).world (listed agents (thought_of g q (play g agents q (n + m)) (suc (n + m))))
          ≡ g.text (n + suc m) (g.signals (n + suc m)) (play (later g agents q n) agents (from n q) (suc m)).world (listed agents (thought_of (later g agents q n) (from n q) (play (later g agents q n) agents (from n q) m) (suc m)))
      last =
          ap (λ k. g.text k (g.signals k) (play g agents q k).world (listed agents (thought_of g q (play g agents q (n + m)) (suc (n + m))))) (sym (next m))
          ∙ same_text g.text (n + suc m) (g.signals (n + suc m)) _ _ _ _ (same_world (suc m)) (listed_same agents _ _ (λ a l. thoughts_same m (alike m) a))
