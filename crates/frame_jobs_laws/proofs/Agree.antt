-- Runs of one game ask the same questions.
use Rattle.std.proofs.Common.{◌≡◌, ◌≤◌, ◌<◌, ◌⊎◌, ℕ, zero, suc, Bool, true, false, List, [], ◌∷◌, ◌++◌, refl, sym, ap, ap₂, ◌∙◌, subst, ⊎_elim, arith}
use Rattle.std.proofs.lemmas.Bool.{true≢false, cases_order}
use Rattle.job_core.specs.declared.names.Event.{Event}
use Rattle.job_core.specs.Core.{Setup, IsComplete}
use Rattle.job_core.specs.Values.{Game, Position, listed, ways, thought_of, play, texts, values}
use Rattle.job_core.proofs.Computes.{ends_there}
use Rattle.frame_jobs_laws.specs.Asked.{with_questions}
use Rattle.frame_jobs_laws.specs.OwnGames.{asks_after, AsksItsOwn}

pub next_way : {Y S W M : Type 0} (way : S → W → ℕ → M → List Y → Y) (sg : S) (a : ℕ) (old new : List Y) (w w' : W) (m m' : M) → old ≡ new → w ≡ w' → m ≡ m' → old ++ way sg w a m old ∷ [] ≡ new ++ way sg w' a m' new ∷ []
next_way way sg a old new w w' m m' p r t = rw (p, r, t) refl

pub same_of : {Y S W M T : Type 0} (h : S → W → ℕ → M → List Y → T) (sg : S) (a : ℕ) (old new : List Y) (w w' : W) (m m' : M) → old ≡ new → w ≡ w' → m ≡ m' → h sg w a m old ≡ h sg w' a m' new
same_of h sg a old new w w' m m' p r t = rw (p, r, t) refl

pub same_turn : {S W T : Type 0} (turn : S → W → List T → W) (sg : S) (w w' : W) (l l' : List T) → w ≡ w' → l ≡ l' → turn sg w l ≡ turn sg w' l'
same_turn turn sg w w' l l' p q = rw (p, q) refl

pub same_text : {S W T : Type 0} (text : ℕ → S → W → List T → List ℕ) (f : ℕ) (sg : S) (w w' : W) (l l' : List T) → w ≡ w' → l ≡ l' → text f sg w l ≡ text f sg w' l'
same_text text f sg w w' l l' p q = rw (p, q) refl

pub listed_same : {X : Type 0} (n : ℕ) (row other : ℕ → X) → ((a : ℕ) → a < n → row a ≡ other a) → listed n row ≡ listed n other
listed_same zero row other h = refl
listed_same (suc n) row other h = ap₂ (λ x y. x ++ y ∷ []) (listed_same n row other (λ a l. h a (omega arith))) (h n (omega arith))

module _ {World Memory Signals Way Thought : Type 0} (g : Game World Memory Signals Way Thought) (asks : Signals → World → ℕ → Memory → List Way → Bool) (agents n : ℕ) (q r : ℕ → ℕ → ℕ) (aq : AsksItsOwn g asks agents n q) (ar : AsksItsOwn g asks agents n r) where
  record Alike (f : ℕ) : Type 0 where
    world : (play g agents q f).world ≡ (play g agents r f).world
    memory : (a : ℕ) → a < agents → (play g agents q f).memories a ≡ (play g agents r f).memories a

  module _ (f : ℕ) (below : f < n) (alike : Alike f) (a : ℕ) (there : a < agents) where
    ways_same : (k : ℕ) → ways g (play g agents q f) (suc f) a k ≡ ways g (play g agents r f) (suc f) a k
    ways_same zero = refl
    ways_same (suc k) = next_way g.way (g.signals (suc f)) a _ _ _ _ _ _ (ways_same k) alike.world (alike.memory a there)

    asks_same : (k : ℕ) → asks_after g asks agents q f a k ≡ asks_after g asks agents r f a k
    asks_same k = same_of asks (g.signals (suc f)) a _ _ _ _ _ _ (ways_same k) alike.world (alike.memory a there)

    numbers_same : q (suc f) a ≡ r (suc f) a
    numbers_same =
        ⊎_elim (λ e. e) (λ o. ⊎_elim
        (λ l. absurd (true≢false (sym (ar.asked f a (q (suc f) a) below there l) ∙ (sym (asks_same (q (suc f) a)) ∙ aq.ended f a below there))))
        (λ l. absurd (true≢false (sym (aq.asked f a (r (suc f) a) below there l) ∙ (asks_same (r (suc f) a) ∙ ar.ended f a below there))))
        o) (cases_order (q (suc f) a) (r (suc f) a))

    thoughts_same : thought_of g q (play g agents q f) (suc f) a ≡ thought_of g r (play g agents r f) (suc f) a
    thoughts_same = same_of g.thought (g.signals (suc f)) a _ _ _ _ _ _ (ways_same (q (suc f) a) ∙ ap (ways g (play g agents r f) (suc f) a) numbers_same) alike.world (alike.memory a there)

  alike_at : (f : ℕ) → f ≤ n → Alike f
  alike_at zero l = record { world = refl; memory = λ a m. refl }
  alike_at (suc f) l =
      let before = alike_at f (omega arith) in
      record {
        world = same_turn g.turn (g.signals (suc f)) _ _ _ _ before.world (listed_same agents _ _ (λ a m. thoughts_same f (omega arith) before a m));
        memory = λ a m. ap g.memory (thoughts_same f (omega arith) before a m);
      }

  pub texts_same : (e : ℕ) → e ≤ n → texts g agents q e ≡ texts g agents r e
  texts_same zero l = refl
  texts_same (suc e) l =
      ap₂ (λ x y. x ++ y) (texts_same e (omega arith))
      (same_text g.text (suc e) (g.signals (suc e)) _ _ _ _ (alike_at (suc e) l).world (listed_same agents _ _ (λ a m. thoughts_same e (omega arith) (alike_at e (omega arith)) a m)))

pub runs_agree : {World Memory Signals Way Thought : Type 0} (g : Game World Memory Signals Way Thought) (asks : Signals → World → ℕ → Memory → List Way → Bool) (s : Setup) (q r : ℕ → ℕ → ℕ) (workers small large slots : ℕ) (one other : List Event)
    → AsksItsOwn g asks s.agents s.frames q → AsksItsOwn g asks s.agents s.frames r
    → IsComplete (with_questions s q) one → IsComplete (record s { questions = r; workers = workers; small = small; large = large; slots = slots }) other
    → (values g (with_questions s q) one).output ≡ (values g (record s { questions = r; workers = workers; small = small; large = large; slots = slots }) other).output
runs_agree g asks s q r w m l p one other aq ar a b =
    let over : Setup = record s { questions = r; workers = w; small = m; large = l; slots = p } in
    (ends_there g (with_questions s q) one a).0 ∙ (texts_same g asks s.agents s.frames q r aq ar s.frames (omega arith) ∙ sym (ends_there g over other b).0)
