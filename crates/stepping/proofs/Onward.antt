-- What a game's changes leave as it was, and what a step comes to.
use Rattle.std.proofs.Common.{◌≡◌, ◌<◌, ◌≤◌, ℕ, zero, suc, ◌+◌, List, [], ◌∷◌, ◌++◌, map, Bool, false, if◌then◌else◌, refl, sym, ap, ◌∙◌, subst, arith, ⊎_elim, append_assoc, append-nil}
use Rattle.std.specs.Prelude.{nat_le, slice_set, All, replicate}
use Rattle.std.proofs.lemmas.Bool.{cases_lt}
use Rattle.std.proofs.lemmas.List.Elements.{All-append}
use Rattle.grid_world.specs.Grid.{Grid}
use Rattle.grid_world.specs.Intents.{apply_all}
use Rattle.bt_nodes.specs.Plain.{Plain}
use Rattle.bt_nodes.specs.Bounds.{zero_memory}
use Rattle.bt_nodes.specs.declared.node.Status.{Status}
use Rattle.game_rules.specs.declared.change.Change.{Change}
use Rattle.game_rules.specs.Game.{Game, signals, changed_by}
use Rattle.game_rules.specs.Play.{Position, play, thoughts, thoughts_from, turn}
use Rattle.game_rules.specs.Text.{text, texts, frame_text}
use Rattle.stepping.specs.Played.{Played, statuses_at, changed_game, next_frame, next_signals, text_of, IsOnBy, IsPlayed, IsStepped, State, state_of, IsByScript, scripted_game, scripted_signals}

-- ---- changes that come later

none_due : (ds : List Change) (k : ℕ) (on : List Bool) → All (λ c. k < c.frame) ds → changed_by ds k on ≡ on
none_due [] k on all = refl
none_due (d ∷ ds) k on all =
    let h : k < d.frame = all 0 d (omega arith) in
    let e : nat_le d.frame k ≡ false = grind (arith, h) in
    ap (λ b. changed_by ds k (if b then slice_set on d.signal d.on else on)) e ∙ none_due ds k on (λ i x l. all (suc i) x (omega (arith, l)))

pub none_more : (cs ds : List Change) (k : ℕ) (on : List Bool) → All (λ c. k < c.frame) ds → changed_by (cs ++ ds) k on ≡ changed_by cs k on
none_more [] ds k on all = none_due ds k on all
none_more (c ∷ cs) ds k on all = none_more cs ds k (if nat_le c.frame k then slice_set on c.signal c.on else on) all

-- ---- frames

pub turn_by : List Plain → List Bool → Position → Position
turn_by trees on before = let ts = thoughts_from before.world on 0 trees before.memories in
    record { world = apply_all before.world on 0 (map (λ t. t.intent) ts); memories = map (λ t. t.memory) ts }

pub play_suc : (g : Game) (f : ℕ) → play g (suc f) ≡ turn_by g.trees (signals g.changes (suc f)) (play g f)
unfolding turn_by
play_suc g f = refl

turn_is : (g : Game) (f : ℕ) (at : Position) → turn g f at ≡ turn_by g.trees (signals g.changes f) at
unfolding turn_by
turn_is g f at = refl

text_by : ℕ → List Plain → List Bool → Position → List ℕ
text_by f trees on before = text f (turn_by trees on before).world on (map (λ t. t.status) (thoughts_from before.world on 0 trees before.memories))

text_suc : (g : Game) (f : ℕ) → frame_text g (suc f) ≡ text_by (suc f) g.trees (signals g.changes (suc f)) (play g f)
unfolding text_by turn_by
text_suc g f = refl

statuses_by : List Plain → List Bool → Position → List Status
statuses_by trees on before = map (λ t. t.status) (thoughts_from before.world on 0 trees before.memories)

statuses_suc : (g : Game) (f : ℕ) → statuses_at g (suc f) ≡ statuses_by g.trees (signals g.changes (suc f)) (play g f)
unfolding statuses_by
statuses_suc g f = refl

answers_are : (g : Game) (f : ℕ) (at : Position) → map (λ t. t.status) (thoughts g f at) ≡ statuses_by g.trees (signals g.changes f) at
unfolding statuses_by
answers_are g f at = refl

begun : Grid → List Plain → Position
begun w trees = record { world = w; memories = map zero_memory trees }

play_zero : (g : Game) → play g zero ≡ begun g.world g.trees
unfolding begun
play_zero g = refl

-- the same game up to a frame
record IsSameBy (g h : Game) (f : ℕ) : Type 0 where
  world : h.world ≡ g.world
  trees : h.trees ≡ g.trees
  signals_are : (k : ℕ) → suc k ≤ f → signals h.changes (suc k) ≡ signals g.changes (suc k)

module _ (g h : Game) (f : ℕ) (same : IsSameBy g h f) where
  -- what comes of the trees, the signals and the position before a frame
  next_as : {A : Type 0} (by : List Plain → List Bool → Position → A) (n : ℕ) → suc n ≤ f → play h n ≡ play g n
      → by h.trees (signals h.changes (suc n)) (play h n) ≡ by g.trees (signals g.changes (suc n)) (play g n)
  next_as by n l before =
      ap (λ ts. by ts (signals h.changes (suc n)) (play h n)) same.trees
      ∙ ap (λ on. by g.trees on (play h n)) (same.signals_are n l)
      ∙ ap (by g.trees (signals g.changes (suc n))) before

  play_by : (n : ℕ) → n ≤ f → play h n ≡ play g n
  play_by zero l = play_zero h ∙ ap (λ w. begun w h.trees) same.world ∙ ap (λ ts. begun g.world ts) same.trees ∙ sym (play_zero g)
  play_by (suc n) l = play_suc h n ∙ next_as turn_by n l (play_by n (omega (arith, l))) ∙ sym (play_suc g n)

  text_as : (n : ℕ) → n ≤ f → frame_text h n ≡ frame_text g n
  text_as zero l = refl
  text_as (suc n) l = text_suc h n ∙ next_as (text_by (suc n)) n l (play_by n (omega (arith, l))) ∙ sym (text_suc g n)

  statuses_as : (n : ℕ) → n ≤ f → statuses_at h n ≡ statuses_at g n
  statuses_as zero l = refl
  statuses_as (suc n) l = statuses_suc h n ∙ next_as statuses_by n l (play_by n (omega (arith, l))) ∙ sym (statuses_suc g n)

  texts_as : (n : ℕ) → n ≤ f → texts h n ≡ texts g n
  texts_as zero l = refl
  texts_as (suc n) l =
      ap (λ t. t ++ frame_text h (suc n)) (texts_as n (omega (arith, l))) ∙ ap (λ t. texts g n ++ t) (text_as (suc n) l)

-- ---- what is handed in

pub stays_on : (p : Played) → IsOnBy 0 p p
stays_on p = record {
  world = refl;
  trees = refl;
  script = refl;
  frame = omega arith;
  added = [];
  changes = sym (append-nil p.game.changes);
  now = λ k d l. absurd (omega (arith, l));
  still = λ _. (refl, refl);
}

pub handed_on : (p : Played) (c : Change) → c.frame ≡ p.frame + 1 → IsOnBy 0 p (record p { game = changed_game p.game c })
handed_on p c e = record {
  world = refl;
  trees = refl;
  script = refl;
  frame = omega arith;
  added = c ∷ [];
  changes = refl;
  now = one;
  still = λ _. (refl, refl);
}
  where
    one : All (λ (d : Change). d.frame ≡ p.frame + 1) (c ∷ [])
    one zero d l = e
    one (suc k) d l = absurd (omega (arith, l))

pub on_again : (p q r : Played) (n : ℕ) → IsOnBy 0 p q → IsOnBy n q r → IsOnBy n p r
on_again p q r n a b =
    let e : q.frame ≡ p.frame = let h = a.frame in omega (arith, h) in
    let later : All (λ (c : Change). c.frame ≡ p.frame + 1) b.added = subst (λ (k : ℕ). All (λ (c : Change). c.frame ≡ k + 1) b.added) e b.now in
    record {
      world = b.world ∙ a.world;
      trees = b.trees ∙ a.trees;
      script = b.script ∙ a.script;
      frame = b.frame ∙ ap (λ k. k + n) e;
      added = a.added ++ b.added;
      changes = b.changes ∙ ap (λ l. l ++ b.added) a.changes ∙ append_assoc p.game.changes a.added b.added;
      now = All-append (λ (c : Change). c.frame ≡ p.frame + 1) a.added b.added a.now later;
      still = λ none. ((b.still none).0 ∙ (a.still refl).0, (b.still none).1 ∙ (a.still refl).1);
    }

one_on : (p : Played) → IsOnBy 1 p (next_frame p)
one_on p = record {
  world = refl;
  trees = refl;
  script = refl;
  frame = refl;
  added = [];
  changes = sym (append-nil p.game.changes);
  now = λ k d l. absurd (omega (arith, l));
  still = λ e. absurd (omega (arith, e));
}

pub one_stepped : (on : List Bool) (p q r : Played) → IsOnBy 0 p q → next_signals q ≡ on → r ≡ next_frame q → next_signals r ≡ next_signals q → IsStepped on p r
one_stepped on p q r a are is stay = subst (IsStepped on p) (sym is) (record {
  on = on_again p q (next_frame q) 1 a (one_on q);
  signals_are = are;
  stay = ap (λ (x : Played). next_signals x) (sym is) ∙ stay ∙ are;
  position = ap (turn q.game (q.frame + 1)) (a.still refl).0;
  answers = ap (λ (at : Position). map (λ t. t.status) (thoughts q.game (q.frame + 1) at)) (a.still refl).0;
})

-- ---- states

abbrev pub state_as : ℕ → List Plain → List Bool → Position → State
state_as f trees on at = record { frame = f; world = at.world; trees = trees; memories = at.memories; signals = on }

module _ (p q : Played) where
  pub all_same : p.frame ≡ q.frame → next_signals p ≡ next_signals q → p.position.world ≡ q.position.world → p.game.trees ≡ q.game.trees
      → p.position.memories ≡ q.position.memories → state_of p ≡ state_of q
  all_same f on w ts ms =
      ap (λ n. state_as n p.game.trees (next_signals p) p.position) f
      ∙ ap (λ l. state_as q.frame l (next_signals p) p.position) ts
      ∙ ap (λ l. state_as q.frame q.game.trees l p.position) on
      ∙ ap (λ g. state_as q.frame q.game.trees (next_signals q) (record { world = g; memories = p.position.memories })) w
      ∙ ap (λ m. state_as q.frame q.game.trees (next_signals q) (record { world = q.position.world; memories = m })) ms

  pub same_frame : state_of p ≡ state_of q → p.frame ≡ q.frame
  same_frame e = ap (λ (s : State). s.frame) e

  pub same_signals : state_of p ≡ state_of q → next_signals p ≡ next_signals q
  same_signals e = ap (λ (s : State). s.signals) e

  pub same_world : state_of p ≡ state_of q → p.position.world ≡ q.position.world
  same_world e = ap (λ (s : State). s.world) e

  pub same_trees : state_of p ≡ state_of q → p.game.trees ≡ q.game.trees
  same_trees e = ap (λ (s : State). s.trees) e

  pub same_memories : state_of p ≡ state_of q → p.position.memories ≡ q.position.memories
  same_memories e = ap (λ (s : State). s.memories) e

-- ---- steps

-- what is handed in for a frame changes nothing before it
same_before : (n : ℕ) (p q : Played) → IsOnBy n p q → IsSameBy p.game q.game p.frame
same_before n p q on = record {
  world = on.world;
  trees = on.trees;
  signals_are = λ k l. ap (λ cs. signals cs (suc k)) on.changes
      ∙ none_more p.game.changes on.added (suc k) (replicate 26 false) (λ i d h. let e = on.now i d h in omega (arith, e, l));
}

abbrev position_of : State → Position
position_of s = record { world = s.world; memories = s.memories }

next_state : List Bool → State → State
next_state on s = state_as (suc s.frame) s.trees on (turn_by s.trees on (position_of s))

next_text : List Bool → State → List ℕ
next_text on s = text_by (suc s.frame) s.trees on (position_of s)

module _ (signals_now : List Bool) (p q : Played) (step : IsStepped signals_now p q) where
  number : q.frame ≡ suc p.frame
  number = let e = step.on.frame in omega (arith, e)

  before : IsSameBy p.game q.game p.frame
  before = same_before 1 p q step.on

  played_on : q.position ≡ turn_by p.game.trees signals_now p.position
  played_on =
      step.position ∙ turn_is q.game q.frame p.position
      ∙ ap (λ ts. turn_by ts (signals q.game.changes q.frame) p.position) step.on.trees
      ∙ ap (λ on. turn_by p.game.trees on p.position) step.signals_are

  answered_on : q.answers ≡ statuses_by p.game.trees signals_now p.position
  answered_on =
      step.answers ∙ answers_are q.game q.frame p.position
      ∙ ap (λ ts. statuses_by ts (signals q.game.changes q.frame) p.position) step.on.trees
      ∙ ap (λ on. statuses_by p.game.trees on p.position) step.signals_are

  stepped_state : state_of q ≡ next_state signals_now (state_of p)
  unfolding next_state
  stepped_state =
      ap (λ f. state_as f q.game.trees (next_signals q) q.position) number
      ∙ ap (λ ts. state_as (suc p.frame) ts (next_signals q) q.position) step.on.trees
      ∙ ap (λ on. state_as (suc p.frame) p.game.trees on q.position) step.stay
      ∙ ap (state_as (suc p.frame) p.game.trees signals_now) played_on

  stepped_text : text_of q ≡ next_text signals_now (state_of p)
  unfolding next_text text_by statuses_by
  stepped_text =
      ap (λ f. text f q.position.world (signals q.game.changes q.frame) q.answers) number
      ∙ ap (λ (at : Position). text (suc p.frame) at.world (signals q.game.changes q.frame) q.answers) played_on
      ∙ ap (λ on. text (suc p.frame) (turn_by p.game.trees signals_now p.position).world on q.answers) step.signals_are
      ∙ ap (text (suc p.frame) (turn_by p.game.trees signals_now p.position).world signals_now) answered_on

  pub texts_more : texts q.game q.frame ≡ texts p.game p.frame ++ frame_text q.game q.frame
  texts_more =
      ap (texts q.game) number
      ∙ ap (λ t. t ++ frame_text q.game (suc p.frame)) (texts_as p.game q.game p.frame before p.frame (omega arith))
      ∙ ap (λ k. texts p.game p.frame ++ frame_text q.game k) (sym number)

pub alike : (on : List Bool) (p q next_p next_q : Played) → state_of p ≡ state_of q → IsStepped on p next_p → IsStepped on q next_q
    → (state_of next_p ≡ state_of next_q) × (text_of next_p ≡ text_of next_q)
alike on p q next_p next_q same a b = (
  stepped_state on p next_p a ∙ ap (next_state on) same ∙ sym (stepped_state on q next_q b),
  stepped_text on p next_p a ∙ ap (next_text on) same ∙ sym (stepped_text on q next_q b),
)

-- ---- play

pub played_still : (p q : Played) → IsPlayed p → IsOnBy 0 p q → IsPlayed q
played_still p q is on =
    let same = same_before 0 p q on in
    let number : p.frame ≡ q.frame = let e = on.frame in omega (arith, e) in
    record {
      position = (on.still refl).0 ∙ is.position ∙ sym (play_by p.game q.game p.frame same p.frame (omega arith)) ∙ ap (play q.game) number;
      answers = (on.still refl).1 ∙ is.answers ∙ sym (statuses_as p.game q.game p.frame same p.frame (omega arith)) ∙ ap (statuses_at q.game) number;
    }

pub played_further : (on : List Bool) (p q : Played) → IsPlayed p → IsStepped on p q → IsPlayed q
played_further on p q is step =
    let same = same_before 1 p q step.on in
    let number : q.frame ≡ suc p.frame = let e = step.on.frame in omega (arith, e) in
    let there : p.position ≡ play q.game p.frame = is.position ∙ sym (play_by p.game q.game p.frame same p.frame (omega arith)) in
    record {
      position =
          step.position ∙ turn_is q.game q.frame p.position ∙ ap (turn_by q.game.trees (signals q.game.changes q.frame)) there
          ∙ ap (λ f. turn_by q.game.trees (signals q.game.changes f) (play q.game p.frame)) number ∙ sym (play_suc q.game p.frame) ∙ ap (play q.game) (sym number);
      answers =
          step.answers ∙ answers_are q.game q.frame p.position ∙ ap (statuses_by q.game.trees (signals q.game.changes q.frame)) there
          ∙ ap (λ f. statuses_by q.game.trees (signals q.game.changes f) (play q.game p.frame)) number ∙ sym (statuses_suc q.game p.frame)
          ∙ ap (statuses_at q.game) (sym number);
    }

text_at : (g : Game) (f : ℕ) → 0 < f → text f (play g f).world (signals g.changes f) (statuses_at g f) ≡ frame_text g f
text_at g zero h = absurd (omega (arith, h))
text_at g (suc f) h = refl

pub played_text : (p : Played) → IsPlayed p → 0 < p.frame → text_of p ≡ frame_text p.game p.frame
played_text p is some =
    ap (λ (at : Position). text p.frame at.world (signals p.game.changes p.frame) p.answers) is.position
    ∙ ap (text p.frame (play p.game p.frame).world (signals p.game.changes p.frame)) is.answers ∙ text_at p.game p.frame some

-- ---- scripts

module _ (p : Played) (by : IsByScript p) where
  as_scripted : IsSameBy (scripted_game p) p.game p.frame
  as_scripted = record {
    world = refl;
    trees = refl;
    signals_are = λ k l. by (suc k) (omega arith) l;
  }

  pub scripted_position : play p.game p.frame ≡ play (scripted_game p) p.frame
  scripted_position = play_by (scripted_game p) p.game p.frame as_scripted p.frame (omega arith)

  pub scripted_statuses : statuses_at p.game p.frame ≡ statuses_at (scripted_game p) p.frame
  scripted_statuses = statuses_as (scripted_game p) p.game p.frame as_scripted p.frame (omega arith)

  pub scripted_texts : texts p.game p.frame ≡ texts (scripted_game p) p.frame
  scripted_texts = texts_as (scripted_game p) p.game p.frame as_scripted p.frame (omega arith)

  -- the signals of the frames so far stay, and those of the next are the script's
  pub scripted_on : (q : Played) → IsStepped (scripted_signals p) p q → IsByScript q
  scripted_on q step k some within =
      let number : q.frame ≡ p.frame + 1 = step.on.frame in
      ⊎_elim
      (λ earlier.
      ap (λ cs. signals cs k) step.on.changes
      ∙ none_more p.game.changes step.on.added k (replicate 26 false) (λ i d h. let e = step.on.now i d h in omega (arith, e, earlier))
      ∙ by k some (omega (arith, earlier)) ∙ sym (ap (λ cs. signals cs k) step.on.script))
      (λ now.
      let at : k ≡ q.frame = omega (arith, now, within, number) in
      ap (signals q.game.changes) at ∙ step.signals_are ∙ ap (signals p.script) (sym (at ∙ number)) ∙ sym (ap (λ cs. signals cs k) step.on.script))
      (cases_lt k (p.frame + 1))
