-- What is stored beside the phases of a state.
use Rattle.std.proofs.Common.{◌≡◌, ◌<◌, ℕ, zero, suc, ◌%◌, Bool, true, false, ◌&&◌, nat_lt, List, [], Option, Some, None, length, slice_get, refl, sym, ap, ◌∙◌, ⊎_elim, arith}
use Rattle.std.proofs.lemmas.Bool.{cases_lt}
use Rattle.job_core.specs.declared.names.JobName.TheVariants.{Logic, Think, Path, Draw}
use Rattle.job_core.specs.Core.{Setup, IsJob, Phase, Absent, Queued, Runs, Waits, Finished, State, Shown}
use Rattle.job_core.proofs.ByCases.{by_lt}
use Rattle.job_core.proofs.Shape.{Shape, there, logic_next, ThinkFits, PathFits, DrawFits}
use Rattle.job_core.proofs.Once.{ended}
use Rattle.board_model.specs.Lists.{bit, at}
use Rattle.board_model.specs.Law.{has_spread, number, SlotsFit}
use Rattle.board_model.specs.Stored.{Part, Stored}
use Rattle.board_model.specs.Needed.{IsInSlot, IsAsked}
use Rattle.board_model.proofs.Kit.{at_some}
use Rattle.board_model.proofs.Places.{get_at}
use Rattle.board_model.proofs.InOrder.{among, among_same}

-- a Logic that is there and has not spread
abbrev pub IsBefore : Phase → Type 0
IsBefore Absent = ⊥
IsBefore Queued = Unit {0}
IsBefore (Runs w zero) = Unit {0}
IsBefore (Runs w (suc k)) = ⊥
IsBefore (Waits zero) = Unit {0}
IsBefore (Waits (suc k)) = ⊥
IsBefore Finished = ⊥

-- one that has spread and isn't finished
abbrev pub IsOpen : Phase → Type 0
IsOpen Absent = ⊥
IsOpen Queued = ⊥
IsOpen (Runs w zero) = ⊥
IsOpen (Runs w (suc k)) = Unit {0}
IsOpen (Waits zero) = ⊥
IsOpen (Waits (suc k)) = Unit {0}
IsOpen Finished = ⊥

-- one that waits for its thinks
abbrev pub IsThinking : Phase → Type 0
IsThinking Absent = ⊥
IsThinking Queued = ⊥
IsThinking (Runs w k) = ⊥
IsThinking (Waits zero) = ⊥
IsThinking (Waits (suc k)) = Unit {0}
IsThinking Finished = ⊥

-- one that is there and doesn't wait for them
abbrev pub IsQuiet : Phase → Type 0
IsQuiet Absent = ⊥
IsQuiet Queued = Unit {0}
IsQuiet (Runs w k) = Unit {0}
IsQuiet (Waits zero) = Unit {0}
IsQuiet (Waits (suc k)) = ⊥
IsQuiet Finished = ⊥

abbrev pub is_over : ℕ → Bool
is_over zero = false
is_over (suc n) = true

-- the thoughts of a frame that are there
abbrev pub thoughts_in : Setup → State → ℕ → List Part
thoughts_in s st f = among f s.agents (λ a. ended (st.phase (Think f a)))

-- the frame in a slot, once its turn is there
abbrev pub turn_once : ℕ → ℕ → Option ℕ
turn_once zero f = None
turn_once (suc n) f = Some f

abbrev pub turn_in : State → Option ℕ → Option ℕ
turn_in st None = None
turn_in st (Some f) = turn_once (ended (st.phase (Logic f))) f

pub record Kept (s : Setup) (k : Stored) (st : State) : Type 0 where
  pub next : (f : ℕ) → IsBefore (st.phase (Logic f)) → k.next ≡ Some f
  pub thoughts : (f : ℕ) → IsThinking (st.phase (Logic f)) → k.thoughts ≡ thoughts_in s st f
  pub no_thoughts : (f : ℕ) → IsQuiet (st.phase (Logic f)) → k.thoughts ≡ []
  pub asking : (f a i : ℕ) → st.phase (Think f a) ≡ Waits (suc i) → IsAsked k f a i (is_over (ended (st.phase (Path f a i))))
  pub turns : (i : ℕ) → i < s.slots → slice_get k.turns i ≡ Some (turn_in st (at k.slots i))
  pub agents : length k.asking ≡ s.agents
  pub places : length k.turns ≡ s.slots

-- ---- phases

pub before_there : (p : Phase) → IsBefore p → (p ≡ Absent → ⊥) × (p ≡ Finished → ⊥)
before_there Absent b = absurd b
before_there Queued b = (λ e. cc, λ e. cc)
before_there (Runs w k) b = (λ e. cc, λ e. cc)
before_there (Waits k) b = (λ e. cc, λ e. cc)
before_there Finished b = absurd b

pub quiet_there : (p : Phase) → IsQuiet p → (p ≡ Absent → ⊥) × (p ≡ Finished → ⊥)
quiet_there Absent b = absurd b
quiet_there Queued b = (λ e. cc, λ e. cc)
quiet_there (Runs w k) b = (λ e. cc, λ e. cc)
quiet_there (Waits k) b = (λ e. cc, λ e. cc)
quiet_there Finished b = absurd b

pub quiet_not_thinking : (p : Phase) → IsQuiet p → IsThinking p → ⊥
quiet_not_thinking Absent b t = b
quiet_not_thinking Queued b t = t
quiet_not_thinking (Runs w k) b t = t
quiet_not_thinking (Waits zero) b t = t
quiet_not_thinking (Waits (suc k)) b t = b
quiet_not_thinking Finished b t = b

pub open_there : (p : Phase) → IsOpen p → (p ≡ Absent → ⊥) × (p ≡ Finished → ⊥)
open_there (Runs w k) b = (λ e. cc, λ e. cc)
open_there (Waits k) b = (λ e. cc, λ e. cc)
open_there _ b = absurd b

open_spread : (p : Phase) → IsOpen p → has_spread p ≡ true
open_spread (Runs w (suc k)) b = refl
open_spread (Waits (suc k)) b = refl
open_spread _ b = absurd b

pub open_not_ended : (p : Phase) → IsOpen p → ended p ≡ 0
open_not_ended Finished b = absurd b
open_not_ended _ b = refl

pub thinking_open : (p : Phase) → IsThinking p → IsOpen p
thinking_open Absent b = absurd b
thinking_open Queued b = absurd b
thinking_open (Runs w k) b = absurd b
thinking_open (Waits zero) b = absurd b
thinking_open (Waits (suc k)) b = tt
thinking_open Finished b = absurd b

thinks : (q : ℕ) (lp p : Phase) → ThinkFits q lp p → (p ≡ Absent → ⊥) → (p ≡ Finished → ⊥) → IsThinking lp
thinks q Absent p h a b = a h
thinks q Queued p h a b = a h
thinks q (Runs w zero) p h a b = a h
thinks q (Runs w (suc k)) p h a b = b h
thinks q (Waits zero) p h a b = a h
thinks q (Waits (suc k)) p h a b = tt
thinks q Finished p h a b = b h

path_waited : (i : ℕ) (tp p : Phase) → PathFits i tp p → (p ≡ Absent → ⊥) → (p ≡ Finished → ⊥) → tp ≡ Waits (suc i)
path_waited i Absent p h a b = absurd (a h)
path_waited i Queued p h a b = absurd (a h)
path_waited i (Runs w k) p h a b = ⊎_elim (λ l. absurd (b (h.0 l))) (λ l. absurd (a (h.1 l))) (cases_lt i k)
path_waited i (Waits k) p h a b = ⊎_elim (λ l. absurd (b (h.0 l))) (λ l. ⊎_elim (λ m. let e : k ≡ suc i = omega arith in ap Waits e) (λ m. absurd (a (h.2 (omega arith)))) (cases_lt i k)) (cases_lt (suc i) k)
path_waited i Finished p h a b = absurd (b h)

draw_done : (lp p : Phase) → DrawFits lp p → (p ≡ Absent → ⊥) → lp ≡ Finished
draw_done Finished p h a = refl
draw_done _ p h a = absurd (a h)

module _ (s : Setup) (st : State) (inv : Shape s st) where
  -- a Logic before its end is that of the next frame
  pub before_next : (f : ℕ) → IsBefore (st.phase (Logic f)) → f ≡ suc inv.turned
  before_next f b = let n = before_there (st.phase (Logic f)) b in logic_next s st inv f n.0 n.1

  pub open_next : (f : ℕ) → IsOpen (st.phase (Logic f)) → f ≡ suc inv.turned
  open_next f b = let n = open_there (st.phase (Logic f)) b in logic_next s st inv f n.0 n.1

  pub quiet_next : (f : ℕ) → IsQuiet (st.phase (Logic f)) → f ≡ suc inv.turned
  quiet_next f b = let n = quiet_there (st.phase (Logic f)) b in logic_next s st inv f n.0 n.1

  pub thinking_next : (f : ℕ) → IsThinking (st.phase (Logic f)) → f ≡ suc inv.turned
  thinking_next f b = open_next f (thinking_open (st.phase (Logic f)) b)

  -- a Think under way, and a Path, are of a Logic that waits for its thinks
  pub thinking_of_think : (f a : ℕ) → (st.phase (Think f a) ≡ Absent → ⊥) → (st.phase (Think f a) ≡ Finished → ⊥) → IsThinking (st.phase (Logic f))
  thinking_of_think f a na nf =
      let v : IsJob s (Think f a) = there s st inv (Think f a) na in
      thinks (s.questions f a) (st.phase (Logic f)) (st.phase (Think f a)) (inv.think f a v.0 v.1) na nf

  pub open_of_think : (f a : ℕ) → (st.phase (Think f a) ≡ Absent → ⊥) → (st.phase (Think f a) ≡ Finished → ⊥) → IsOpen (st.phase (Logic f))
  open_of_think f a na nf = thinking_open (st.phase (Logic f)) (thinking_of_think f a na nf)

  pub think_of_path : (f a i : ℕ) → (st.phase (Path f a i) ≡ Absent → ⊥) → (st.phase (Path f a i) ≡ Finished → ⊥) → st.phase (Think f a) ≡ Waits (suc i)
  think_of_path f a i na nf =
      let v : IsJob s (Path f a i) = there s st inv (Path f a i) na in
      path_waited i (st.phase (Think f a)) (st.phase (Path f a i)) (inv.path f a i v.0 v.1 v.2) na nf

  pub open_of_wait : (f a i : ℕ) → st.phase (Think f a) ≡ Waits i → IsOpen (st.phase (Logic f))
  open_of_wait f a i e = open_of_think f a (λ z. cc) (λ z. cc)

  -- a Draw under way is of a Logic that is finished, and its frame isn't shown
  pub logic_of_draw : (f b : ℕ) → (st.phase (Draw f b) ≡ Absent → ⊥) → st.phase (Logic f) ≡ Finished
  logic_of_draw f b na =
      let v : IsJob s (Draw f b) = there s st inv (Draw f b) na in
      draw_done (st.phase (Logic f)) (st.phase (Draw f b)) (inv.draw f b v.0 v.1) na

  pub unshown_of_draw : (f b : ℕ) → (st.phase (Draw f b) ≡ Absent → ⊥) → (st.phase (Draw f b) ≡ Finished → ⊥) → st.emitted < f
  unshown_of_draw f b na nf =
      let v : IsJob s (Draw f b) = there s st inv (Draw f b) na in
      ⊎_elim (λ l. l) (λ l. absurd (nf (inv.drawn f b v.0.0 v.1 l))) (cases_lt st.emitted f)

  -- ---- frames in slots

  pub open_shown : (f : ℕ) → IsOpen (st.phase (Logic f)) → number s st (Shown f) ≡ 1
  open_shown f b =
      let e = open_next f b in
      let l = inv.behind in
      ap (λ x. bit (x && nat_lt st.emitted f)) (open_spread (st.phase (Logic f)) b) ∙ by_lt st.emitted f (λ x. bit x ≡ 1) (λ m. refl) (λ m. absurd (omega arith))

  pub done_shown : (f : ℕ) → st.phase (Logic f) ≡ Finished → st.emitted < f → number s st (Shown f) ≡ 1
  done_shown f e l = ap (λ p. bit (has_spread p && nat_lt st.emitted f)) e ∙ by_lt st.emitted f (λ x. bit x ≡ 1) (λ m. refl) (λ m. absurd (omega arith))

  module _ (k : Stored) (fit : SlotsFit s k.slots (number s st)) where
    pub in_slot : (f : ℕ) → number s st (Shown f) ≡ 1 → IsInSlot s k f
    in_slot f e = let a = fit.full f e in get_at k.slots (f % s.slots) (at_some k.slots (f % s.slots) f a) ∙ ap Some a

-- ---- what is stored of jobs that end alike

pub thoughts_same : (s : Setup) (st st' : State) (f : ℕ) → ((a : ℕ) → ended (st'.phase (Think f a)) ≡ ended (st.phase (Think f a))) → thoughts_in s st f ≡ thoughts_in s st' f
thoughts_same s st st' f h = among_same f s.agents _ _ (λ a l. sym (h a))

pub turn_same : (st st' : State) (o : Option ℕ) → ((f : ℕ) → o ≡ Some f → ended (st'.phase (Logic f)) ≡ ended (st.phase (Logic f))) → turn_in st o ≡ turn_in st' o
turn_same st st' None h = refl
turn_same st st' (Some f) h = ap (λ n. turn_once n f) (sym (h f refl))
