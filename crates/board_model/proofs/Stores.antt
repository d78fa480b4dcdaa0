-- What each legal event needs is stored, by induction on the log.
use Rattle.std.proofs.Common.{◌≡◌, ◌<◌, ℕ, zero, suc, ◌-◌, ◌%◌, ◌∷◌, ◌++◌, List, [], Some, None, length, replicate, slice_set, if◌then◌else◌, refl, sym, ap, ◌∙◌, subst, ⊎_elim, arith}
use Rattle.std.proofs.lemmas.Bool.{cases_lt}
use Rattle.std.proofs.Math.Nat.{mod-lt}
use Rattle.job_core.specs.declared.names.JobName.{JobName}
use Rattle.job_core.specs.declared.names.JobName.TheVariants.{Logic, Think, Path, Draw}
use Rattle.job_core.specs.declared.names.Event.{Event}
use Rattle.job_core.specs.declared.names.Event.TheVariants.{Start, Resume, Ask, Spread, Hold, Finish, Emit, Stop}
use Rattle.job_core.specs.Core.{Setup, IsJob, Phase, Absent, Queued, Runs, Waits, Finished, State, left, unfinished, awaited, May, IsLegal, step_of, after, after_all, opening, state, IsLegalFrom, IsLegalList}
use Rattle.job_core.proofs.ByCases.{by_eq_lt}
use Rattle.job_core.proofs.Sums.{total_all_zero}
use Rattle.job_core.proofs.Rank.{path_waits, draw_waits}
use Rattle.job_core.proofs.Shape.{Shape, keeps, opens, there, asked, zero_finished, ThinkFits, PathFits, DrawFits}
use Rattle.job_core.proofs.Once.{ended}
use Rattle.board_model.specs.Lists.{at}
use Rattle.board_model.specs.Board.{Core, core_after, core_opening}
use Rattle.board_model.specs.Law.{number, SlotsFit, Fits}
use Rattle.board_model.specs.Stored.{Stored, store, stored_first, stored_from, stored_after}
use Rattle.board_model.specs.Needed.{IsInSlot, IsAsked, IsMissing, HasTurn, HasParts, HasPlaces, IsThere}
use Rattle.board_model.proofs.Bridges.{write_is}
use Rattle.board_model.proofs.Fit.{step_fits}
use Rattle.board_model.proofs.Needs.{slot_free}
use Rattle.board_model.proofs.Opening.{opening_fits}
use Rattle.board_model.proofs.Places.{length_replicate, get_first, get_at}
use Rattle.board_model.proofs.InOrder.{among, among_all, among_missing, among_short}
use Rattle.board_model.proofs.Kept.{Kept, IsBefore, IsOpen, IsThinking, is_over, turn_once, turn_in, open_of_think, thinking_of_think, open_of_wait, think_of_path, logic_of_draw, unshown_of_draw, open_shown, done_shown, in_slot}
use Rattle.board_model.proofs.Storing.{starts, resumes, holds, stops, spreads, asks, path_ends, think_ends, draw_ends}
use Rattle.board_model.proofs.Showing.{logic_ends, emits}

-- ---- what an event needs

module _ (s : Setup) (st : State) (inv : Shape s st) (k : Stored) (g : Kept s k st) (fit : SlotsFit s k.slots (number s st)) (p : 0 < s.slots) where
  slot_of_open : (f : ℕ) → IsOpen (st.phase (Logic f)) → IsInSlot s k f
  slot_of_open f b = in_slot s st inv k fit f (open_shown s st inv f b)

  -- the turn of a frame whose Logic is finished, and that isn't shown
  has_turn : (f : ℕ) → st.phase (Logic f) ≡ Finished → st.emitted < f → HasTurn s k f
  has_turn f e l =
      g.turns (f % s.slots) (mod-lt f p)
      ∙ ap Some (ap (turn_in st) (fit.full f (done_shown s st inv f e l)) ∙ ap (λ n. turn_once n f) (ap ended e))

  start_there : (w : ℕ) (j : JobName) → st.phase j ≡ Queued → HasParts s k j 0
  start_there w (Logic f) q = tt
  start_there w (Think f a) q =
      let v : IsJob s (Think f a) = there s st inv (Think f a) (λ y. cc) in
      (slot_of_open f (open_of_think s st inv f a (λ y. cc) (λ y. cc)), v.1)
  start_there w (Path f a i) q =
      let e : st.phase (Think f a) ≡ Waits (suc i) = think_of_path s st inv f a i (λ y. cc) (λ y. cc) in
      (slot_of_open f (open_of_wait s st inv f a (suc i) e), subst (λ x. IsAsked k f a i (is_over (ended x))) q (g.asking f a i e))
  start_there w (Draw f b) q =
      let v : IsJob s (Draw f b) = there s st inv (Draw f b) (λ y. cc) in
      (has_turn f (logic_of_draw s st inv f b (λ y. cc)) (unshown_of_draw s st inv f b (λ y. cc) (λ y. cc)), v.1)

  logic_there : (f n : ℕ) → st.phase (Logic f) ≡ Waits n → left s st (awaited s (Logic f) n) ≡ 0 → HasParts s k (Logic f) n
  logic_there f zero q z = tt
  logic_there f (suc n) q z =
      let b : IsOpen (st.phase (Logic f)) = subst IsOpen (sym q) tt in
      (slot_of_open f b, g.thoughts f (subst IsThinking (sym q) tt) ∙ among_all f s.agents (λ a. ended (st.phase (Think f a))) (λ a l. ap ended (zero_finished (st.phase (Think f a)) (total_all_zero s.agents (λ a. unfinished (st.phase (Think f a))) z a l))))

  think_there : (f a n : ℕ) → 0 < n → st.phase (Think f a) ≡ Waits n → left s st (awaited s (Think f a) n) ≡ 0 → HasParts s k (Think f a) n
  think_there f a zero l q z = absurd (omega arith)
  think_there f a (suc i) l q z =
      let v : IsJob s (Think f a) = there s st inv (Think f a) (λ y. cc) in
      let same : suc i - 1 ≡ i = omega arith in
      let e : st.phase (Path f a i) ≡ Finished = zero_finished (st.phase (Path f a i)) (subst (λ x. unfinished (st.phase (Path f a x)) ≡ 0) same z) in
      (slot_of_open f (open_of_wait s st inv f a (suc i) q), v.1, subst (λ x. IsAsked k f a i (is_over (ended x))) e (g.asking f a i q))

  resume_there : (w n : ℕ) (j : JobName) → st.phase j ≡ Waits n → left s st (awaited s j n) ≡ 0 → HasParts s k j n
  resume_there w n (Logic f) q z = logic_there f n q z
  resume_there w n (Think f a) q z =
      let v : IsJob s (Think f a) = there s st inv (Think f a) (λ y. cc) in
      think_there f a n (asked (s.questions f a) n (st.phase (Logic f)) (subst (λ x. ThinkFits (s.questions f a) (st.phase (Logic f)) x) q (inv.think f a v.0 v.1))).0 q z
  resume_there w n (Path f a i) q z =
      let v : IsJob s (Path f a i) = there s st inv (Path f a i) (λ y. cc) in
      absurd (path_waits i n (st.phase (Think f a)) (st.phase (Path f a i)) (inv.path f a i v.0 v.1 v.2) q)
  resume_there w n (Draw f b) q z =
      let v : IsJob s (Draw f b) = there s st inv (Draw f b) (λ y. cc) in
      absurd (draw_waits n (st.phase (Logic f)) (st.phase (Draw f b)) (inv.draw f b v.0 v.1) q)

  event_there : (e : Event) → May s st e → ((w f : ℕ) → e ≡ Spread w (Logic f) → at k.slots (f % s.slots) ≡ None) → IsThere s st k e
  event_there (Start w j) m free = start_there w j m.2
  event_there (Resume w j) m free = let r = m.2 in subst (HasParts s k j) (sym (ap step_of r.1)) (resume_there w r.0 j r.1 r.2)
  event_there (Spread w (Logic f)) m free =
      let q : st.phase (Logic f) ≡ Runs w 0 = m.0 in
      (g.next f (subst IsBefore (sym q) tt), get_at k.slots (f % s.slots) (let x = fit.size in let y = mod-lt f p in omega arith) ∙ ap Some (free w f refl))
  event_there (Hold w (Logic f)) m free = tt
  event_there (Ask w (Think f a)) m free =
      let q : st.phase (Think f a) ≡ Runs w m.0 = m.1 in
      let v : IsJob s (Think f a) = there s st inv (Think f a) (λ y. cc) in
      let x = g.agents in omega (arith, v.1)
  event_there (Finish w (Logic f)) m free =
      let q : st.phase (Logic f) ≡ Runs w 1 = m.1 ∙ ap (λ n. Runs w n) m.2 in
      g.turns (f % s.slots) (mod-lt f p) ∙ ap Some (ap (turn_in st) (fit.full f (open_shown s st inv f (subst IsOpen (sym q) tt))) ∙ ap (λ n. turn_once n f) (ap ended q))
  event_there (Finish w (Think f a)) m free =
      let q : st.phase (Think f a) ≡ Runs w m.0 = m.1 in
      let v : IsJob s (Think f a) = there s st inv (Think f a) (λ y. cc) in
      subst (λ ps. IsMissing a ps × (length ps < s.agents)) (sym (g.thoughts f (thinking_of_think s st inv f a (λ y. cc) (λ y. cc))))
      (among_missing f s.agents a (λ c. ended (st.phase (Think f c))) (ap ended q), among_short f s.agents a (λ c. ended (st.phase (Think f c))) v.1 (ap ended q))
  event_there (Finish w (Path f a i)) m free =
      let q : st.phase (Path f a i) ≡ Runs w m.0 = m.1 in
      subst (λ x. IsAsked k f a i (is_over (ended x))) q (g.asking f a i (think_of_path s st inv f a i (λ y. cc) (λ y. cc)))
  event_there (Finish w (Draw f b)) m free = tt
  event_there (Emit f) m free =
      let l : st.emitted < f = let e : f ≡ suc st.emitted = m.0 in omega arith in (in_slot s st inv k fit f (done_shown s st inv f m.2 l), has_turn f m.2 l)
  event_there Stop m free = tt
  event_there _ m free = absurd m

-- ---- over logs

-- the slots are those of the machine
same_slots : (s : Setup) (st : State) (k : Stored) (c : Core) (e : Event) → k.slots ≡ c.slots → (store s st k e).slots ≡ (core_after s c e).slots
same_slots s st k c (Start w j) h = h
same_slots s st k c (Resume w (Logic f)) h = h
same_slots s st k c (Resume w (Think f a)) h = h
same_slots s st k c (Resume w (Path f a i)) h = h
same_slots s st k c (Resume w (Draw f b)) h = h
same_slots s st k c (Spread w (Logic f)) h = ap (λ xs. slice_set xs (f % s.slots) (Some f)) h ∙ sym (write_is c.slots (f % s.slots) (Some f))
same_slots s st k c (Hold w (Logic f)) h = h
same_slots s st k c (Ask w (Think f a)) h = h
same_slots s st k c (Finish w (Logic f)) h = h
same_slots s st k c (Finish w (Think f a)) h = h
same_slots s st k c (Finish w (Path f a i)) h = h
same_slots s st k c (Finish w (Draw f b)) h = h
same_slots s st k c (Emit f) h = ap (λ xs. slice_set xs (f % s.slots) None) h ∙ sym (write_is c.slots (f % s.slots) None)
same_slots s st k c Stop h = h
same_slots s st k c (Spread w (Think f a)) h = h
same_slots s st k c (Spread w (Path f a i)) h = h
same_slots s st k c (Spread w (Draw f b)) h = h
same_slots s st k c (Hold w (Think f a)) h = h
same_slots s st k c (Hold w (Path f a i)) h = h
same_slots s st k c (Hold w (Draw f b)) h = h
same_slots s st k c (Ask w (Logic f)) h = h
same_slots s st k c (Ask w (Path f a i)) h = h
same_slots s st k c (Ask w (Draw f b)) h = h

-- what is stored, beside the state and what the machine keeps
record Tied (s : Setup) (k : Stored) (st : State) : Type 0 where
  shape : Shape s st
  core : Core
  fits : Fits s core st
  same : k.slots ≡ core.slots
  kept : Kept s k st

fit_of : (s : Setup) (k : Stored) (st : State) → Tied s k st → SlotsFit s k.slots (number s st)
fit_of s k st t = subst (λ xs. SlotsFit s xs (number s st)) (sym t.same) t.fits.slots

free_of : (s : Setup) (k : Stored) (st : State) (t : Tied s k st) (w f : ℕ) → May s st (Spread w (Logic f)) → at k.slots (f % s.slots) ≡ None
free_of s k st t w f m = ap (λ xs. at xs (f % s.slots)) t.same ∙ slot_free s st t.shape t.core t.fits w f m

kept_step : (s : Setup) (k : Stored) (st : State) → 0 < s.slots → Tied s k st → (e : Event) → May s st e → Kept s (store s st k e) (after s st e)
kept_step s k st p t (Start w j) m = starts s st t.shape k t.kept w j m
kept_step s k st p t (Resume w j) m = resumes s st t.shape k t.kept w j m
kept_step s k st p t (Spread w (Logic f)) m = spreads s st t.shape k t.kept w f m (mod-lt f p) (fit_of s k st t).size (free_of s k st t w f m)
kept_step s k st p t (Hold w (Logic f)) m = holds s st t.shape k t.kept w f m
kept_step s k st p t (Ask w (Think f a)) m = asks s st t.shape k t.kept w f a m
kept_step s k st p t (Finish w (Logic f)) m = logic_ends s st t.shape k t.kept (fit_of s k st t) w f (mod-lt f p) m
kept_step s k st p t (Finish w (Think f a)) m = think_ends s st t.shape k t.kept w f a m
kept_step s k st p t (Finish w (Path f a i)) m = path_ends s st t.shape k t.kept w f a i m
kept_step s k st p t (Finish w (Draw f b)) m = draw_ends s st t.shape k t.kept w f b m
kept_step s k st p t (Emit f) m = emits s st t.shape k t.kept (fit_of s k st t) f (mod-lt f p)
kept_step s k st p t Stop m = stops s st t.shape k t.kept
kept_step s k st p t _ m = absurd m

tied_from : (s : Setup) (k : Stored) (st : State) → 0 < s.slots → Tied s k st → (es : List Event) → IsLegalFrom s st es → Tied s (stored_from s st k es) (after_all s st es)
tied_from s k st p t [] l = t
tied_from s k st p t (e ∷ es) l = tied_from s (store s st k e) (after s st e) p
    (record {
      shape = keeps s st e t.shape l.0.1;
      core = core_after s t.core e;
      fits = step_fits s t.core st p t.shape t.fits e l.0.1;
      same = same_slots s st k t.core e t.same;
      kept = kept_step s k st p t e l.0.1;
    }) es l.1

none_at : (n i : ℕ) → at {X = ℕ} (replicate n None) i ≡ None
none_at zero i = refl
none_at (suc n) zero = refl
none_at (suc n) (suc i) = none_at n i

tied_first : (s : Setup) → Tied s (stored_first s) (opening s)
tied_first s = record {
  shape = opens s;
  core = core_opening s;
  fits = opening_fits s;
  same = refl;
  kept = record {
    next = λ f. by_eq_lt f 1 0 s.frames (λ x. IsBefore (if x then Queued else Absent) → Some 1 ≡ Some f) (λ d l b. ap Some (sym d)) (λ n b. absurd b);
    thoughts = λ f. by_eq_lt f 1 0 s.frames (λ x. IsThinking (if x then Queued else Absent) → [] ≡ among f s.agents (λ a. 0)) (λ d l b. absurd b) (λ n b. absurd b);
    no_thoughts = λ f b. refl;
    asking = λ f a i e. let z : Absent ≡ Waits (suc i) = e in absurd cc;
    turns = λ i l. get_first s.slots i None l ∙ ap Some (sym (ap (turn_in (opening s)) (none_at s.slots i)));
    agents = length_replicate s.agents None;
    places = length_replicate s.slots None;
  };
}

tied : (s : Setup) (log : List Event) → 0 < s.slots → IsLegalList s log → Tied s (stored_after s log) (state s log)
tied s log p l = tied_from s (stored_first s) (opening s) p (tied_first s) log l

pub needed_is_there : (s : Setup) (log : List Event) (e : Event) → 0 < s.slots → IsLegalList s log → IsLegal s (state s log) e → IsThere s (state s log) (stored_after s log) e
needed_is_there s log e p l h =
    let t = tied s log p l in
    event_there s (state s log) t.shape (stored_after s log) t.kept (fit_of s (stored_after s log) (state s log) t) p e h.1
    (λ w f d. free_of s (stored_after s log) (state s log) t w f (subst (May s (state s log)) d h.1))

pub places_are : (s : Setup) (log : List Event) → 0 < s.slots → IsLegalList s log → HasPlaces s (stored_after s log)
places_are s log p l = let t = tied s log p l in ((fit_of s (stored_after s log) (state s log) t).size, t.kept.agents, t.kept.places)

stored_from_more : (s : Setup) (st : State) (k : Stored) (es : List Event) (e : Event) → stored_from s st k (es ++ e ∷ []) ≡ store s (after_all s st es) (stored_from s st k es) e
stored_from_more s st k [] e = refl
stored_from_more s st k (x ∷ es) e = stored_from_more s (after s st x) (store s st k x) es e

-- a log that grows by one event
pub stored_more : (s : Setup) (es : List Event) (e : Event) → stored_after s (es ++ e ∷ []) ≡ store s (state s es) (stored_after s es) e
stored_more s es e = stored_from_more s (opening s) (stored_first s) es e
