-- What is stored of frames that aren't shown yet, where a Logic ends and where a frame is shown.
use Rattle.std.proofs.Common.{◌≡◌, ◌<◌, ℕ, suc, ◌%◌, ◌&&◌, nat_lt, ◌==◌, Some, None, slice_get, slice_set, if◌then◌else◌, refl, sym, ap, ◌∙◌, subst, ⊎_elim, arith}
use Rattle.std.proofs.lemmas.Bool.{cases_eq}
use Rattle.job_core.specs.declared.names.JobName.TheVariants.{Logic}
use Rattle.job_core.specs.declared.names.Event.TheVariants.{Finish, Emit}
use Rattle.job_core.specs.Core.{Setup, Queued, Runs, Finished, State, May, queue, follows, after}
use Rattle.job_core.proofs.ByCases.{by_eq, by_eq_lt, frame_of}
use Rattle.job_core.proofs.Shape.{Shape, logic_next}
use Rattle.job_core.proofs.Moves.{put_here}
use Rattle.job_core.proofs.Once.{ended, still_other}
use Rattle.board_model.specs.Lists.{at}
use Rattle.board_model.specs.Law.{number, SlotsFit}
use Rattle.board_model.specs.Stored.{Stored, store}
use Rattle.board_model.proofs.Places.{length_set, get_here, get_other, at_set, at_set_other}
use Rattle.board_model.proofs.Kept.{Kept, IsBefore, IsOpen, IsThinking, IsQuiet, thoughts_in, turn_once, turn_in, before_next, thinking_next, open_shown, turn_same}

module _ (s : Setup) (st : State) (inv : Shape s st) (k : Stored) (g : Kept s k st) (fit : SlotsFit s k.slots (number s st)) where
  -- the frame in a slot, by its place
  other_frame : (f i h : ℕ) → (i ≡ f % s.slots → ⊥) → at k.slots i ≡ Some h → h ≡ f → ⊥
  other_frame f i h n e d = n ((fit.only i h e).1 ∙ ap (λ x. x % s.slots) d)

  -- ---- a Logic ends

  pub logic_ends : (w f : ℕ) → f % s.slots < s.slots → May s st (Finish w (Logic f)) → Kept s (store s st k (Finish w (Logic f))) (after s st (Finish w (Logic f)))
  logic_ends w f bound m = record {
    next = λ h. by_eq h f (λ x. IsBefore (if x then Finished else (if (h == suc f) && nat_lt f s.frames then Queued else st.phase (Logic h))) → Some (suc f) ≡ Some h)
        (λ d b. absurd b)
        (λ d. by_eq_lt h (suc f) f s.frames (λ x. IsBefore (if x then Queued else st.phase (Logic h)) → Some (suc f) ≡ Some h)
        (λ e l b. ap Some (sym e))
        (λ e b. absurd (d (before_next s st inv h b ∙ sym now))));
    thoughts = λ h. by_eq h f (λ x. IsThinking (if x then Finished else (if (h == suc f) && nat_lt f s.frames then Queued else st.phase (Logic h))) → k.thoughts ≡ thoughts_in s (after s st (Finish w (Logic f))) h)
        (λ d b. absurd b)
        (λ d. by_eq_lt h (suc f) f s.frames (λ x. IsThinking (if x then Queued else st.phase (Logic h)) → k.thoughts ≡ thoughts_in s (after s st (Finish w (Logic f))) h)
        (λ e l b. absurd b)
        (λ e b. absurd (d (thinking_next s st inv h b ∙ sym now))));
    no_thoughts = λ h b. g.no_thoughts f (subst IsQuiet (sym runs) tt);
    asking = g.asking;
    turns = λ i l. ⊎_elim
        (λ d. ap (slice_get (slice_set k.turns (f % s.slots) (Some f))) d
        ∙ (get_here k.turns (f % s.slots) (Some f) (let x = g.places in omega arith)
        ∙ ap Some (sym (ap (turn_in (after s st (Finish w (Logic f)))) (ap (at k.slots) d ∙ slot) ∙ here))))
        (λ d. get_other k.turns (f % s.slots) i (Some f) d
        ∙ (g.turns i l
        ∙ ap Some (turn_same st (after s st (Finish w (Logic f))) (at k.slots i) (λ h e. still_other s st inv (Finish w (Logic f)) m (Logic h) (λ y. other_frame f i h d e (ap frame_of y))))))
        (cases_eq i (f % s.slots));
    agents = g.agents;
    places = length_set k.turns (f % s.slots) (Some f) ∙ g.places;
  }
    where
      runs : st.phase (Logic f) ≡ Runs w 1
      runs = m.1 ∙ ap (λ n. Runs w n) m.2

      now : f ≡ suc inv.turned
      now = logic_next s st inv f (λ y. cc) (λ y. cc)

      slot : at k.slots (f % s.slots) ≡ Some f
      slot = fit.full f (open_shown s st inv f (subst IsOpen (sym runs) tt))

      here : turn_in (after s st (Finish w (Logic f))) (Some f) ≡ Some f
      here = ap (λ n. turn_once n f) (ap ended (put_here (queue st.phase (follows s f)) (Logic f) Finished))

  -- ---- a frame is shown

  pub emits : (f : ℕ) → f % s.slots < s.slots → Kept s (store s st k (Emit f)) (after s st (Emit f))
  emits f bound = record {
    next = g.next;
    thoughts = g.thoughts;
    no_thoughts = g.no_thoughts;
    asking = g.asking;
    turns = λ i l. ⊎_elim
        (λ d. ap (slice_get (slice_set k.turns (f % s.slots) None)) d
        ∙ (get_here k.turns (f % s.slots) None (let x = g.places in omega arith)
        ∙ ap Some (sym (ap (turn_in (after s st (Emit f))) (ap (at (slice_set k.slots (f % s.slots) None)) d ∙ at_set k.slots (f % s.slots) None (let x = fit.size in omega arith))))))
        (λ d. get_other k.turns (f % s.slots) i None d
        ∙ (g.turns i l
        ∙ ap Some (ap (turn_in st) (sym (at_set_other k.slots (f % s.slots) i None d)) ∙ turn_same st (after s st (Emit f)) (at (slice_set k.slots (f % s.slots) None) i) (λ h e. refl))))
        (cases_eq i (f % s.slots));
    agents = g.agents;
    places = length_set k.turns (f % s.slots) None ∙ g.places;
  }
