-- What a seat's change does to fibers and workers, for every event of a worker.
use Rattle.std.proofs.Common.{◌≡◌, ◌<◌, ℕ, Option, Some, None, length, refl, sym, ap, ◌∙◌, subst, ⊎_elim, arith}
use Rattle.std.proofs.lemmas.Bool.{cases_eq}
use Rattle.job_core.specs.declared.names.JobName.{JobName}
use Rattle.job_core.specs.declared.names.Size.{Size}
use Rattle.job_core.specs.declared.names.Size.TheVariants.{Small, Large}
use Rattle.job_core.specs.declared.names.Event.{Event}
use Rattle.job_core.specs.Core.{Setup, same, Phase, State, held, size_of, held_in, May, after}
use Rattle.job_core.proofs.ByCases.{by_same, same_self}
use Rattle.job_core.proofs.Shape.{Shape}
use Rattle.job_core.proofs.Keeping.{own, held_none, held_own, held_unstarted}
use Rattle.job_core.proofs.Moves.{job_of, IsMove, mover, count_moves, others}
use Rattle.board_model.specs.Lists.{bit, tally, at, write}
use Rattle.board_model.specs.Board.{Seats, Held, runner, is_taken, runs_on, seat, holds}
use Rattle.board_model.specs.Law.{standing, StandsAs, same_size, is_of, size_at, IsPlaced, SeatsFit}
use Rattle.board_model.proofs.Kit.{length_write, at_here, at_other, at_some, tally_write, tally_at, map_write}

abbrev pub taken : Option Held → ℕ
taken o = bit (is_taken o)

-- an entry of the table, if any, is of job j
abbrev pub IsOf : JobName → Option Held → Type 0
IsOf j None = Unit {0}
IsOf j (Some h) = h.job ≡ j

-- nobody runs this entry but worker w
abbrev pub IsBy : ℕ → Option ℕ → Type 0
IsBy w None = Unit {0}
IsBy w (Some v) = v ≡ w

holds_of : (j : JobName) (o : Option Held) → IsOf j o → bit (holds j o) ≡ taken o
holds_of j None e = refl
holds_of j (Some h) e = by_same j h.job (λ b. bit b ≡ 1) (λ d. refl) (λ n. absurd (n (sym e)))

holds_else : (j i : JobName) (o : Option Held) → IsOf j o → (i ≡ j → ⊥) → bit (holds i o) ≡ 0
holds_else j i None e n = refl
holds_else j i (Some h) e n = by_same i h.job (λ b. bit b ≡ 0) (λ d. absurd (n (d ∙ e))) (λ m. refl)

standing_live : (o : Option ℕ) (k : ℕ) → held (standing o k) ≡ 1
standing_live None k = refl
standing_live (Some w) k = refl

by_some : (w v : ℕ) (o : Option ℕ) → IsBy w o → o ≡ Some v → v ≡ w
by_some w v None b e = absurd cc
by_some w v (Some x) b e = let d : x ≡ v = cc in sym d ∙ b

runs_some : (f g : ℕ) (o : Option ℕ) → runs_on f o ≡ Some g → (g ≡ f) × (v : ℕ) × (o ≡ Some v)
runs_some f g None e = absurd cc
runs_some f g (Some v) e = (cc, v, refl)

runs_on_some : (f v : ℕ) (o : Option ℕ) → o ≡ Some v → runs_on f o ≡ Some f
runs_on_some f v o e = ap (runs_on f) e

-- what is changed, before and after
pub record Change (s : Setup) (t : Seats) (phase new : JobName → Phase) (w f : ℕ) (j : JobName) (o : Option Held) : Type 0 where
  pub fiber : f < length t.jobs
  pub worker : w < length t.workers
  pub of_old : IsOf j (at t.jobs f)
  pub of_new : IsOf j o
  pub was : held (phase j) ≡ taken (at t.jobs f)
  pub now : held (new j) ≡ taken o
  pub stands : StandsAs new o
  pub by_old : IsBy w (runner (at t.jobs f))
  pub by_new : IsBy w (runner o)
  pub seat_old : at t.workers w ≡ runs_on f (runner (at t.jobs f))
  pub placed : IsPlaced (size_at t.small f) o

own_bit : (z y : Size) → own z y ≡ bit (same_size z y)
own_bit Small Small = refl
own_bit Large Large = refl
own_bit Small Large = refl
own_bit Large Small = refl

-- a job counts for its size as its entry does
in_size : (z : Size) (j : JobName) (o : Option Held) (p : Phase) → IsOf j o → held p ≡ taken o → held_in z (size_of j) p ≡ bit (is_of z o)
in_size z j None p e h = held_none z (size_of j) p h
in_size z j (Some x) p e h = held_own z (size_of j) p h ∙ (own_bit z (size_of j) ∙ ap (λ i. bit (same_size z (size_of i))) (sym e))

-- an entry of a job lies on a fiber of the job's size
pub placed_as : (z : Size) (j : JobName) (o : Option Held) → IsOf j o → z ≡ size_of j → IsPlaced z o
placed_as z j None e q = tt
placed_as z j (Some x) e q = q ∙ ap size_of (sym e)

module _ (s : Setup) (st : State) (inv : Shape s st) (e : Event) (m : May s st e) (mv : IsMove e) (t : Seats) (fit : SeatsFit s t st.phase) (w f : ℕ) (o : Option Held) (c : Change s t st.phase (after s st e).phase w f (job_of e) o) where
  -- no other fiber holds the job
  alone : (g : ℕ) (h : Held) → (g ≡ f → ⊥) → at t.jobs g ≡ Some h → h.job ≡ job_of e → ⊥
  alone g h n a d =
      let x = tally_write (holds (job_of e)) t.jobs f None c.fiber in
      let y : bit (holds (job_of e) (at t.jobs f)) ≡ taken (at t.jobs f) = holds_of (job_of e) (at t.jobs f) c.of_old in
      let z = fit.once (job_of e) in
      let u = c.was in
      let l : g < length (write t.jobs f None) = subst (λ k. g < k) (sym (length_write t.jobs f None)) (at_some t.jobs g h a) in
      let b : at (write t.jobs f None) g ≡ Some h = at_other t.jobs f g None n ∙ a in
      let p = tally_at (holds (job_of e)) (write t.jobs f None) g l (ap (holds (job_of e)) b ∙ (ap (λ i. same (job_of e) i) d ∙ same_self (job_of e))) in
      omega arith

  steady : (i : JobName) → (i ≡ job_of e → ⊥) → held (st.phase i) ≡ held ((after s st e).phase i)
  steady i n = ⊎_elim (λ d. ap held (sym d)) (λ d. ap held d.0 ∙ ap held (sym d.1)) (others s st inv e m i n)

  other_stands : (g : ℕ) → (g ≡ f → ⊥) → (x : Option Held) → at t.jobs g ≡ x → StandsAs st.phase x → StandsAs (after s st e).phase x
  other_stands g n None a q = tt
  other_stands g n (Some h) a q = ⊎_elim (λ d. d ∙ q)
      (λ d. let z : held (st.phase h.job) ≡ 1 = ap held q ∙ standing_live h.worker h.step in let y : held (st.phase h.job) ≡ 0 = ap held d.0 in absurd (omega arith))
      (others s st inv e m h.job (alone g h n a))

  pub seated : SeatsFit s (seat t w f o) (after s st e).phase
  seated = record {
    small = fit.small;
    fibers = length_write t.jobs f o ∙ fit.fibers;
    workers = length_write t.workers w (runs_on f (runner o)) ∙ fit.workers;
    taken = ap (λ l. write l f (is_taken o)) fit.taken ∙ sym (map_write is_taken t.jobs f o);
    placed = λ g. ⊎_elim
        (λ d. subst (λ k. IsPlaced (size_at t.small k) (at (write t.jobs f o) k)) (sym d) (subst (IsPlaced (size_at t.small f)) (sym (at_here t.jobs f o c.fiber)) c.placed))
        (λ n. subst (IsPlaced (size_at t.small g)) (sym (at_other t.jobs f g o n)) (fit.placed g))
        (cases_eq g f);
    live = λ z.
        let x = tally_write (is_of z) t.jobs f o c.fiber in
        let y = count_moves s st inv (λ j p. held_in z (size_of j) p) (λ j. held_unstarted z (size_of j)) e m (mover s st inv e m mv) in
        let u = in_size z (job_of e) (at t.jobs f) (st.phase (job_of e)) c.of_old c.was in
        let v = in_size z (job_of e) o ((after s st e).phase (job_of e)) c.of_new c.now in
        let l = fit.live z in
        omega arith;
    once = λ i. let x = tally_write (holds i) t.jobs f o c.fiber in let z = fit.once i in
        by_same i (job_of e) (λ b. tally (holds i) (write t.jobs f o) ≡ held ((after s st e).phase i))
        (λ d. let a : bit (holds i (at t.jobs f)) ≡ taken (at t.jobs f) = holds_of i (at t.jobs f) (subst (λ k. IsOf k (at t.jobs f)) (sym d) c.of_old) in
        let b : bit (holds i o) ≡ taken o = holds_of i o (subst (λ k. IsOf k o) (sym d) c.of_new) in
        let u : held (st.phase i) ≡ taken (at t.jobs f) = ap (λ k. held (st.phase k)) d ∙ c.was in
        let v : held ((after s st e).phase i) ≡ taken o = ap (λ k. held ((after s st e).phase k)) d ∙ c.now in
        omega arith)
        (λ n. let a = holds_else (job_of e) i (at t.jobs f) c.of_old n in let b = holds_else (job_of e) i o c.of_new n in let u = steady i n in omega arith);
    stands = λ g. ⊎_elim
        (λ d. subst (StandsAs (after s st e).phase) (sym (ap (at (write t.jobs f o)) d ∙ at_here t.jobs f o c.fiber)) c.stands)
        (λ n. subst (StandsAs (after s st e).phase) (sym (at_other t.jobs f g o n)) (other_stands g n (at t.jobs g) refl (fit.stands g)))
        (cases_eq g f);
    runs = λ v g a. ⊎_elim
        (λ d. let x = runs_some f g (runner o) (sym (ap (at (write t.workers w (runs_on f (runner o)))) d ∙ at_here t.workers w (runs_on f (runner o)) c.worker) ∙ a) in
        ap runner (ap (at (write t.jobs f o)) x.0 ∙ at_here t.jobs f o c.fiber) ∙ (x.2 ∙ ap Some (by_some w x.1 (runner o) c.by_new x.2 ∙ sym d)))
        (λ n. let b : at t.workers v ≡ Some g = sym (at_other t.workers w v (runs_on f (runner o)) n) ∙ a in
        let r = fit.runs v g b in
        ap runner (at_other t.jobs f g o (λ d. n (by_some w v (runner (at t.jobs f)) c.by_old (ap (λ k. runner (at t.jobs k)) (sym d) ∙ r)))) ∙ r)
        (cases_eq v w);
    busy = λ g v a. ⊎_elim
        (λ d. let b : runner o ≡ Some v = ap runner (sym (ap (at (write t.jobs f o)) d ∙ at_here t.jobs f o c.fiber)) ∙ a in
        let x = by_some w v (runner o) c.by_new b in
        ap (at (write t.workers w (runs_on f (runner o)))) x ∙ (at_here t.workers w (runs_on f (runner o)) c.worker ∙ (runs_on_some f v (runner o) b ∙ ap Some (sym d))))
        (λ n. let b : runner (at t.jobs g) ≡ Some v = ap runner (sym (at_other t.jobs f g o n)) ∙ a in
        let r = fit.busy g v b in
        at_other t.workers w v (runs_on f (runner o)) (λ d. n (runs_some f g (runner (at t.jobs f)) (sym c.seat_old ∙ (ap (at t.workers) (sym d) ∙ r))).0) ∙ r)
        (cases_eq g f);
  }
