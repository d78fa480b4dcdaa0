-- What the calls of the code need, at each legal event: room, a free fiber, keys that are free or stand, a free slot.
use Rattle.std.proofs.Common.{◌≡◌, ◌≤◌, ◌<◌, ◌↔◌, ℕ, zero, suc, ◌+◌, ◌%◌, Bool, true, false, ◌==◌, nat_lt, List, [], ◌∷◌, Option, Some, None, length, if◌then◌else◌, refl, sym, ap, ◌∙◌, subst, ⊎_elim, arith}
use Rattle.job_core.specs.declared.names.JobName.{JobName}
use Rattle.job_core.specs.declared.names.JobName.TheVariants.{Logic, Think, Path, Draw}
use Rattle.job_core.specs.declared.names.Event.{Event}
use Rattle.job_core.specs.declared.names.Event.TheVariants.{Start, Resume, Ask, Spread, Finish, Emit}
use Rattle.job_core.specs.Core.{Setup, State, held, Counter, Thinks, Way, Draws, Shown, IsIdle, IsLegal, IsLegalList, state, opening, May}
use Rattle.job_core.proofs.ByCases.{by_eq, by_lt, same_self}
use Rattle.job_core.proofs.Shape.{Shape, opens}
use Rattle.job_core.proofs.Moves.{shape_of}
use Rattle.job_core.proofs.Computes.{apart}
use Rattle.board_model.specs.Lists.{bit, tally, at, first_place, all}
use Rattle.board_model.specs.Board.{Core, Held, holds, first_row, core_of}
use Rattle.board_model.specs.Law.{pending, number, standing, StandsAs, waits_of, is_ready, Fits}
use Rattle.board_model.specs.Pick.{Pick, given}
use Rattle.board_model.proofs.Kit.{by_bool, at_some, tally_at}
use Rattle.board_model.proofs.Numbers.{number_think, number_path, number_draw, emit_before, spread_before, spread_unshown, ask_before, end_before}
use Rattle.board_model.proofs.Ends.{near}
use Rattle.board_model.proofs.Legal.{stands_not, none_is_legal, given_is_legal}
use Rattle.board_model.proofs.Fit.{fits}

-- where one item passes, its place is the first
only_place : {X : Type 0} (p : Option X → Bool) (xs : List (Option X)) (i : ℕ) → i < length xs → p (at xs i) ≡ true → tally p xs ≡ 1 → first_place p xs ≡ i
only_place p [] i l e o = absurd (omega arith)
only_place p (x ∷ xs) zero l e o = by_bool (p x) (λ b. (if b then 0 else suc (first_place p xs)) ≡ 0) (λ d. refl) (λ d. let z = sym d ∙ e in absurd cc)
only_place p (x ∷ xs) (suc i) l e o = by_bool (p x) (λ b. (if b then 0 else suc (first_place p xs)) ≡ suc i)
    (λ d. let a = tally_at p xs i (omega arith) e in let b : bit (p x) ≡ 1 = ap bit d in absurd (omega arith))
    (λ d. let b : bit (p x) ≡ 0 = ap bit d in ap suc (only_place p xs i (omega arith) e (omega arith)))

standing_held : (o : Option ℕ) (k : ℕ) → held (standing o k) ≡ 1
standing_held None k = refl
standing_held (Some w) k = refl

-- ---- how many fibers are ready

below_more : (n : ℕ) (xs : List ℕ) → tally (λ g. nat_lt g (suc n)) xs ≡ tally (λ g. nat_lt g n) xs + tally (λ g. n == g) xs
below_more n [] = refl
below_more n (x ∷ xs) =
    let h = below_more n xs in
    let e : bit (nat_lt x (suc n)) ≡ bit (nat_lt x n) + bit (n == x) = by_lt x n (λ b. bit (nat_lt x (suc n)) ≡ bit b + bit (n == x))
    (λ l. by_eq n x (λ b. bit (nat_lt x (suc n)) ≡ 1 + bit b) (λ d. absurd (omega arith)) (λ d. by_lt x (suc n) (λ b. bit b ≡ 1) (λ m. refl) (λ m. absurd (omega arith))))
    (λ l. by_eq n x (λ b. bit (nat_lt x (suc n)) ≡ 0 + bit b) (λ d. by_lt x (suc n) (λ b. bit b ≡ 1) (λ m. refl) (λ m. absurd (omega arith))) (λ d. by_lt x (suc n) (λ b. bit b ≡ 0) (λ m. absurd (d (omega arith))) (λ m. refl))) in
    omega arith

below_none : (xs : List ℕ) → tally (λ g. nat_lt g 0) xs ≡ 0
below_none [] = refl
below_none (x ∷ xs) = let h = below_none xs in let e : bit (nat_lt x 0) ≡ 0 = by_lt x 0 (λ b. bit b ≡ 0) (λ l. absurd (omega arith)) (λ l. refl) in omega arith

below_few : (n : ℕ) (xs : List ℕ) → ((f : ℕ) → tally (λ g. f == g) xs ≤ 1) → tally (λ g. nat_lt g n) xs ≤ n
below_few zero xs h = let a = below_none xs in omega arith
below_few (suc n) xs h = let a = below_few n xs h in let b = below_more n xs in let c = h n in omega arith

all_below : (n : ℕ) (xs : List ℕ) → ((f : ℕ) → n ≤ f → tally (λ g. f == g) xs ≡ 0) → length xs ≡ tally (λ g. nat_lt g n) xs
all_below n [] h = refl
all_below n (x ∷ xs) h =
    let a = all_below n xs (λ f l. let b = h f l in omega arith) in
    let e : bit (nat_lt x n) ≡ 1 = by_lt x n (λ b. bit b ≡ 1) (λ l. refl) (λ l. let c = h x l in let d : bit (x == x) ≡ 1 = by_eq x x (λ b. bit b ≡ 1) (λ y. refl) (λ y. absurd (y refl)) in absurd (omega arith)) in
    omega arith

bit_small : (b : Bool) → bit b ≤ 1
bit_small true = omega arith
bit_small false = omega arith

at_past : {X : Type 0} (xs : List (Option X)) (i : ℕ) → length xs ≤ i → at xs i ≡ None
at_past [] i l = refl
at_past (x ∷ xs) zero l = absurd (omega arith)
at_past (x ∷ xs) (suc i) l = at_past xs i (omega arith)

module _ (s : Setup) (st : State) (inv : Shape s st) (c : Core) (h : Fits s c st) where
  -- there is room for each ready fiber
  pub ready_few : length (all c.queues.ready) ≤ s.small + s.large
  ready_few =
      let a = all_below (s.small + s.large) (all c.queues.ready) (λ f l. h.waits.ready f ∙ ap (λ o. bit (is_ready (number s st) (waits_of s o))) (at_past c.seats.jobs f (let b = h.seats.fibers in omega arith))) in
      let b = below_few (s.small + s.large) (all c.queues.ready) (λ f. let d = h.waits.ready f in let e = bit_small (is_ready (number s st) (waits_of s (at c.seats.jobs f))) in omega arith) in
      omega arith

  -- the fiber that was picked is the first that holds its job
  pub picked_is : (f : ℕ) (x : Held) → at c.seats.jobs f ≡ Some x → first_place (holds x.job) c.seats.jobs ≡ f
  picked_is f x e =
      let a : st.phase x.job ≡ standing x.worker x.step = subst (StandsAs st.phase) e (h.seats.stands f) in
      only_place (holds x.job) c.seats.jobs f (at_some c.seats.jobs f x e) (ap (holds x.job) e ∙ same_self x.job) (h.seats.once x.job ∙ (ap held a ∙ standing_held x.worker x.step))

  -- the keys of the counters that an event starts are free
  pub spread_keys : (w f : ℕ) → May s st (Spread w (Logic f)) → (first_row (Thinks f) c.counters ≡ None) × (first_row (Shown f) c.counters ≡ None)
  spread_keys w f m = ((stands_not s st inv c h (Thinks f)).1 (spread_before s st inv w f m.0), (stands_not s st inv c h (Shown f)).1 (spread_unshown s st inv w f m.0))

  pub ask_key : (w f a : ℕ) (m : May s st (Ask w (Think f a))) → first_row (Way f a m.0) c.counters ≡ None
  ask_key w f a m = (stands_not s st inv c h (Way f a m.0)).1 (ap pending (ask_before s st inv w f a m.0 m.1 m.2))

  pub end_key : (w f : ℕ) → May s st (Finish w (Logic f)) → first_row (Draws f) c.counters ≡ None
  end_key w f m = (stands_not s st inv c h (Draws f)).1 (end_before s st inv w m.0 f m.1)

  -- the counters that an event lowers stand, above 0
  above_zero : (k : Counter) (n : ℕ) → number s st k ≡ suc n → first_row k c.counters ≡ None → ⊥
  above_zero k n e z = let a = (stands_not s st inv c h k).0 z in omega arith

  pub think_stands : (w f a : ℕ) → May s st (Finish w (Think f a)) → first_row (Thinks f) c.counters ≡ None → ⊥
  think_stands w f a m = above_zero (Thinks f) _ (number_think s st inv w m.0 f a m.1)

  pub path_stands : (w f a i : ℕ) → May s st (Finish w (Path f a i)) → first_row (Way f a i) c.counters ≡ None → ⊥
  path_stands w f a i m = above_zero (Way f a i) _ (number_path s st inv w m.0 f a i m.1)

  pub draw_stands : (w f b : ℕ) → May s st (Finish w (Draw f b)) → first_row (Draws f) c.counters ≡ None → ⊥
  draw_stands w f b m = above_zero (Draws f) _ (number_draw s st inv w m.0 f b m.1)

  pub shown_stands : (f : ℕ) → May s st (Emit f) → first_row (Shown f) c.counters ≡ None → ⊥
  shown_stands f m = above_zero (Shown f) _ (emit_before s st inv f m.0 m.2)

  -- the slot that a Spread fills is free
  pub slot_free : (w f : ℕ) → May s st (Spread w (Logic f)) → at c.slots (f % s.slots) ≡ None
  slot_free w f m = go (at c.slots (f % s.slots)) refl
    where
      go : (o : Option ℕ) → at c.slots (f % s.slots) ≡ o → o ≡ None
      go None e = refl
      go (Some g) e = let x = h.slots.only (f % s.slots) g e in let b = near s st inv c h w f m.0 m.1 g x.0 in absurd (apart g f s.slots b.0 b.1 (sym x.1))

-- ---- over logs: nothing is given to an idle worker exactly where it can neither start nor resume

pub none_given : (s : Setup) (log : List Event) (w : ℕ) → 0 < s.slots → IsLegalList s log → (state s log).stopped ≡ false → w < s.workers → IsIdle (state s log) w → (given (core_of s log) ≡ None) ↔ ((j : JobName) → (IsLegal s (state s log) (Start w j) → ⊥) × (IsLegal s (state s log) (Resume w j) → ⊥))
none_given s log w p l on below idle =
    let inv = shape_of s log (opening s) (opens s) l in
    let h = fits s log p l in
    (λ e. none_is_legal s (state s log) inv (core_of s log) h p on w below idle e, λ n. go inv h n (given (core_of s log)) refl)
  where
    go : Shape s (state s log) → Fits s (core_of s log) (state s log) → ((j : JobName) → (IsLegal s (state s log) (Start w j) → ⊥) × (IsLegal s (state s log) (Resume w j) → ⊥)) → (o : Option Pick) → given (core_of s log) ≡ o → given (core_of s log) ≡ None
    go inv h n None e = e
    go inv h n (Some x) e =
        let g = given_is_legal s (state s log) inv (core_of s log) h p on w below idle x e in
        absurd (⊎_elim (λ y. (n y.0).0 (subst (IsLegal s (state s log)) y.1 g.2)) (λ y. (n y.0).1 (subst (IsLegal s (state s log)) y.1 g.2)) g.1)
