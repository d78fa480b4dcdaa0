-- What pick gives, by its three lanes: of the highest priority that has one, a ready fiber, else a new job that may start.
use Rattle.std.proofs.Common.{◌≡◌, ◌≤◌, ◌<◌, ◌⊎◌, ℕ, ◌+◌, Bool, true, false, ◌==◌, List, [], ◌∷◌, ◌++◌, Option, Some, None, if◌then◌else◌, refl, sym, ap, ◌∙◌, subst, inl, inr, ⊎_elim, arith}
use Rattle.job_core.specs.declared.names.JobName.{JobName}
use Rattle.job_core.specs.Core.{same}
use Rattle.job_core.proofs.ByCases.{by_eq, by_same, same_self}
use Rattle.board_model.specs.Lists.{bit, tally, Priority, High, Normal, Low, Three, all}
use Rattle.board_model.specs.Board.{Queues}
use Rattle.board_model.specs.Pick.{Pick, Ready, New, first_new, lane, pick}
use Rattle.board_model.proofs.Kit.{by_bool, all_parts}

-- a higher priority has a greater number
abbrev pub level : Priority → ℕ
level High = 2
level Normal = 1
level Low = 0

abbrev pub queue_of : {X : Type 0} → Priority → Three X → List X
queue_of High t = t.high
queue_of Normal t = t.normal
queue_of Low t = t.low

in_all : {X : Type 0} (p : X → Bool) (r : Priority) (t : Three X) → tally p (queue_of r t) ≤ tally p (all t)
in_all p High t = let a = all_parts p t in omega arith
in_all p Normal t = let a = all_parts p t in omega arith
in_all p Low t = let a = all_parts p t in omega arith

-- ---- where it gives nothing

-- no fiber is ready, and no new job may start
abbrev pub IsNone : (JobName → Bool) → List ℕ → List JobName → Type 0
IsNone may ready fresh = (ready ≡ []) × ((j : JobName) → may j ≡ true → tally (same j) fresh ≡ 0)

new_none : (may : JobName → Bool) (js : List JobName) (o : Option Pick) → first_new may js o ≡ None → (o ≡ None) × ((j : JobName) → may j ≡ true → tally (same j) js ≡ 0)
new_none may [] o e = (e, λ j l. refl)
new_none may (x ∷ xs) o e = by_bool (may x) (λ b. (if b then Some (New x) else first_new may xs o) ≡ None → (o ≡ None) × ((j : JobName) → may j ≡ true → tally (same j) (x ∷ xs) ≡ 0))
    (λ l d. absurd cc)
    (λ l d. let r = new_none may xs o d in (r.0, λ j m. by_same j x (λ b. bit b + tally (same j) xs ≡ 0) (λ y. let z : true ≡ false = sym m ∙ (ap may y ∙ l) in absurd cc) (λ y. let z = r.1 j m in omega arith))) e

lane_none : (may : JobName → Bool) (rs : List ℕ) (js : List JobName) (o : Option Pick) → lane may rs js o ≡ None → IsNone may rs js × (o ≡ None)
lane_none may [] js o e = let r = new_none may js o e in ((refl, r.1), r.0)
lane_none may (f ∷ fs) js o e = absurd cc

pub pick_none : (may : JobName → Bool) (q : Queues) → pick may q ≡ None → IsNone may (all q.ready) (all q.fresh)
pick_none may q e =
    let a = lane_none may q.ready.high q.fresh.high _ e in
    let b = lane_none may q.ready.normal q.fresh.normal _ a.1 in
    let d = lane_none may q.ready.low q.fresh.low _ b.1 in (
      nothing q.ready.high q.ready.normal q.ready.low a.0.0 b.0.0 d.0.0,
      λ j l. let x = all_parts (same j) q.fresh in let y = a.0.1 j l in let z = b.0.1 j l in let v = d.0.1 j l in omega arith,
    )
  where
    nothing : (x y z : List ℕ) → x ≡ [] → y ≡ [] → z ≡ [] → x ++ (y ++ z) ≡ []
    nothing x y z a b d = rw (a, b, d) refl

-- ---- what it gives

-- a ready fiber, or where there is none a new job that may start
abbrev pub IsFrom : (JobName → Bool) → List ℕ → List JobName → Pick → Type 0
IsFrom may ready fresh (Ready f) = 0 < tally (λ g. f == g) ready
IsFrom may ready fresh (New j) = (ready ≡ []) × (may j ≡ true) × (0 < tally (same j) fresh)

new_first : (may : JobName → Bool) (js : List JobName) (o : Option Pick) (x : Pick) → first_new may js o ≡ Some x → IsFrom may [] js x ⊎ (IsNone may [] js × (o ≡ Some x))
new_first may [] o x e = inr ((refl, λ j l. refl), e)
new_first may (y ∷ ys) o x e = by_bool (may y) (λ b. (if b then Some (New y) else first_new may ys o) ≡ Some x → IsFrom may [] (y ∷ ys) x ⊎ (IsNone may [] (y ∷ ys) × (o ≡ Some x)))
    (λ l d. let u : New y ≡ x = cc in inl (subst (IsFrom may [] (y ∷ ys)) u (refl, l, let z : bit (same y y) ≡ 1 = ap bit (same_self y) in omega arith)))
    (λ l d. ⊎_elim (λ g. inl (more x g)) (λ z. inr ((refl, λ j m. by_same j y (λ b. bit b + tally (same j) ys ≡ 0) (λ u. let v : true ≡ false = sym m ∙ (ap may u ∙ l) in absurd cc) (λ u. let v = z.0.1 j m in omega arith)), z.1)) (new_first may ys o x d)) e
  where
    more : (z : Pick) → IsFrom may [] ys z → IsFrom may [] (y ∷ ys) z
    more (Ready f) g = g
    more (New j) g = (g.0, g.1, omega (arith, g.2))

lane_first : (may : JobName → Bool) (rs : List ℕ) (js : List JobName) (o : Option Pick) (x : Pick) → lane may rs js o ≡ Some x → IsFrom may rs js x ⊎ (IsNone may rs js × (o ≡ Some x))
lane_first may [] js o x e = new_first may js o x e
lane_first may (f ∷ fs) js o x e = let u : Ready f ≡ x = cc in inl (subst (IsFrom may (f ∷ fs) js) u (let z : bit (f == f) ≡ 1 = by_eq f f (λ b. bit b ≡ 1) (λ d. refl) (λ d. absurd (d refl)) in omega arith))

-- it is of the queues of priority r, and those above have nothing
abbrev pub IsHighest : (JobName → Bool) → Queues → Priority → Pick → Type 0
IsHighest may q r x = IsFrom may (queue_of r q.ready) (queue_of r q.fresh) x × ((p : Priority) → level r < level p → IsNone may (queue_of p q.ready) (queue_of p q.fresh))

pub pick_first : (may : JobName → Bool) (q : Queues) (x : Pick) → pick may q ≡ Some x → (r : Priority) × IsHighest may q r x
pick_first may q x e =
    ⊎_elim (λ g. (High, (g, above_high))) (λ a.
    ⊎_elim (λ g. (Normal, (g, above_normal a.0))) (λ b.
    ⊎_elim (λ g. (Low, (g, above_low a.0 b.0))) (λ d. let n : None ≡ Some x = d.1 in absurd cc)
    (lane_first may q.ready.low q.fresh.low _ x b.1)) (lane_first may q.ready.normal q.fresh.normal _ x a.1)) (lane_first may q.ready.high q.fresh.high _ x e)
  where
    above_high : (p : Priority) → 2 < level p → IsNone may (queue_of p q.ready) (queue_of p q.fresh)
    above_high High l = absurd (omega arith)
    above_high Normal l = absurd (omega arith)
    above_high Low l = absurd (omega arith)

    above_normal : IsNone may q.ready.high q.fresh.high → (p : Priority) → 1 < level p → IsNone may (queue_of p q.ready) (queue_of p q.fresh)
    above_normal a High l = a
    above_normal a Normal l = absurd (omega arith)
    above_normal a Low l = absurd (omega arith)

    above_low : IsNone may q.ready.high q.fresh.high → IsNone may q.ready.normal q.fresh.normal → (p : Priority) → 0 < level p → IsNone may (queue_of p q.ready) (queue_of p q.fresh)
    above_low a b High l = a
    above_low a b Normal l = b
    above_low a b Low l = absurd (omega arith)

-- it is of all queues
abbrev pub IsGiven : (JobName → Bool) → List ℕ → List JobName → Pick → Type 0
IsGiven may ready fresh (Ready f) = 0 < tally (λ g. f == g) ready
IsGiven may ready fresh (New j) = (may j ≡ true) × (0 < tally (same j) fresh)

pub pick_some : (may : JobName → Bool) (q : Queues) (x : Pick) → pick may q ≡ Some x → IsGiven may (all q.ready) (all q.fresh) x
pick_some may q x e = let g = pick_first may q x e in among g.0 x g.1.0
  where
    among : (r : Priority) (y : Pick) → IsFrom may (queue_of r q.ready) (queue_of r q.fresh) y → IsGiven may (all q.ready) (all q.fresh) y
    among r (Ready f) g = let a = in_all (λ y. f == y) r q.ready in omega arith
    among r (New j) g = (g.1, let a = in_all (same j) r q.fresh in omega (arith, g.2))
