-- The numbers that nodes write into a memory that fits.
use Rattle.std.proofs.Common.{◌≡◌, ℕ, ◌+◌, ◌<◌, ◌≤◌, List, ◌∷◌, get_or, length, set, inl, inr, sym, ap, ◌∙◌, subst, arith, refl}
use Rattle.std.proofs.lemmas.Bool.{cases_eq}
use Rattle.std.proofs.lemmas.List.{get_or-set_same, get_or-set_other, length-set, set-set}
use Rattle.bt_nodes.specs.Plain.{Plain, Kind, Seq, Fallback, Star, Tries, Ticks, Forest}
use Rattle.bt_nodes.specs.Sizes.{count}
use Rattle.bt_nodes.specs.Bounds.{bounds, Fits}
use Rattle.bt_nodes.proofs.MemoryBounds.{length-bounds}
use Rattle.game_rules.specs.View.{View}
use Rattle.game_rules.specs.Tick.{State, gives, goes, put}
use Rattle.bt_tick.specs.Children.{children_of}
use Rattle.bt_tick.specs.Suspended.{Open, close, close_at, go_on}
use Rattle.bt_tick.specs.Places.{Sits, Standing, limit_of}
use Rattle.bt_tick.proofs.Trees.{bound_at, size-children, sits_below}
use Rattle.bt_tick.proofs.Steps.{go_on_star}

-- a memory that fits still does where a number below its bound is written
fits_set : (p : Plain) (m : List ℕ) (n v : ℕ) → Fits p m → v < get_or (bounds p) n 0 → Fits p (set m n v)
fits_set p m n v h l = record {
  same_length = length-set m n v ∙ h.same_length;
  below = λ k w. elim (cases_eq k n) [
    | inl e ↦ subst (λ x. get_or (set m n v) x 0 < get_or (bounds p) x 0) (sym e) (let s = get_or-set_same m n v 0 (omega (arith, w, e, length-set m n v)) in subst (λ x. x < get_or (bounds p) n 0) (sym s) l)
    | inr ne ↦ subst (λ x. x < get_or (bounds p) k 0) (sym (get_or-set_other m n k v 0 ne)) (h.below k (omega (arith, w, length-set m n v)))
  ];
}

-- a node's number is in a memory that fits
pub number_within : (whole p : Plain) (m : List ℕ) (n : ℕ) → Fits whole m → Sits whole n p → n < length m
number_within whole p m n fits sits = omega (arith, sits_below whole p n sits, size-children p, length-bounds whole, fits.same_length)

-- a memory still fits where a number is written that is below the node's own bound
pub sat_wrote : (whole p : Plain) (m m' : List ℕ) (n k b : ℕ) (part : List ℕ) → Fits whole m → Sits whole n p → bounds p ≡ b ∷ part → k < b → m' ≡ set m n k → Fits whole m'
sat_wrote whole p m m' n k b part fits sits own l is =
    let at = bound_at whole p n b part own sits in
    subst (Fits whole) (sym is) (fits_set whole m n k fits (omega (arith, at, l)))

-- so does one where 0 is written
pub zero_wrote : (whole p : Plain) (m m' : List ℕ) (n : ℕ) → Fits whole m → Sits whole n p → m' ≡ set m n 0 → Fits whole m'
zero_wrote whole p m m' n fits sits is =
    let l : get_or m n 0 < get_or (bounds whole) n 0 = fits.below n (number_within whole p m n fits sits) in
    subst (Fits whole) (sym is) (fits_set whole m n 0 fits (omega (arith, l)))

module _ (p : Plain) (m m' : List ℕ) (v : ℕ) (counting e around : ℕ) (f : Open) (fits : Fits p m) (stands : Standing p counting e around f) (is : m' ≡ set m f.number v) where
  -- by a node whose own bound is this
  wrote : (b : ℕ) (part : List ℕ) → bounds f.node ≡ b ∷ part → v < b → Fits p m'
  wrote b part own l =
      let at : get_or (bounds p) f.number 0 ≡ b = bound_at p f.node f.number b part own stands.sits in
      subst (Fits p) (sym is) (fits_set p m f.number v fits (omega (arith, at, l)))

  pub star_wrote : (kind : Kind) (cs : Forest) → f.node ≡ Star kind cs → v < count cs → Fits p m'
  star_wrote kind cs node l = wrote _ _ (ap bounds node) l

  pub tries_wrote : (k : ℕ) (c : Plain) → f.node ≡ Tries k c → v ≤ k → Fits p m'
  tries_wrote k c node l = wrote _ _ (ap bounds node) (omega (arith, l))

  pub ticks_wrote : (k : ℕ) (c : Plain) → f.node ≡ Ticks k c → v ≤ k → Fits p m'
  ticks_wrote k c node l = wrote _ _ (ap bounds node) (omega (arith, l))

-- the number that was read at the opening of tries and ticks is below theirs
pub tries_lost : (whole : Plain) (counting e around : ℕ) (f : Open) (k : ℕ) (c : Plain) → Standing whole counting e around f → f.node ≡ Tries k c → f.lost < k
tries_lost whole counting e around f k c r is = let h = subst (λ p. f.won + f.lost < limit_of p counting) is r.counts in omega (arith, h)

pub ticks_lost : (whole : Plain) (counting e around : ℕ) (f : Open) (k : ℕ) (c : Plain) → Standing whole counting e around f → f.node ≡ Ticks k c → f.lost < k
ticks_lost whole counting e around f k c r is = let h = subst (λ p. f.won + f.lost < limit_of p counting) is r.counts in omega (arith, h)

-- the last child of a seq* or a fallback* has ended so that the node goes on
pub end_star : (v : View) (f : Open) (kind : Kind) (cs : Forest) (s : State) → f.node ≡ Star kind cs → count (children_of f.node) ≤ f.next
    → gives (goes kind) (put f.number 0 s) ≡ close v f (gives (goes kind) s)
end_star v f kind cs s is h =
    ap (λ m. gives (goes kind) (record s { memory = m })) (sym (set-set s.memory f.number f.next 0))
    ∙ sym (go_on_star v kind cs f.number f.next f.won f.lost (put f.number f.next s) (subst (λ p. count (children_of p) ≤ f.next) is h))
    ∙ sym (goes_on kind) ∙ ap (λ q. close_at v q f.number f.next f.won f.lost (gives (goes kind) s)) (sym is)
  where
    goes_on : (k : Kind) → close_at v (Star k cs) f.number f.next f.won f.lost (gives (goes k) s) ≡ go_on v (Star k cs) f.number f.next f.won f.lost (put f.number f.next s)
    goes_on Seq = refl
    goes_on Fallback = refl
