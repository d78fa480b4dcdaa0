-- Parts by their names, and in the order of their numbers.
use Rattle.std.proofs.Common.{◌≡◌, ◌<◌, ◌≤◌, ◌+◌, ℕ, zero, suc, Bool, true, false, not, cond, if◌then◌else◌, nat_lt, List, [], ◌∷◌, length, map, drop, get_or, slice_index_or, refl, sym, ap, ◌∙◌, arith}
use Rattle.std.specs.List.{insert, position_or_len, range_with_len}
use Rattle.std.proofs.lemmas.Bool.{lt-ltb, le-ltb}
use Rattle.job_core.proofs.ByCases.{by_lt}
use Rattle.board_model.proofs.Kit.{by_bool}
use Rattle.grid_world.specs.Map.{count_up}
use Rattle.game_rules.specs.Game.{Game}
use Rattle.frame_state.specs.Names.{PartOf, part_of}
use Rattle.board_model.specs.Lists.{has}
use Rattle.board_model.specs.Stored.{Part, part, parts, put_in}
use Rattle.board_model.proofs.Bridges.{parts_named, put_in_is}
use Rattle.task_board.specs.Parts.{AreInOrder, AreOfGame, parts_below}
use Rattle.task_board.specs.FrameStore.{part_name}

part_is : (p : PartOf) (g : Game) (f n : ℕ) → p.game ≡ g → part_name p ≡ part f n → p ≡ part_of g f n
part_is p g f n a e =
    let b : p.frame ≡ f = ap (λ (q : Part). q.frame) e in
    let c : p.number ≡ n = ap (λ (q : Part). q.number) e in
    rw (← a, ← b, ← c) refl

range_is : (i n : ℕ) → range_with_len i n ≡ count_up i n
unfolding count_up
range_is i zero = refl
range_is i (suc n) = let e : i + 1 ≡ suc i = omega arith in ap (λ l. i ∷ l) (ap (λ k. range_with_len k n) e ∙ range_is (suc i) n)

-- parts of a game that are named as all parts of a frame
pub all_parts : (g : Game) (f n : ℕ) (xs : List PartOf) → AreOfGame g xs → map part_name xs ≡ parts f n → xs ≡ parts_below g f n
all_parts g f n xs same e =
    parts_named part_name (part_of g f) f 0 n xs (λ k d l i h. part_is (get_or xs k d) g f i (same k d l) h) e
    ∙ ap (map (part_of g f)) (range_is 0 n)

-- ---- a part put in

pub place_within : {X : Type 0} (p : X → Bool) (xs : List X) → position_or_len p xs ≤ length xs
place_within p [] = omega arith
place_within p (x ∷ xs) = by_bool (p x) (λ b. cond (not b) (1 + position_or_len p xs) 0 ≤ suc (length xs)) (λ e. omega arith) (λ e. let h = place_within p xs in omega arith)

pub put_at : (y : PartOf) (xs : List PartOf) (at : ℕ) → at ≡ position_or_len (λ x. nat_lt y.number x.number) xs
    → map part_name (insert xs at y) ≡ put_in (part_name y) (map part_name xs)
put_at y xs at e = ap (λ i. map part_name (insert xs i y)) e ∙ sym (put_in_is part_name y xs)

-- of the same game as the others
pub of_game_put : (g : Game) (y : PartOf) (xs : List PartOf) (i : ℕ) → y.game ≡ g → AreOfGame g xs → (k : ℕ) (d : PartOf) → k < length (insert xs i y) → (get_or (insert xs i y) k d).game ≡ g
of_game_put g y [] zero e h zero d l = e
of_game_put g y [] zero e h (suc k) d l = absurd (omega (arith, l))
of_game_put g y [] (suc i) e h zero d l = e
of_game_put g y [] (suc i) e h (suc k) d l = absurd (omega (arith, l))
of_game_put g y (x ∷ xs) zero e h zero d l = e
of_game_put g y (x ∷ xs) zero e h (suc k) d l = h k d (omega (arith, l))
of_game_put g y (x ∷ xs) (suc i) e h zero d l = h 0 d (omega arith)
of_game_put g y (x ∷ xs) (suc i) e h (suc k) d l = of_game_put g y xs i e (λ k d m. h (suc k) d (omega (arith, m))) k d (omega (arith, l))

-- where all pass, the first does
all_pass : {X : Type 0} (p : X → Bool) (xs : List X) → has (λ x. not (p x)) xs ≡ false → position_or_len p xs ≡ 0
all_pass p [] h = refl
all_pass p (x ∷ xs) h = by_bool (p x) (λ b. (if not b then true else has (λ y. not (p y)) xs) ≡ false → cond (not b) (1 + position_or_len p xs) 0 ≡ 0) (λ _ _. refl) (λ _ g. absurd cc) h

pub none_earlier : (n : ℕ) (xs : List PartOf) → has (λ x. not (nat_lt n x.number)) xs ≡ false → position_or_len (λ x. nat_lt n x.number) xs ≡ 0
none_earlier n xs h = all_pass (λ (x : PartOf). nat_lt n x.number) xs h

-- one more that was looked at is later
pub one_more_later : (n i : ℕ) (xs : List PartOf) (x : PartOf) → i < length xs → x ≡ slice_index_or xs i x → n < x.number
    → has (λ y. not (nat_lt n y.number)) (drop (suc i) xs) ≡ false → has (λ y. not (nat_lt n y.number)) (drop i xs) ≡ false
one_more_later n i [] x l e t h = absurd (omega (arith, l))
one_more_later n zero (y ∷ ys) x l e t h = let s : nat_lt n y.number ≡ true = ap (λ (z : PartOf). nat_lt n z.number) (sym e) ∙ lt-ltb n x.number t in rw s h
one_more_later n (suc i) (y ∷ ys) x l e t h = one_more_later n i ys x (omega (arith, l)) e t h

not_before : (p : PartOf) (xs : List PartOf) (i : ℕ) (x : PartOf) → i < length xs → x ≡ slice_index_or xs i x → has (λ q. nat_lt q.number p.number) xs ≡ false → p.number ≤ x.number
not_before p [] i x l e h = absurd (omega (arith, l))
not_before p (y ∷ ys) zero x l e h = by_lt y.number p.number (λ b. (if b then true else has (λ q. nat_lt q.number p.number) ys) ≡ false → p.number ≤ x.number)
    (λ _ g. absurd cc)
    (λ m g. let s : x.number ≡ y.number = ap (λ (z : PartOf). z.number) e in omega (arith, m, s)) h
not_before p (y ∷ ys) (suc i) x l e h = by_lt y.number p.number (λ b. (if b then true else has (λ q. nat_lt q.number p.number) ys) ≡ false → p.number ≤ x.number)
    (λ _ g. absurd cc)
    (λ _ g. not_before p ys i x (omega (arith, l)) e g) h

-- behind the last that isn't later
pub place_behind : (n i : ℕ) (xs : List PartOf) (x : PartOf) → AreInOrder xs → i < length xs → x ≡ slice_index_or xs i x → x.number ≤ n
    → has (λ y. not (nat_lt n y.number)) (drop (suc i) xs) ≡ false → position_or_len (λ y. nat_lt n y.number) xs ≡ suc i
place_behind n i [] x o l e m h = absurd (omega (arith, l))
place_behind n zero (y ∷ ys) x o l e m h =
    let s : nat_lt n y.number ≡ false = ap (λ (z : PartOf). nat_lt n z.number) (sym e) ∙ le-ltb n x.number m in
    let none = none_earlier n ys h in
    rw s (omega (arith, none))
place_behind n (suc i) (y ∷ ys) x o l e m h =
    let before = not_before y ys i x (omega (arith, l)) e o.0 in
    let s : nat_lt n y.number ≡ false = le-ltb n y.number (omega (arith, before, m)) in
    let rest = place_behind n i ys x o.1 (omega (arith, l)) e m h in
    rw s (omega (arith, rest))

-- what holds of none of a list and not of one more
none_put : {X : Type 0} (p : X → Bool) (y : X) (xs : List X) (i : ℕ) → p y ≡ false → has p xs ≡ false → has p (insert xs i y) ≡ false
none_put p y [] zero d h = rw d refl
none_put p y [] (suc i) d h = rw d refl
none_put p y (x ∷ xs) zero d h = rw d h
none_put p y (x ∷ xs) (suc i) d h = by_bool (p x) (λ b. (if b then true else has p xs) ≡ false → (if b then true else has p (insert xs i y)) ≡ false) (λ _ g. absurd cc) (λ _ g. none_put p y xs i d g) h

none_below : (n m : ℕ) (xs : List PartOf) → n ≤ m → has (λ q. nat_lt q.number m) xs ≡ false → has (λ q. nat_lt q.number n) xs ≡ false
none_below n m [] l h = refl
none_below n m (x ∷ xs) l h = by_lt x.number m (λ b. (if b then true else has (λ q. nat_lt q.number m) xs) ≡ false → has (λ q. nat_lt q.number n) (x ∷ xs) ≡ false)
    (λ _ g. absurd cc)
    (λ k g. let s : nat_lt x.number n ≡ false = le-ltb x.number n (omega (arith, l, k)) in rw s (none_below n m xs l g)) h

pub in_order_put : (y : PartOf) (xs : List PartOf) → AreInOrder xs → AreInOrder (insert xs (position_or_len (λ x. nat_lt y.number x.number) xs) y)
in_order_put y [] o = (refl, tt)
in_order_put y (x ∷ xs) o = by_lt y.number x.number (λ b. AreInOrder (insert (x ∷ xs) (cond (not b) (1 + position_or_len (λ z. nat_lt y.number z.number) xs) 0) y))
    (λ l. let s : nat_lt x.number y.number ≡ false = le-ltb x.number y.number (omega (arith, l)) in ((rw s (none_below y.number x.number xs (omega (arith, l)) o.0)), o))
    (λ l. let k : 1 + position_or_len (λ z. nat_lt y.number z.number) xs ≡ suc (position_or_len (λ z. nat_lt y.number z.number) xs) = omega arith in
    rw k (none_put (λ (q : PartOf). nat_lt q.number x.number) y xs (position_or_len (λ z. nat_lt y.number z.number) xs) (le-ltb y.number x.number l) o.0, in_order_put y xs o.1))
