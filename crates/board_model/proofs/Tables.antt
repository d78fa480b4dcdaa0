-- The table of counters, key by key.
use Rattle.std.proofs.Common.{◌≡◌, ℕ, Bool, true, false, List, [], ◌∷◌, ◌++◌, Option, Some, None, if◌then◌else◌, refl, sym, ap, ◌∙◌}
use Rattle.job_core.specs.Core.{Counter, Thinks, Way, Draws, Shown}
use Rattle.job_core.proofs.ByCases.{by_eq, by_eq3}
use Rattle.board_model.specs.Lists.{drop_first, change_first}
use Rattle.board_model.specs.Board.{same_counter, Row, has_key, first_row}
use Rattle.board_model.specs.Law.{rows}
use Rattle.board_model.proofs.Kit.{by_bool}

abbrev pub counter_frame : Counter → ℕ
counter_frame (Thinks f) = f
counter_frame (Way f a i) = f
counter_frame (Draws f) = f
counter_frame (Shown f) = f

abbrev pub counter_agent : Counter → ℕ
counter_agent (Way f a i) = a
counter_agent _ = 0

abbrev pub counter_question : Counter → ℕ
counter_question (Way f a i) = i
counter_question _ = 0

pub by_counter : (k l : Counter) (P : Bool → Type 0) → (k ≡ l → P true) → ((k ≡ l → ⊥) → P false) → P (same_counter k l)
by_counter (Thinks f) (Thinks g) P t n = by_eq f g P (λ e. t (ap Thinks e)) (λ x. n (λ e. x (ap counter_frame e)))
by_counter (Way f a i) (Way g b j) P t n = by_eq3 f g a b i j P (λ e d c. t cc) (λ x. n (λ e. x (ap counter_frame e) (ap counter_agent e) (ap counter_question e)))
by_counter (Draws f) (Draws g) P t n = by_eq f g P (λ e. t (ap Draws e)) (λ x. n (λ e. x (ap counter_frame e)))
by_counter (Shown f) (Shown g) P t n = by_eq f g P (λ e. t (ap Shown e)) (λ x. n (λ e. x (ap counter_frame e)))
by_counter (Thinks f) (Way g b j) P t n = n (λ e. cc)
by_counter (Thinks f) (Draws g) P t n = n (λ e. cc)
by_counter (Thinks f) (Shown g) P t n = n (λ e. cc)
by_counter (Way f a i) (Thinks g) P t n = n (λ e. cc)
by_counter (Way f a i) (Draws g) P t n = n (λ e. cc)
by_counter (Way f a i) (Shown g) P t n = n (λ e. cc)
by_counter (Draws f) (Thinks g) P t n = n (λ e. cc)
by_counter (Draws f) (Way g b j) P t n = n (λ e. cc)
by_counter (Draws f) (Shown g) P t n = n (λ e. cc)
by_counter (Shown f) (Thinks g) P t n = n (λ e. cc)
by_counter (Shown f) (Way g b j) P t n = n (λ e. cc)
by_counter (Shown f) (Draws g) P t n = n (λ e. cc)

pub counter_self : (k : Counter) → same_counter k k ≡ true
counter_self k = by_counter k k (λ b. b ≡ true) (λ e. refl) (λ n. absurd (n refl))

pub counter_other : (k l : Counter) → (k ≡ l → ⊥) → same_counter k l ≡ false
counter_other k l n = by_counter k l (λ b. b ≡ false) (λ e. absurd (n e)) (λ m. refl)

pub counter_is : (k l : Counter) → same_counter k l ≡ true → k ≡ l
counter_is k l = by_counter k l (λ b. b ≡ true → k ≡ l) (λ e t. e) (λ n t. absurd cc)

abbrev pub head : List Row → Option Row
head [] = None
head (c ∷ cs) = Some c

abbrev pub tail : List Row → List Row
tail [] = []
tail (c ∷ cs) = cs

abbrev pub change_head : (Row → Row) → List Row → List Row
change_head f [] = []
change_head f (c ∷ cs) = f c ∷ cs

pub first_is : (k : Counter) (cs : List Row) → first_row k cs ≡ head (rows k cs)
first_is k [] = refl
first_is k (c ∷ cs) = by_bool (same_counter k c.key) (λ b. (if b then Some c else first_row k cs) ≡ head (if b then (c ∷ rows k cs) else rows k cs)) (λ e. refl) (λ e. first_is k cs)

pub rows_append : (k : Counter) (cs ds : List Row) → rows k (cs ++ ds) ≡ rows k cs ++ rows k ds
rows_append k [] ds = refl
rows_append k (c ∷ cs) ds = by_bool (same_counter k c.key) (λ b. (if b then (c ∷ rows k (cs ++ ds)) else rows k (cs ++ ds)) ≡ (if b then (c ∷ rows k cs) else rows k cs) ++ rows k ds) (λ e. ap (λ l. c ∷ l) (rows_append k cs ds)) (λ e. rows_append k cs ds)

module _ (f : Row → Row) (keeps : (c : Row) → (f c).key ≡ c.key) where
  pub rows_change : (k : Counter) (cs : List Row) → rows k (change_first f (has_key k) cs) ≡ change_head f (rows k cs)
  rows_change k [] = refl
  rows_change k (c ∷ cs) = by_bool (same_counter k c.key) (λ b. same_counter k c.key ≡ b → rows k (if b then (f c ∷ cs) else (c ∷ change_first f (has_key k) cs)) ≡ change_head f (if b then (c ∷ rows k cs) else rows k cs))
      (λ e d. let g : same_counter k (f c).key ≡ true = ap (same_counter k) (keeps c) ∙ e in rw g refl)
      (λ e d. rw e (rows_change k cs)) refl

  pub rows_change_other : (k l : Counter) → (l ≡ k → ⊥) → (cs : List Row) → rows l (change_first f (has_key k) cs) ≡ rows l cs
  rows_change_other k l n [] = refl
  rows_change_other k l n (c ∷ cs) = by_bool (same_counter k c.key) (λ b. rows l (if b then (f c ∷ cs) else (c ∷ change_first f (has_key k) cs)) ≡ rows l (c ∷ cs))
      (λ e. let m : (l ≡ c.key → ⊥) = λ x. n (x ∙ sym (counter_is k c.key e)) in
      let g : same_counter l (f c).key ≡ false = ap (same_counter l) (keeps c) ∙ counter_other l c.key m in
      let h : same_counter l c.key ≡ false = counter_other l c.key m in rw (g, h) refl)
      (λ e. by_bool (same_counter l c.key) (λ b. (if b then (c ∷ rows l (change_first f (has_key k) cs)) else rows l (change_first f (has_key k) cs)) ≡ (if b then (c ∷ rows l cs) else rows l cs)) (λ e. ap (λ z. c ∷ z) (rows_change_other k l n cs)) (λ e. rows_change_other k l n cs))

pub rows_drop : (k : Counter) (cs : List Row) → rows k (drop_first (has_key k) cs) ≡ tail (rows k cs)
rows_drop k [] = refl
rows_drop k (c ∷ cs) = by_bool (same_counter k c.key) (λ b. rows k (if b then cs else (c ∷ drop_first (has_key k) cs)) ≡ tail (if b then (c ∷ rows k cs) else rows k cs))
    (λ e. refl)
    (λ e. rw e (rows_drop k cs))

pub rows_drop_other : (k l : Counter) → (l ≡ k → ⊥) → (cs : List Row) → rows l (drop_first (has_key k) cs) ≡ rows l cs
rows_drop_other k l n [] = refl
rows_drop_other k l n (c ∷ cs) = by_bool (same_counter k c.key) (λ b. rows l (if b then cs else (c ∷ drop_first (has_key k) cs)) ≡ rows l (c ∷ cs))
    (λ e. let m : (l ≡ c.key → ⊥) = λ x. n (x ∙ sym (counter_is k c.key e)) in
    let h : same_counter l c.key ≡ false = counter_other l c.key m in rw h refl)
    (λ e. by_bool (same_counter l c.key) (λ b. (if b then (c ∷ rows l (drop_first (has_key k) cs)) else rows l (drop_first (has_key k) cs)) ≡ (if b then (c ∷ rows l cs) else rows l cs)) (λ e. ap (λ z. c ∷ z) (rows_drop_other k l n cs)) (λ e. rows_drop_other k l n cs))
