-- What is read one after another.
use Rattle.std.proofs.Common.{◌≡◌, ◌∙◌, ◌<◌, ◌≤◌, ℕ, zero, suc, ◌+◌, ◌-◌, Bool, true, List, [], ◌∷◌, ◌++◌, length, take, drop, get_or, refl, sym, ap, arith, Ok}
use Rattle.std.specs.Prelude.{slice_set, Result, nat_le, nat_lt}
use Rattle.std.proofs.lemmas.List.{take_all, drop_more, drop_all}
use Rattle.stepping.specs.declared.load_fault.LoadFault.{LoadFault}
use Rattle.stepping.specs.declared.load_fault.LoadFault.TheVariants.{OutOfMemory, Text, Level, World}
use Rattle.stepping.specs.StateReading.{◌>>=◌, Fails, signals_from, small_at, memory_from, item_at, items_from, line_at, LineTold, CrewTold, with_line, crew_from}

-- ---- a step that is read, and one that fails

pub read_on : {A B : Type 0} (r : Result A LoadFault) (f : A → Result B LoadFault) (x : A) (total : Result B LoadFault) → r ≡ Ok x → (r >>= f) ≡ total → f x ≡ total
read_on r f x total e so_far = sym (ap (λ q. q >>= f) e) ∙ so_far

pub fails_on : {A B : Type 0} (e : LoadFault) (r : Result A LoadFault) (f : A → Result B LoadFault) (total : Result B LoadFault) → Fails e r → (r >>= f) ≡ total → Fails e total
fails_on OutOfMemory r f total failed so_far = tt
fails_on Text r f total failed so_far = sym so_far ∙ ap (λ q. q >>= f) failed
fails_on Level r f total failed so_far = sym so_far ∙ ap (λ q. q >>= f) failed
fails_on World r f total failed so_far = sym so_far ∙ ap (λ q. q >>= f) failed

-- ---- signals

letter_at : (on : List Bool) (letter : ℕ) (cs : List ℕ) → 97 ≤ letter → letter - 97 < 26 → signals_from on (32 ∷ letter ∷ cs) ≡ signals_from (slice_set on (letter - 97) true) cs
unfolding signals_from
letter_at on letter cs low high =
    let a : nat_le 97 letter ≡ true = grind (arith, low) in
    let b : nat_lt (letter - 97) 26 ≡ true = grind (arith, high) in
    rw (a, b) refl

pub letter_read : (on : List Bool) (signal : ℕ) (cs : List ℕ) → signal < 26 → signals_from on (32 ∷ (97 + signal) ∷ cs) ≡ signals_from (slice_set on signal true) cs
letter_read on signal cs small =
    let at : 97 + signal - 97 ≡ signal = omega arith in
    letter_at on (97 + signal) cs (omega arith) (omega (arith, small)) ∙ ap (λ k. signals_from (slice_set on k true) cs) at

pub letter_more : (on m : List Bool) (bytes : List ℕ) (signal : ℕ) (total : Result (List Bool × List ℕ) LoadFault) → 2 ≤ length bytes → get_or bytes 0 0 ≡ 32 → get_or bytes 1 0 ≡ 97 + signal → signal < 26
    → m ≡ slice_set on signal true → signals_from on bytes ≡ total → signals_from m (take (length bytes - 2) (drop 2 bytes)) ≡ total
letter_more on m [] signal total long space letter small e so_far = absurd (omega (arith, long))
letter_more on m (c ∷ []) signal total long space letter small e so_far = absurd (omega (arith, long))
letter_more on m (c ∷ l ∷ cs) signal total long space letter small e so_far =
    let n : length cs ≤ length (c ∷ l ∷ cs) - 2 = omega arith in
    ap (signals_from m) (take_all (length (c ∷ l ∷ cs) - 2) cs n)
    ∙ ap (λ s. signals_from s cs) e
    ∙ sym (letter_read on signal cs small) ∙ ap (λ k. signals_from on (32 ∷ k ∷ cs)) (sym letter) ∙ ap (λ k. signals_from on (k ∷ l ∷ cs)) (sym space) ∙ so_far

-- ---- memories

memory_suc : (ms : List ℕ) (n : ℕ) (bytes : List ℕ) → memory_from ms (suc n) bytes ≡ (small_at bytes >>= λ number. memory_from (ms ++ number.0 ∷ []) n number.1)
unfolding memory_from
memory_suc ms n bytes = refl

pub memory_none : (ms bytes : List ℕ) → memory_from ms 0 bytes ≡ Ok (ms, bytes)
unfolding memory_from
memory_none ms bytes = refl

module _ (ms : List ℕ) (size i : ℕ) (bytes : List ℕ) (total : Result (List ℕ × List ℕ) LoadFault) (so_far : memory_from ms (size - i) bytes ≡ total) where
  memory_left : i < size → (small_at bytes >>= λ number. memory_from (ms ++ number.0 ∷ []) (size - (i + 1)) number.1) ≡ total
  memory_left lt = let k : size - i ≡ suc (size - (i + 1)) = omega (arith, lt) in sym (memory_suc ms (size - (i + 1)) bytes) ∙ ap (λ n. memory_from ms n bytes) (sym k) ∙ so_far

  pub memory_more : (v : ℕ) (rest longer : List ℕ) → i < size → small_at bytes ≡ Ok (v, rest) → longer ≡ ms ++ v ∷ [] → memory_from longer (size - (i + 1)) rest ≡ total
  memory_more v rest longer lt e pushed =
      ap (λ l. memory_from l (size - (i + 1)) rest) pushed ∙ read_on (small_at bytes) (λ number. memory_from (ms ++ number.0 ∷ []) (size - (i + 1)) number.1) (v, rest) total e (memory_left lt)

  pub memory_fails : (e : LoadFault) → i < size → Fails e (small_at bytes) → Fails e total
  memory_fails e lt failed = fails_on e (small_at bytes) (λ number. memory_from (ms ++ number.0 ∷ []) (size - (i + 1)) number.1) total failed (memory_left lt)

  pub memory_ends : size ≤ i → total ≡ Ok (ms, bytes)
  memory_ends le = let k : size - i ≡ 0 = omega (arith, le) in sym so_far ∙ ap (λ n. memory_from ms n bytes) k ∙ memory_none ms bytes

-- ---- agents

crew_cons : (crew : CrewTold) (size : ℕ) (sizes bytes : List ℕ) → crew_from crew (size ∷ sizes) bytes ≡ (line_at size bytes >>= λ line. crew_from (with_line crew line.0) sizes line.1)
unfolding crew_from
crew_cons crew size sizes bytes = refl

pub crew_none : (crew : CrewTold) (bytes : List ℕ) → crew_from crew [] bytes ≡ Ok (crew, bytes)
unfolding crew_from
crew_none crew bytes = refl

module _ (crew : CrewTold) (sizes : List ℕ) (i : ℕ) (bytes : List ℕ) (total : Result (CrewTold × List ℕ) LoadFault) (so_far : crew_from crew (drop i sizes) bytes ≡ total) where
  crew_left : (size : ℕ) → i < length sizes → get_or sizes i 0 ≡ size → (line_at size bytes >>= λ line. crew_from (with_line crew line.0) (drop (i + 1) sizes) line.1) ≡ total
  crew_left size lt is =
      sym (crew_cons crew size (drop (i + 1) sizes) bytes) ∙ ap (λ s. crew_from crew (s ∷ drop (i + 1) sizes) bytes) (sym is)
      ∙ ap (λ l. crew_from crew l bytes) (sym (drop_more sizes i 0 lt)) ∙ so_far

  pub crew_more : (size : ℕ) (line : LineTold) (rest : List ℕ) (more : CrewTold) → i < length sizes → get_or sizes i 0 ≡ size → line_at size bytes ≡ Ok (line, rest) → more ≡ with_line crew line
      → crew_from more (drop (i + 1) sizes) rest ≡ total
  crew_more size line rest more lt is e with_it =
      ap (λ c. crew_from c (drop (i + 1) sizes) rest) with_it ∙ read_on (line_at size bytes) (λ l. crew_from (with_line crew l.0) (drop (i + 1) sizes) l.1) (line, rest) total e (crew_left size lt is)

  pub crew_fails : (e : LoadFault) (size : ℕ) → i < length sizes → get_or sizes i 0 ≡ size → Fails e (line_at size bytes) → Fails e total
  crew_fails e size lt is failed = fails_on e (line_at size bytes) (λ l. crew_from (with_line crew l.0) (drop (i + 1) sizes) l.1) total failed (crew_left size lt is)

  pub crew_ends : length sizes ≤ i → total ≡ Ok (crew, bytes)
  crew_ends le = sym so_far ∙ ap (λ l. crew_from crew l bytes) (drop_all i sizes le) ∙ crew_none crew bytes

-- ---- items

pub items_none : (width height most : ℕ) (items : List Bool) → items_from width height most items [] ≡ Ok items
unfolding items_from
items_none width height zero items = refl
items_none width height (suc most) items = refl

pub items_all : (width height : ℕ) (items : List Bool) (bytes : List ℕ) → items_from width height 0 items bytes ≡ Ok items
unfolding items_from
items_all width height items bytes = refl

pub items_suc : (width height most : ℕ) (items : List Bool) (bytes : List ℕ) → 0 < length bytes
    → items_from width height (suc most) items bytes ≡ (item_at width height bytes >>= λ item. items_from width height most (slice_set items item.0 true) item.1)
unfolding items_from
items_suc width height most items [] some = absurd (omega (arith, some))
items_suc width height most items (c ∷ cs) some = refl

module _ (width height count i : ℕ) (items : List Bool) (bytes : List ℕ) (total : Result (List Bool) LoadFault) (so_far : items_from width height (count - i) items bytes ≡ total) where
  items_left : i < count → 0 < length bytes → (item_at width height bytes >>= λ item. items_from width height (count - (i + 1)) (slice_set items item.0 true) item.1) ≡ total
  items_left lt some =
      let k : count - i ≡ suc (count - (i + 1)) = omega (arith, lt) in
      sym (items_suc width height (count - (i + 1)) items bytes some) ∙ ap (λ n. items_from width height n items bytes) (sym k) ∙ so_far

  pub items_more : (cell : ℕ) (rest : List ℕ) (more : List Bool) → i < count → 0 < length bytes → item_at width height bytes ≡ Ok (cell, rest) → more ≡ slice_set items cell true
      → items_from width height (count - (i + 1)) more rest ≡ total
  items_more cell rest more lt some e with_it =
      ap (λ l. items_from width height (count - (i + 1)) l rest) with_it
      ∙ read_on (item_at width height bytes) (λ item. items_from width height (count - (i + 1)) (slice_set items item.0 true) item.1) (cell, rest) total e (items_left lt some)

  pub items_fail : (e : LoadFault) → i < count → 0 < length bytes → Fails e (item_at width height bytes) → Fails e total
  items_fail e lt some failed =
      fails_on e (item_at width height bytes) (λ item. items_from width height (count - (i + 1)) (slice_set items item.0 true) item.1) total failed (items_left lt some)

  pub items_end : length bytes ≡ 0 → total ≡ Ok items
  items_end none = sym so_far ∙ empty bytes none
    where
      empty : (bytes : List ℕ) → length bytes ≡ 0 → items_from width height (count - i) items bytes ≡ Ok items
      empty [] none = items_none width height (count - i) items
      empty (c ∷ cs) none = absurd (omega (arith, none))

  pub items_last : count ≤ i → total ≡ Ok items
  items_last le = let k : count - i ≡ 0 = omega (arith, le) in sym so_far ∙ ap (λ n. items_from width height n items bytes) k ∙ items_all width height items bytes
