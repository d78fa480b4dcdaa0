-- What is written in a state's text is read as it.
use Rattle.std.proofs.Common.{◌≡◌, ◌∙◌, ◌<◌, ◌≤◌, ℕ, suc, ◌+◌, ◌-◌, ◌*◌, ◌/◌, ◌%◌, ◌^◌, Bool, true, false, if◌then◌else◌, List, [], ◌∷◌, ◌++◌, length, replicate, refl, sym, ap, arith, append_assoc, append-nil, length-append, Ok, None, Some, codes, decimal}
use Rattle.std.specs.Prelude.{slice_set, Result, Option, All, nat_eq, nat_lt}
use Rattle.std.specs.Char.{is_ascii_digit}
use Rattle.std.specs.Cmp.Lexicographic.{pointwise}
use Rattle.std.proofs.lemmas.Cmp.{nat_list_eq_equiv}
use Rattle.std.proofs.lemmas.Fmt.{decimal_by_steps}
use Rattle.std.proofs.lemmas.Grind.{common_steps}
use Rattle.std.proofs.lemmas.List.{take_at, drop_at}
use Rattle.byte_streams.specs.Hex.{hex}
use Rattle.grid_world.specs.declared.cell.Agent.{Agent}
use Rattle.grid_world.specs.Ground.{no_signals}
use Rattle.bt_nodes.specs.declared.node.Status.{Status}
use Rattle.bt_nodes.specs.declared.node.Status.TheVariants.{Success, Failure, Running}
use Rattle.stepping.specs.declared.load_fault.LoadFault.{LoadFault}
use Rattle.stepping.specs.StateText.{letters, signals_line, answer_text, memory_text, agent_line, state_head}
use Rattle.stepping.specs.StateReading.{◌>>=◌, begins, behind_at, number_from, point_at, level_word, level_at, signals_from, head_at, answer_at, told_at, load_at, small_at, memory_from, line_at}
use Rattle.stepping.proofs.ReadOn.{letter_read, memory_none, memory_more}

-- ---- words

begins_itself : (word rest : List ℕ) → begins word (word ++ rest) ≡ true
begins_itself word rest = ap (λ l. pointwise nat_eq l word) (take_at word rest (length word) refl) ∙ nat_list_eq_equiv.refl word

pub behind_again : (word rest : List ℕ) → behind_at word (word ++ rest) ≡ Ok rest
unfolding behind_at
behind_again word rest = rw (begins_itself word rest, drop_at word rest (length word) refl) refl

-- ---- numbers

-- no digit stands at the front
abbrev pub Stops : List ℕ → Type 0
Stops [] = Unit {0}
Stops (c ∷ cs) = is_ascii_digit c ≡ false

digit_read : (value d n : ℕ) (rest : List ℕ) → d < 10 → value * 10 + d ≡ n → n < 2 ^ 32 → number_from value ((48 + d) ∷ rest) ≡ number_from n rest
unfolding number_from
digit_read value d n rest digit sum small =
    let is : is_ascii_digit (48 + d) ≡ true = grind (arith, common_steps) in
    let at : value * 10 + (48 + d - 48) ≡ n = omega (arith, sum) in
    let within : nat_lt n (2 ^ 32) ≡ true = grind (arith, small) in
    rw (is, at, within) refl

-- the digits of a number are read as it
abbrev AreRead : ℕ → List ℕ → Type 0
AreRead n ds = n < 2 ^ 32 → (rest : List ℕ) → number_from 0 (ds ++ rest) ≡ number_from n rest

one_read : (n : ℕ) → n < 10 → AreRead n ((48 + n) ∷ [])
one_read n digit small rest = digit_read 0 n n rest digit (omega arith) small

more_read : (n : ℕ) (ds : List ℕ) → 10 ≤ n → AreRead (n / 10) ds → AreRead n (ds ++ (48 + n % 10) ∷ [])
more_read n ds large front small rest =
    ap (number_from 0) (append_assoc ds ((48 + n % 10) ∷ []) rest) ∙ front (omega (arith, small)) ((48 + n % 10) ∷ rest)
    ∙ digit_read (n / 10) (n % 10) n rest (omega arith) (omega arith) small

number_ends : (n : ℕ) (rest : List ℕ) → Stops rest → number_from n rest ≡ Ok (n, rest)
unfolding number_from
number_ends n [] stops = refl
number_ends n (c ∷ cs) stops = rw stops refl

pub number_again : (n : ℕ) (rest : List ℕ) → n < 2 ^ 32 → Stops rest → number_from 0 (decimal n ++ rest) ≡ Ok (n, rest)
number_again n rest small stops = decimal_by_steps AreRead one_read more_read n (omega (arith, small)) small rest ∙ number_ends n rest stops

pub then_read : {A B : Type 0} (r : Result A LoadFault) (f : A → Result B LoadFault) (x : A) (y : Result B LoadFault) → r ≡ Ok x → f x ≡ y → (r >>= f) ≡ y
then_read r f x y e h = ap (λ q. q >>= f) e ∙ h

pub point_again : (x y : ℕ) (rest : List ℕ) → x < 2 ^ 32 → y < 2 ^ 32 → Stops rest → point_at (decimal x ++ (codes "," ++ (decimal y ++ rest))) ≡ Ok (x, y, rest)
unfolding point_at
point_again x y rest column row stops =
    then_read (number_from 0 (decimal x ++ (codes "," ++ (decimal y ++ rest)))) (λ n. behind_at (codes ",") n.1 >>= λ below. number_from 0 below >>= λ m. Ok (n.0, m.0, m.1)) (x, codes "," ++ (decimal y ++ rest)) _
    (number_again x (codes "," ++ (decimal y ++ rest)) column refl) (rw (behind_again (codes ",") (decimal y ++ rest), number_again y rest row stops) refl)

-- ---- signals

pub set_seam : (front back : List Bool) (x y : Bool) → slice_set (front ++ x ∷ back) (length front) y ≡ front ++ y ∷ back
set_seam [] back x y = refl
set_seam (f ∷ front) back x y = ap (λ l. f ∷ l) (set_seam front back x y)

signals_end : (on : List Bool) (rest : List ℕ) → signals_from on (10 ∷ rest) ≡ Ok (on, 10 ∷ rest)
unfolding signals_from
signals_end on [] = refl
signals_end on (c ∷ cs) = refl

letters_read : (k : ℕ) (front back : List Bool) (rest : List ℕ) → length front ≡ k → k + length back ≡ 26
    → signals_from (front ++ replicate (length back) false) (letters k back ++ 10 ∷ rest) ≡ Ok (front ++ back, 10 ∷ rest)
letters_read k front [] rest here all = signals_end (front ++ []) rest
letters_read k front (false ∷ back) rest here all =
    let longer : length (front ++ false ∷ []) ≡ suc k = length-append front (false ∷ []) ∙ (omega (arith, here)) in
    ap (λ l. signals_from l (letters (suc k) back ++ 10 ∷ rest)) (sym (append_assoc front (false ∷ []) (replicate (length back) false)))
    ∙ letters_read (suc k) (front ++ false ∷ []) back rest longer (omega (arith, all))
    ∙ ap (λ l. Ok (l, 10 ∷ rest)) (append_assoc front (false ∷ []) back)
letters_read k front (true ∷ back) rest here all =
    let longer : length (front ++ true ∷ []) ≡ suc k = length-append front (true ∷ []) ∙ (omega (arith, here)) in
    letter_read (front ++ false ∷ replicate (length back) false) k (letters (suc k) back ++ 10 ∷ rest) (omega (arith, all))
    ∙ ap (λ j. signals_from (slice_set (front ++ false ∷ replicate (length back) false) j true) (letters (suc k) back ++ 10 ∷ rest)) (sym here)
    ∙ ap (λ l. signals_from l (letters (suc k) back ++ 10 ∷ rest)) (set_seam front (replicate (length back) false) false true ∙ sym (append_assoc front (true ∷ []) (replicate (length back) false)))
    ∙ letters_read (suc k) (front ++ true ∷ []) back rest longer (omega (arith, all))
    ∙ ap (λ l. Ok (l, 10 ∷ rest)) (append_assoc front (true ∷ []) back)

pub signals_again : (on : List Bool) (rest : List ℕ) → length on ≡ 26 → signals_from no_signals (letters 0 on ++ 10 ∷ rest) ≡ Ok (on, 10 ∷ rest)
signals_again on rest all = ap (λ n. signals_from (replicate n false) (letters 0 on ++ 10 ∷ rest)) (sym all) ∙ letters_read 0 [] on rest refl (omega (arith, all))

-- ---- the head

pub level_again : (digest : ℕ) (rest : List ℕ) → level_at digest ((level_word ++ hex 16 digest) ++ rest) ≡ Ok rest
unfolding level_at
level_again digest rest =
    rw (begins_itself (level_word ++ hex 16 digest) rest, drop_at (level_word ++ hex 16 digest) rest (length (level_word ++ hex 16 digest)) refl) refl

head_parts : (word h f d s l n m rest : List ℕ) → (word ++ h ++ f ++ d ++ codes "\n") ++ (s ++ l ++ codes "\n") ++ (n ++ m ++ codes "\n") ++ rest
    ≡ (word ++ h) ++ (f ++ (d ++ ((codes "\n" ++ s) ++ (l ++ ((codes "\n" ++ n) ++ (m ++ (codes "\n" ++ rest)))))))
head_parts word h f d s l n m rest = simp append_assoc

pub head_again : (digest frame : ℕ) (shown next : List Bool) (rest : List ℕ) → frame < 2 ^ 32 → length shown ≡ 26 → length next ≡ 26
    → head_at digest (state_head digest frame ++ signals_line (codes "shown") shown ++ signals_line (codes "next") next ++ rest) ≡ Ok (record { frame = frame; shown = shown; next = next }, rest)
unfolding head_at
head_again digest frame shown next rest small one other =
    let behind_next : List ℕ = codes "\n" ++ rest in
    let behind_shown : List ℕ = codes "\nnext" ++ (letters 0 next ++ behind_next) in
    let behind_frame : List ℕ = codes "\nshown" ++ (letters 0 shown ++ behind_shown) in
    ap (head_at digest) (head_parts level_word (hex 16 digest) (codes " frame ") (decimal frame) (codes "shown") (letters 0 shown) (codes "next") (letters 0 next) rest)
    ∙ then_read (level_at digest ((level_word ++ hex 16 digest) ++ (codes " frame " ++ (decimal frame ++ behind_frame))))
    (λ level. behind_at (codes " frame ") level >>= λ word. number_from 0 word >>= λ n. behind_at (codes "\nshown") n.1 >>= λ shown_word. signals_from no_signals shown_word >>= λ on.
    behind_at (codes "\nnext") on.1 >>= λ next_word. signals_from no_signals next_word >>= λ after. behind_at (codes "\n") after.1 >>= λ left. Ok (record { frame = n.0; shown = on.0; next = after.0 }, left))
    (codes " frame " ++ (decimal frame ++ behind_frame)) _ (level_again digest (codes " frame " ++ (decimal frame ++ behind_frame))) (rw (
      behind_again (codes " frame ") (decimal frame ++ behind_frame),
      number_again frame behind_frame small refl,
      behind_again (codes "\nshown") (letters 0 shown ++ behind_shown),
      signals_again shown (codes "next" ++ (letters 0 next ++ behind_next)) one,
      behind_again (codes "\nnext") (letters 0 next ++ behind_next),
      signals_again next rest other,
      behind_again (codes "\n") rest,
    ) refl)

-- ---- an agent

told_again : (letter : ℕ) (answer : Option Status) (rest : List ℕ) → told_at (letter ∷ codes " " ++ answer_text answer ++ codes " " ++ rest) ≡ Ok (answer, rest)
unfolding told_at answer_at
told_again letter None rest = refl
told_again letter (Some Success) rest = refl
told_again letter (Some Failure) rest = refl
told_again letter (Some Running) rest = refl

abbrev load_text : Bool → List ℕ
load_text carrying = if carrying then codes " *" else codes " -"

load_again : (carrying : Bool) (rest : List ℕ) → load_at (load_text carrying ++ rest) ≡ Ok (carrying, rest)
unfolding load_at
load_again true rest = refl
load_again false rest = refl

load_stops : (carrying : Bool) (rest : List ℕ) → Stops (load_text carrying ++ rest)
load_stops true rest = refl
load_stops false rest = refl

small_again : (n : ℕ) (rest : List ℕ) → n < 2 ^ 16 → Stops rest → small_at (codes " " ++ decimal n ++ rest) ≡ Ok (n, rest)
unfolding small_at
small_again n rest small stops =
    let within : nat_lt n (2 ^ 16) ≡ true = grind (arith, small) in
    rw (behind_again (codes " ") (decimal n ++ rest), number_again n rest (omega (arith, small)) stops, within) refl

memory_stops : (ms rest : List ℕ) → Stops rest → Stops (memory_text ms ++ rest)
memory_stops [] rest stops = stops
memory_stops (m ∷ ms) rest stops = refl

memory_again : (before ms rest : List ℕ) → All (λ n. n < 2 ^ 16) ms → Stops rest → memory_from before (length ms) (memory_text ms ++ rest) ≡ Ok (before ++ ms, rest)
memory_again before [] rest all stops = memory_none before rest ∙ ap (λ l. Ok (l, rest)) (sym (append-nil before))
memory_again before (m ∷ ms) rest all stops =
    let first : m < 2 ^ 16 = all 0 m (omega arith) in
    let bytes : List ℕ = codes " " ++ decimal m ++ (memory_text ms ++ rest) in
    let text : memory_text (m ∷ ms) ++ rest ≡ bytes = append_assoc (codes " " ++ decimal m) (memory_text ms) rest in
    let whole : suc (length ms) - 0 ≡ suc (length ms) = omega arith in
    let one : suc (length ms) - (0 + 1) ≡ length ms = omega arith in
    ap (memory_from before (suc (length ms))) text
    ∙ sym (memory_more before (suc (length ms)) 0 bytes (memory_from before (suc (length ms)) bytes) (ap (λ n. memory_from before n bytes) whole) m (memory_text ms ++ rest) (before ++ m ∷ [])
    (omega arith) (small_again m (memory_text ms ++ rest) first (memory_stops ms rest stops)) refl)
    ∙ ap (λ n. memory_from (before ++ m ∷ []) n (memory_text ms ++ rest)) one
    ∙ memory_again (before ++ m ∷ []) ms rest (λ i d l. all (suc i) d (omega (arith, l))) stops
    ∙ ap (λ l. Ok (l, rest)) (append_assoc before (m ∷ []) ms)

line_parts : (letter : ℕ) (a x y l m rest : List ℕ) → (letter ∷ codes " " ++ a ++ codes " " ++ x ++ codes "," ++ y ++ l ++ m ++ codes "\n") ++ rest
    ≡ letter ∷ codes " " ++ a ++ codes " " ++ (x ++ (codes "," ++ (y ++ (l ++ (m ++ (codes "\n" ++ rest))))))
line_parts letter a x y l m rest = simp append_assoc

pub line_again : (a : ℕ) (agent : Agent) (answer : Option Status) (memory rest : List ℕ) → agent.x < 2 ^ 32 → agent.y < 2 ^ 32 → All (λ n. n < 2 ^ 16) memory
    → line_at (length memory) (agent_line a agent answer memory ++ rest) ≡ Ok (record { agent = agent; answer = answer; memory = memory }, rest)
unfolding line_at
line_again a agent answer memory rest column row small =
    let behind_memory : List ℕ = codes "\n" ++ rest in
    let behind_load : List ℕ = memory_text memory ++ behind_memory in
    let behind_cell : List ℕ = load_text agent.carrying ++ behind_load in
    ap (line_at (length memory)) (line_parts (65 + a) (answer_text answer) (decimal agent.x) (decimal agent.y) (load_text agent.carrying) (memory_text memory) rest)
    ∙ rw (
      told_again (65 + a) answer (decimal agent.x ++ (codes "," ++ (decimal agent.y ++ behind_cell))),
      point_again agent.x agent.y behind_cell column row (load_stops agent.carrying behind_load),
      load_again agent.carrying behind_load,
      memory_again [] memory behind_memory small refl,
      behind_again (codes "\n") rest,
    ) refl
