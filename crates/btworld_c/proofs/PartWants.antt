-- Parts of a tick, and what the nodes in them want.
use Rattle.std.proofs.Common.{◌≡◌, ◌∙◌, ◌<◌, ◌≤◌, ◌+◌, ◌++◌, ◌∷◌, [], ◌&&◌, ℕ, Bool, true, false, List, sym, ap, subst, refl, arith, length, get_or, map, drop, append_assoc, append-nil, length-append}
use Rattle.std.specs.Prelude.{if◌then◌else◌, None}
use Rattle.grid_world.specs.Way.{way}
use Rattle.grid_world.specs.declared.cell.Answer.{Answer}
use Rattle.bt_nodes.specs.declared.node.Status.{Status}
use Rattle.bt_nodes.specs.Plain.{Plain}
use Rattle.game_rules.specs.View.{View, cell_of}
use Rattle.game_rules.specs.Tick.{Reply, Gives, Stands, State, Result, number_of, put}
use Rattle.game_rules.specs.Thought.{BeginsWith}
use Rattle.game_rules.proofs.Asking.{begins_same, begins_on}
use Rattle.stepping.specs.Answered.{given, written}
use Rattle.stepping.proofs.Written.{written_more, length-written}
use Rattle.btworld_c.specs.Wants.{want_of}
use Rattle.btworld_c.specs.Intents.{acts}
use Rattle.btworld_c.proofs.Picked.{Told, is_running, one_if, picked, picked_append, picked_local, picked_none, Within, within_append, within_wider, outside}

-- but for the memory the same
pub record Same (s t : State) : Type 0 where
  pub wants : t.wants ≡ s.wants
  pub asked : t.asked ≡ s.asked
  pub left : t.left ≡ s.left

abbrev pub alike : (s : State) → Same s s
alike s = record { wants = refl; asked = refl; left = refl }

-- no node of a range is told of
abbrev pub Untold : (lo hi : ℕ) → Told → Type 0
Untold lo hi told = (k : ℕ) → lo ≤ k → k < hi → get_or told k None ≡ None

-- places is what the whole tick asks
module _ (v : View) (places : List ℕ) where
  abbrev pub ways_there : List Answer
  ways_there = map (way v.world v.signals (cell_of v)) places

  -- the answers that are left are those to the places that come
  abbrev pub IsFed : State → Type 0
  IsFed s = s.left ≡ drop (length s.asked) ways_there

  fed_on : (s t : State) → Same s t → IsFed s → IsFed t
  fed_on s t same fed = same.left ∙ fed ∙ ap (λ l. drop (length l) ways_there) (sym same.asked)

  -- a part of a tick, with what it tells of nodes behind one another, of which the first has the number lo
  pub record Tells (part : State → Result) (tells : State → List (ℕ × Status)) (nodes : List Plain) (lo : ℕ) : Type 0 where
    pub grows : (s : State) → BeginsWith s.asked (part s).state.asked
    pub within : (s : State) → Within lo (lo + length nodes) (tells s)
    pub fed : (s : State) → IsFed s → BeginsWith (part s).state.asked places → IsFed (part s).state
    pub wants : (s : State) (told : Told) → Untold lo (lo + length nodes) told → lo + length nodes ≤ length told → IsFed s → BeginsWith (part s).state.asked places
        → (part s).state.wants ≡ s.wants ++ picked v nodes lo (written (tells s) told)

  -- a part that ticks no node
  pub quiet : (part : State → Result) (lo : ℕ) → ((s : State) → Same s (part s).state) → Tells part (λ s. []) [] lo
  quiet part lo same = record {
    grows = λ s. subst (λ l. BeginsWith s.asked l) (sym (same s).asked) (begins_same s.asked);
    within = λ s. tt;
    fed = λ s fed leads. fed_on s (part s).state (same s) fed;
    wants = λ s told un long fed leads. (same s).wants ∙ sym (append-nil s.wants);
  }

  -- what is made of a part changes the memory alone
  pub changes : (part whole : State → Result) (tells : State → List (ℕ × Status)) (nodes : List Plain) (lo : ℕ) → Tells part tells nodes lo
      → ((s : State) → Same (part s).state (whole s).state) → Tells whole tells nodes lo
  changes part whole tells nodes lo t same = record {
    grows = λ s. subst (λ l. BeginsWith s.asked l) (sym (same s).asked) (t.grows s);
    within = t.within;
    fed = λ s fed leads. fed_on (part s).state (whole s).state (same s) (t.fed s fed (subst (λ l. BeginsWith l places) (same s).asked leads));
    wants = λ s told un long fed leads. (same s).wants ∙ t.wants s told un long fed (subst (λ l. BeginsWith l places) (same s).asked leads);
  }

  -- nor does what comes before it
  pub behind : (part : State → Result) (tells : State → List (ℕ × Status)) (nodes : List Plain) (lo : ℕ) (n k : ℕ) → Tells part tells nodes lo
      → Tells (λ s. part (put n k s)) (λ s. tells (put n k s)) nodes lo
  behind part tells nodes lo n k t = record {
    grows = λ s. t.grows (put n k s);
    within = λ s. t.within (put n k s);
    fed = λ s. t.fed (put n k s);
    wants = λ s. t.wants (put n k s);
  }

  -- a part that depends on the state
  pub by_number : (part : ℕ → State → Result) (tells : ℕ → State → List (ℕ × Status)) (nodes : List Plain) (lo n : ℕ) → ((k : ℕ) → Tells (part k) (tells k) nodes lo)
      → Tells (λ s. part (number_of n s) s) (λ s. tells (number_of n s) s) nodes lo
  by_number part tells nodes lo n t = record {
    grows = λ s. (t (number_of n s)).grows s;
    within = λ s. (t (number_of n s)).within s;
    fed = λ s. (t (number_of n s)).fed s;
    wants = λ s. (t (number_of n s)).wants s;
  }

  -- or that may be left out
  module _ (part other : State → Result) (tells : State → List (ℕ × Status)) (nodes : List Plain) (lo : ℕ) (t : Tells part tells nodes lo) (same : (s : State) → Same s (other s).state) where
    grows_if : (s : State) (b : Bool) → BeginsWith s.asked (if b then part s else other s).state.asked
    grows_if s true = t.grows s
    grows_if s false = subst (λ l. BeginsWith s.asked l) (sym (same s).asked) (begins_same s.asked)

    within_if : (s : State) (b : Bool) → Within lo (lo + length nodes) (if b then tells s else [])
    within_if s true = t.within s
    within_if s false = tt

    fed_if : (s : State) (b : Bool) → IsFed s → BeginsWith (if b then part s else other s).state.asked places → IsFed (if b then part s else other s).state
    fed_if s true fed leads = t.fed s fed leads
    fed_if s false fed leads = fed_on s (other s).state (same s) fed

    wants_if : (s : State) (b : Bool) (told : Told) → Untold lo (lo + length nodes) told → lo + length nodes ≤ length told → IsFed s
        → BeginsWith (if b then part s else other s).state.asked places
        → (if b then part s else other s).state.wants ≡ s.wants ++ picked v nodes lo (written (if b then tells s else []) told)
    wants_if s true told un long fed leads = t.wants s told un long fed leads
    wants_if s false told un long fed leads = (same s).wants ∙ sym (append-nil s.wants) ∙ ap (λ l. s.wants ++ l) (sym (picked_none v nodes lo told un))

    pub if_so : (b : State → Bool) → Tells (λ s. if b s then part s else other s) (λ s. if b s then tells s else []) nodes lo
    if_so b = record {
      grows = λ s. grows_if s (b s);
      within = λ s. within_if s (b s);
      fed = λ s. fed_if s (b s);
      wants = λ s. wants_if s (b s);
    }

  -- ---- a node and those below it

  pub within_given : (n : ℕ) (a : Reply) → Within n (n + 1) (given n a)
  within_given n (Gives st) = (omega arith, omega arith, tt)
  within_given n Stands = tt

  does_not_act : (p : Plain) (b : Bool) → acts p ≡ false → one_if (acts p && b) (want_of v p) ≡ []
  does_not_act p b e = ap (λ a. one_if (a && b) (want_of v p)) e

  pub node : (part : State → Result) (tells : State → List (ℕ × Status)) (p : Plain) (nodes : List Plain) (n : ℕ) → acts p ≡ false → Tells part tells nodes (n + 1)
      → Tells part (λ s. tells s ++ given n (part s).reply) (p ∷ nodes) n
  node part tells p nodes n stays t = record {
    grows = t.grows;
    within = λ s. within_append n (n + length (p ∷ nodes)) (tells s) (given n (part s).reply)
        (within_wider (n + 1) (n + 1 + length nodes) n (n + length (p ∷ nodes)) (tells s) (omega arith) (omega arith) (t.within s))
        (within_wider n (n + 1) n (n + length (p ∷ nodes)) (given n (part s).reply) (omega arith) (omega arith) (within_given n (part s).reply));
    fed = t.fed;
    wants = λ s told un long fed leads.
        let now : Told = written (tells s) told in
        let all : Told = written (tells s ++ given n (part s).reply) told in
        let more : all ≡ written (given n (part s).reply) now = written_more (tells s) (given n (part s).reply) told in
        t.wants s told (λ k a b. un k (omega (arith, a)) (omega (arith, b))) (omega (arith, long)) fed leads
        ∙ ap (λ l. s.wants ++ l)
        (picked_local v nodes (n + 1) now all (λ k a b. sym (ap (λ (l : Told). get_or l k None) more ∙ outside n (n + 1) (given n (part s).reply) now k (λ j x y e. omega (arith, a, x, y, e)) (within_given n (part s).reply)))
        ∙ ap (λ l. l ++ picked v nodes (n + 1) all) (sym (does_not_act p (is_running (get_or all n None)) stays)));
  }

  -- ---- a part, and the next where it goes on

  module _ (part : State → Result) (tells : State → List (ℕ × Status)) (xs ys : List Plain) (lo mid : ℕ) (there : lo + length xs ≡ mid) where
    length_both : lo + length (xs ++ ys) ≡ mid + length ys
    length_both = let e = length-append xs ys in omega (arith, e, there)

    picked_both : (told : Told) → picked v (xs ++ ys) lo told ≡ picked v xs lo told ++ picked v ys mid told
    picked_both told = picked_append v xs ys lo told ∙ ap (λ k. picked v xs lo told ++ picked v ys k told) there

    -- those that are passed over
    pub passed : Tells part tells ys mid → Tells part tells (xs ++ ys) lo
    passed t = record {
      grows = t.grows;
      within = λ s. within_wider mid (mid + length ys) lo (lo + length (xs ++ ys)) (tells s) (omega (arith, there)) (let e = length_both in omega (arith, e)) (t.within s);
      fed = t.fed;
      wants = λ s told un long fed leads.
          let all : Told = written (tells s) told in
          let e = length_both in
          let free : picked v xs lo all ≡ [] = picked_none v xs lo all (λ k a b. outside mid (mid + length ys) (tells s) told k (λ j x y z. omega (arith, there, b, x, z)) (t.within s) ∙ un k a (omega (arith, there, b, e))) in
          t.wants s told (λ k a b. un k (omega (arith, there, a)) (omega (arith, b, e))) (omega (arith, long, e)) fed leads
          ∙ ap (λ l. s.wants ++ l) (sym (picked_both all ∙ ap (λ l. l ++ picked v ys mid all) free));
    }

    module _ (t : Tells part tells xs lo) (goes : Reply → Bool) (next : Reply → State → Result) (tells_next : Reply → State → List (ℕ × Status)) (whole : State → Result)
        (after : (a : Reply) → goes a ≡ true → Tells (next a) (tells_next a) ys mid)
        (on_go : (s : State) → goes (part s).reply ≡ true → whole s ≡ next (part s).reply (part s).state)
        (on_stop : (s : State) → goes (part s).reply ≡ false → Same (part s).state (whole s).state) where
      abbrev tells_on : State → Bool → List (ℕ × Status)
      tells_on s b = if b then tells_next (part s).reply (part s).state else []

      grows_by : (s : State) (b : Bool) → goes (part s).reply ≡ b → BeginsWith s.asked (whole s).state.asked
      grows_by s true e = subst (λ (r : Result). BeginsWith s.asked r.state.asked) (sym (on_go s e))
          (begins_on s.asked (part s).state.asked (next (part s).reply (part s).state).state.asked (t.grows s) ((after (part s).reply e).grows (part s).state))
      grows_by s false e = subst (λ l. BeginsWith s.asked l) (sym (on_stop s e).asked) (t.grows s)

      within_by : (s : State) (b : Bool) → goes (part s).reply ≡ b → Within lo (lo + length (xs ++ ys)) (tells s ++ tells_on s b)
      within_by s true e = let h = length_both in within_append lo (lo + length (xs ++ ys)) (tells s) (tells_on s true)
          (within_wider lo (lo + length xs) lo (lo + length (xs ++ ys)) (tells s) (omega arith) (omega (arith, h, there)) (t.within s))
          (within_wider mid (mid + length ys) lo (lo + length (xs ++ ys)) (tells_on s true) (omega (arith, there)) (omega (arith, h)) ((after (part s).reply e).within (part s).state))
      within_by s false e = let h = length_both in within_append lo (lo + length (xs ++ ys)) (tells s) []
          (within_wider lo (lo + length xs) lo (lo + length (xs ++ ys)) (tells s) (omega arith) (omega (arith, h, there)) (t.within s)) tt

      -- the first part's questions are among the places
      leads_first : (s : State) (b : Bool) → goes (part s).reply ≡ b → BeginsWith (whole s).state.asked places → BeginsWith (part s).state.asked places
      leads_first s true e leads = begins_on (part s).state.asked (whole s).state.asked places
          (subst (λ (r : Result). BeginsWith (part s).state.asked r.state.asked) (sym (on_go s e)) ((after (part s).reply e).grows (part s).state)) leads
      leads_first s false e leads = subst (λ l. BeginsWith l places) (on_stop s e).asked leads

      leads_next : (s : State) (e : goes (part s).reply ≡ true) → BeginsWith (whole s).state.asked places → BeginsWith (next (part s).reply (part s).state).state.asked places
      leads_next s e leads = subst (λ (r : Result). BeginsWith r.state.asked places) (on_go s e) leads

      fed_by : (s : State) (b : Bool) → goes (part s).reply ≡ b → IsFed s → BeginsWith (whole s).state.asked places → IsFed (whole s).state
      fed_by s true e fed leads = subst (λ (r : Result). IsFed r.state) (sym (on_go s e))
          ((after (part s).reply e).fed (part s).state (t.fed s fed (leads_first s true e leads)) (leads_next s e leads))
      fed_by s false e fed leads = fed_on (part s).state (whole s).state (on_stop s e) (t.fed s fed (leads_first s false e leads))

      wants_by : (s : State) (b : Bool) → goes (part s).reply ≡ b → (told : Told) → Untold lo (lo + length (xs ++ ys)) told → lo + length (xs ++ ys) ≤ length told → IsFed s
          → BeginsWith (whole s).state.asked places → (whole s).state.wants ≡ s.wants ++ picked v (xs ++ ys) lo (written (tells s ++ tells_on s b) told)
      wants_by s true e told un long fed leads =
          let h = length_both in
          let u : State = (part s).state in
          let now : Told = written (tells s) told in
          let all : Told = written (tells s ++ tells_on s true) told in
          let more : all ≡ written (tells_on s true) now = written_more (tells s) (tells_on s true) told in
          let first : u.wants ≡ s.wants ++ picked v xs lo now =
          t.wants s told (λ k a b. un k a (omega (arith, b, h, there))) (omega (arith, long, h, there)) fed (leads_first s true e leads) in
          let still : picked v xs lo now ≡ picked v xs lo all =
          picked_local v xs lo now all (λ k a b. sym (ap (λ (l : Told). get_or l k None) more
          ∙ outside mid (mid + length ys) (tells_on s true) now k (λ j x y z. omega (arith, there, b, x, z)) ((after (part s).reply e).within u))) in
          let free : Untold mid (mid + length ys) now =
          λ k a b. outside lo (lo + length xs) (tells s) told k (λ j x y z. omega (arith, there, a, y, z)) (t.within s) ∙ un k (omega (arith, a, there)) (omega (arith, b, h)) in
          let second : (next (part s).reply u).state.wants ≡ u.wants ++ picked v ys mid (written (tells_on s true) now) =
          (after (part s).reply e).wants u now free (let q = length-written (tells s) told in omega (arith, q, long, h)) (t.fed s fed (leads_first s true e leads)) (leads_next s e leads) in
          ap (λ (r : Result). r.state.wants) (on_go s e) ∙ second ∙ ap (λ (l : Told). u.wants ++ picked v ys mid l) (sym more)
          ∙ ap (λ l. l ++ picked v ys mid all) (first ∙ ap (λ l. s.wants ++ l) still)
          ∙ append_assoc s.wants (picked v xs lo all) (picked v ys mid all) ∙ ap (λ l. s.wants ++ l) (sym (picked_both all))
      wants_by s false e told un long fed leads =
          let h = length_both in
          let now : Told = written (tells s) told in
          let all : Told = written (tells s ++ []) told in
          let more : all ≡ now = written_more (tells s) [] told in
          let first : (part s).state.wants ≡ s.wants ++ picked v xs lo now =
          t.wants s told (λ k a b. un k a (omega (arith, b, h, there))) (omega (arith, long, h, there)) fed (leads_first s false e leads) in
          let free : picked v ys mid now ≡ [] =
          picked_none v ys mid now (λ k a b. outside lo (lo + length xs) (tells s) told k (λ j x y z. omega (arith, there, a, y, z)) (t.within s) ∙ un k (omega (arith, a, there)) (omega (arith, b, h))) in
          (on_stop s e).wants ∙ first
          ∙ ap (λ l. s.wants ++ l) (sym (append-nil (picked v xs lo now)) ∙ ap (λ l. picked v xs lo now ++ l) (sym free) ∙ sym (picked_both now) ∙ ap (picked v (xs ++ ys) lo) (sym more))

      pub next_part : Tells whole (λ s. tells s ++ tells_on s (goes (part s).reply)) (xs ++ ys) lo
      next_part = record {
        grows = λ s. grows_by s (goes (part s).reply) refl;
        within = λ s. within_by s (goes (part s).reply) refl;
        fed = λ s. fed_by s (goes (part s).reply) refl;
        wants = λ s. wants_by s (goes (part s).reply) refl;
      }
