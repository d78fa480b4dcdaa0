-- A tick wants what its nodes want that act and are Running, by number.
use Rattle.std.proofs.Common.{◌≡◌, ◌∙◌, ◌<◌, ◌+◌, ◌++◌, ◌∷◌, [], ◌&&◌, ℕ, zero, suc, true, false, Bool, nat_lt, List, sym, ap, subst, refl, arith, length, get_or, map, drop, replicate, append_assoc, append-nil, length-append, drop_at, drop-drop}
use Rattle.std.specs.Prelude.{if◌then◌else◌, Option, Some, None}
use Rattle.std.proofs.lemmas.List.{drop-map, get_or-set_same, length-replicate}
use Rattle.grid_world.specs.Way.{way}
use Rattle.grid_world.specs.declared.cell.Answer.{Answer}
use Rattle.grid_world.specs.declared.cell.Answer.TheVariants.{Here, NoWay, Step}
use Rattle.grid_world.specs.declared.cell.Intent.TheVariants as intent
use Rattle.bt_nodes.specs.declared.node.Status.{Status}
use Rattle.bt_nodes.specs.declared.node.Status.TheVariants.{Success, Failure, Running}
use Rattle.bt_nodes.specs.declared.leaf.Leaf.{Leaf}
use Rattle.bt_nodes.specs.Plain.{Kind, Seq, Fallback, Plain, Composite, Star, Par, Not, Tries, Ticks, Wait, Move, Does, Forest, none, tree}
use Rattle.bt_nodes.specs.Sizes.{size, sizes, count}
use Rattle.game_rules.specs.declared.leaf_result.LeafResult.{LeafResult}
use Rattle.game_rules.specs.declared.leaf_result.LeafResult.TheVariants.{Says, Wants}
use Rattle.game_rules.specs.View.{View, cell_of}
use Rattle.game_rules.specs.Tick.{Reply, Gives, Stands, State, Result, gives, on, on_kind, goes, stops, number_of, put, follow, ask, act, meaning, verdict, tick, tick_line, tick_star, tick_all}
use Rattle.game_rules.specs.Thought.{BeginsWith, ticked, all_ways}
use Rattle.game_rules.proofs.Asking.{begins_same}
use Rattle.game_rules.proofs.Ways.{are_ways}
use Rattle.stepping.specs.Answered.{given, goes_on, has_answered, below, below_line, below_star, below_all, answered, written, node_answers}
use Rattle.btworld_c.specs.Wants.{nodes_of, nodes_in, want_of, step_wanted, result_wanted}
use Rattle.btworld_c.specs.Intents.{acts}
use Rattle.btworld_c.proofs.Picked.{Told, is_running, one_if, picked}
use Rattle.btworld_c.proofs.PartWants.{Same, alike, ways_there, IsFed, Tells, quiet, changes, behind, by_number, if_so, within_given, node, passed, next_part}

-- ---- lengths

mutual
  pub length-nodes : (p : Plain) → length (nodes_of p) ≡ size p
  length-nodes (Composite kind children) = let h = length-nodes_in children in omega (arith, h)
  length-nodes (Star kind children) = let h = length-nodes_in children in omega (arith, h)
  length-nodes (Par m children) = let h = length-nodes_in children in omega (arith, h)
  length-nodes (Not child) = let h = length-nodes child in omega (arith, h)
  length-nodes (Tries k child) = let h = length-nodes child in omega (arith, h)
  length-nodes (Ticks k child) = let h = length-nodes child in omega (arith, h)
  length-nodes (Wait k) = omega arith
  length-nodes (Move p) = omega arith
  length-nodes (Does leaf) = omega arith

  length-nodes_in : (f : Forest) → length (nodes_in f) ≡ sizes f
  length-nodes_in none = omega arith
  length-nodes_in (tree p ps) =
      let h = length-nodes p in let more = length-nodes_in ps in omega (arith, h, more, length-append (nodes_of p) (nodes_in ps))

module _ (v : View) (places : List ℕ) where
  -- ---- nodes that act

  told_at : (n : ℕ) (st : Status) (told : Told) → n < length told → get_or (written (given n (Gives st)) told) n None ≡ Some st
  told_at n st told there = get_or-set_same told n (Some st) None there

  abbrev IsMet : (q : Plain) (n : ℕ) (s : State) → Told → Result → Type 0
  IsMet q n s told r = r.state.wants ≡ s.wants ++ picked v (q ∷ []) n (written (given n r.reply) told)

  -- it answers, and wants something where it is Running
  answers : (q : Plain) (n : ℕ) (s t : State) (st : Status) (told : Told) → n < length told → t.wants ≡ s.wants ++ one_if (acts q && is_running (Some st)) (want_of v q) → IsMet q n s told (gives st t)
  answers q n s t st told there wanted =
      wanted ∙ ap (λ l. s.wants ++ l) (sym (append-nil (one_if (acts q && is_running (Some st)) (want_of v q))) ∙ sym (ap (λ o. one_if (acts q && is_running o) (want_of v q) ++ []) (told_at n st told there)))

  follows : (p n : ℕ) (s t : State) (told : Told) → n < length told → t.wants ≡ s.wants → (x : Answer) → x ≡ way v.world v.signals (cell_of v) p → IsMet (Move p) n s told (follow x t)
  follows p n s t told there same Here is = answers (Move p) n s t Success told there (same ∙ sym (append-nil s.wants))
  follows p n s t told there same NoWay is = answers (Move p) n s t Failure told there (same ∙ sym (append-nil s.wants))
  follows p n s t told there same (Step d k) is =
      answers (Move p) n s (record t { wants = t.wants ++ intent.Move d ∷ [] }) Running told there
      (ap (λ l. l ++ intent.Move d ∷ []) same ∙ ap (λ x. s.wants ++ step_wanted x ∷ []) is)

  does : (leaf : Leaf) (n : ℕ) (s : State) (told : Told) → n < length told → (d : LeafResult) → d ≡ meaning leaf v → IsMet (Does leaf) n s told (act d s)
  does leaf n s told there (Says true) is = answers (Does leaf) n s s Success told there (sym (append-nil s.wants))
  does leaf n s told there (Says false) is = answers (Does leaf) n s s Failure told there (sym (append-nil s.wants))
  does leaf n s told there (Wants i) is =
      answers (Does leaf) n s (record s { wants = s.wants ++ i ∷ [] }) Running told there (ap (λ d. s.wants ++ result_wanted d ∷ []) is)

  asks_one : (p : ℕ) (left : List Answer) (s : State) → (ask p left s).state.asked ≡ s.asked ++ p ∷ []
  asks_one p [] s = refl
  asks_one p (Here ∷ more) s = refl
  asks_one p (NoWay ∷ more) s = refl
  asks_one p (Step d k ∷ more) s = refl

  uses_one : (p : ℕ) (left : List Answer) (s : State) → s.left ≡ left → (ask p left s).state.left ≡ drop 1 left
  uses_one p [] s e = e
  uses_one p (Here ∷ more) s e = refl
  uses_one p (NoWay ∷ more) s e = refl
  uses_one p (Step d k ∷ more) s e = refl

  -- the first answer that is left is the way to the place that is asked now
  abbrev fed_places : ℕ → State → List ℕ → Type 0
  fed_places p s rest = s.left ≡ way v.world v.signals (cell_of v) p ∷ map (way v.world v.signals (cell_of v)) rest

  first_left : (p : ℕ) (s : State) → IsFed v places s → (leads : BeginsWith (s.asked ++ p ∷ []) places) → fed_places p s leads.0
  first_left p s fed leads =
      fed ∙ drop-map (way v.world v.signals (cell_of v)) (length s.asked) places
      ∙ ap (map (way v.world v.signals (cell_of v))) (ap (drop (length s.asked)) (leads.1 ∙ append_assoc s.asked (p ∷ []) leads.0) ∙ drop_at s.asked (p ∷ leads.0) (length s.asked) refl)

  move_tells : (p n : ℕ) → Tells v places (tick v (Move p) n) (answered v (Move p) n) (Move p ∷ []) n
  move_tells p n = record {
    grows = λ s. (p ∷ [], asks_one p s.left s);
    within = λ s. within_given v places n (tick v (Move p) n s).reply;
    fed = λ s fed leads.
        let e : length (s.asked ++ p ∷ []) ≡ length s.asked + 1 = length-append s.asked (p ∷ []) in
        uses_one p s.left s refl ∙ ap (drop 1) fed ∙ drop-drop 1 (length s.asked) (ways_there v places)
        ∙ ap (λ k. drop k (ways_there v places)) (sym e) ∙ ap (λ l. drop (length l) (ways_there v places)) (sym (asks_one p s.left s));
    wants = λ s told un long fed leads.
        let first = first_left p s fed (subst (λ l. BeginsWith l places) (asks_one p s.left s) leads) in
        subst (λ left. IsMet (Move p) n s told (ask p left s)) (sym first)
        (follows p n s (record s { asked = s.asked ++ p ∷ []; left = map (way v.world v.signals (cell_of v)) (subst (λ l. BeginsWith l places) (asks_one p s.left s) leads).0 }) told (omega (arith, long)) refl
        (way v.world v.signals (cell_of v) p) refl);
  }

  same_result : (d : LeafResult) (s : State) → ((act d s).state.asked ≡ s.asked) × ((act d s).state.left ≡ s.left)
  same_result (Says true) s = (refl, refl)
  same_result (Says false) s = (refl, refl)
  same_result (Wants i) s = (refl, refl)

  leaf_tells : (leaf : Leaf) (n : ℕ) → Tells v places (tick v (Does leaf) n) (answered v (Does leaf) n) (Does leaf ∷ []) n
  leaf_tells leaf n = record {
    grows = λ s. subst (λ l. BeginsWith s.asked l) (sym (same_result (meaning leaf v) s).0) (begins_same s.asked);
    within = λ s. within_given v places n (tick v (Does leaf) n s).reply;
    fed = λ s fed leads. let same = same_result (meaning leaf v) s in same.1 ∙ fed ∙ ap (λ l. drop (length l) (ways_there v places)) (sym same.0);
    wants = λ s told un long fed leads. does leaf n s told (omega (arith, long)) (meaning leaf v) refl;
  }

  -- ---- what is made of a reply

  kind_goes : (kind : Kind) (a : Reply) (t : State) (go stop : State → Result) → goes_on kind a ≡ true → on_kind kind (record { reply = a; state = t }) go stop ≡ go t
  kind_goes Seq (Gives Success) t go stop e = refl
  kind_goes Fallback (Gives Failure) t go stop e = refl
  kind_goes _ _ t go stop e = absurd (cc)

  kind_stops : (kind : Kind) (a : Reply) (t : State) (go stop : State → Result) → ((u : State) → Same u (stop u).state) → goes_on kind a ≡ false
      → Same t (on_kind kind (record { reply = a; state = t }) go stop).state
  kind_stops Seq (Gives Success) t go stop same e = absurd (cc)
  kind_stops Seq (Gives Failure) t go stop same e = same t
  kind_stops Seq (Gives Running) t go stop same e = alike t
  kind_stops Seq Stands t go stop same e = alike t
  kind_stops Fallback (Gives Success) t go stop same e = same t
  kind_stops Fallback (Gives Failure) t go stop same e = absurd (cc)
  kind_stops Fallback (Gives Running) t go stop same e = alike t
  kind_stops Fallback Stands t go stop same e = alike t

  same_by : (a : Reply) (t : State) (won lost busy : State → Result) → ((u : State) → Same u (won u).state) → ((u : State) → Same u (lost u).state) → ((u : State) → Same u (busy u).state)
      → Same t (on (record { reply = a; state = t }) won lost busy).state
  same_by (Gives Success) t won lost busy w l b = w t
  same_by (Gives Failure) t won lost busy w l b = l t
  same_by (Gives Running) t won lost busy w l b = b t
  same_by Stands t won lost busy w l b = alike t

  waits : (b : Bool) (s t u : State) → Same s t → Same s u → Same s (if b then gives Running t else gives Success u).state
  waits true s t u a c = a
  waits false s t u a c = c

  -- a par's next part, by what the first one replied
  abbrev by_reply : (Status → State → Result) → Reply → State → Result
  by_reply go (Gives st) = go st
  by_reply go Stands = λ t. record { reply = Stands; state = t }

  abbrev par_goes : Forest → (m n won lost at : ℕ) → Status → State → Result
  par_goes cs m n won lost at Success = tick_all v cs m n (won + 1) lost at
  par_goes cs m n won lost at Failure = tick_all v cs m n won (lost + 1) at
  par_goes cs m n won lost at Running = tick_all v cs m n won lost at

  module _ (cs : Forest) (m n won lost at : ℕ) where
    abbrev on_all : Result → Result
    on_all r = on r (tick_all v cs m n (won + 1) lost at) (tick_all v cs m n won (lost + 1) at) (tick_all v cs m n won lost at)

    all_after : ((w l : ℕ) → Tells v places (tick_all v cs m n w l at) (below_all v cs at) (nodes_in cs) at) → (a : Reply) → has_answered a ≡ true
        → Tells v places (by_reply (par_goes cs m n won lost at) a) (below_all v cs at) (nodes_in cs) at
    all_after h (Gives Success) e = h (won + 1) lost
    all_after h (Gives Failure) e = h won (lost + 1)
    all_after h (Gives Running) e = h won lost
    all_after h Stands e = absurd (cc)

    all_goes : (a : Reply) (t : State) → has_answered a ≡ true → on_all (record { reply = a; state = t }) ≡ by_reply (par_goes cs m n won lost at) a t
    all_goes (Gives Success) t e = refl
    all_goes (Gives Failure) t e = refl
    all_goes (Gives Running) t e = refl
    all_goes Stands t e = absurd (cc)

    all_stops : (a : Reply) (t : State) → has_answered a ≡ false → Same t (on_all (record { reply = a; state = t })).state
    all_stops (Gives st) t e = absurd (cc)
    all_stops Stands t e = alike t

  -- ---- trees

  mutual
    pub tick_tells : (p : Plain) (n : ℕ) → Tells v places (tick v p n) (answered v p n) (nodes_of p) n
    tick_tells (Composite kind children) n =
        node v places (tick_line v children kind (n + 1)) (below_line v children kind (n + 1)) (Composite kind children) (nodes_in children) n refl (line_tells children kind (n + 1))
    tick_tells (Star kind children) n =
        node v places (λ s. tick_star v children kind (number_of n s) 0 n (n + 1) s) (λ s. below_star v children kind (number_of n s) 0 n (n + 1) s) (Star kind children) (nodes_in children) n refl
        (by_number v places (λ k. tick_star v children kind k 0 n (n + 1)) (λ k. below_star v children kind k 0 n (n + 1)) (nodes_in children) (n + 1) n (λ k. star_tells children kind k 0 n (n + 1)))
    tick_tells (Par m children) n =
        node v places (tick_all v children m (count children) 0 0 (n + 1)) (below_all v children (n + 1)) (Par m children) (nodes_in children) n refl (all_tells children m (count children) 0 0 (n + 1))
    tick_tells (Not child) n =
        node v places (tick v (Not child) n) (answered v child (n + 1)) (Not child) (nodes_of child) n refl
        (changes v places (tick v child (n + 1)) (tick v (Not child) n) (answered v child (n + 1)) (nodes_of child) (n + 1) (tick_tells child (n + 1))
        (λ s. same_by (tick v child (n + 1) s).reply (tick v child (n + 1) s).state (gives Failure) (gives Success) (gives Running) (λ u. alike u) (λ u. alike u) (λ u. alike u)))
    tick_tells (Tries k child) n =
        node v places (tick v (Tries k child) n) (below v (Tries k child) n) (Tries k child) (nodes_of child) n refl
        (if_so v places (λ s. on (tick v child (n + 1) s) (gives Success) (λ t. gives Failure (put n (number_of n s + 1) t)) (gives Running)) (gives Failure) (answered v child (n + 1)) (nodes_of child) (n + 1)
        (changes v places (tick v child (n + 1)) (λ s. on (tick v child (n + 1) s) (gives Success) (λ t. gives Failure (put n (number_of n s + 1) t)) (gives Running)) (answered v child (n + 1)) (nodes_of child) (n + 1) (tick_tells child (n + 1))
        (λ s. same_by (tick v child (n + 1) s).reply (tick v child (n + 1) s).state (gives Success) (λ t. gives Failure (put n (number_of n s + 1) t)) (gives Running)
        (λ u. alike u) (λ u. record { wants = refl; asked = refl; left = refl }) (λ u. alike u)))
        (λ s. alike s) (λ s. nat_lt (number_of n s) k))
    tick_tells (Ticks k child) n =
        node v places (tick v (Ticks k child) n) (below v (Ticks k child) n) (Ticks k child) (nodes_of child) n refl
        (if_so v places (λ s. on (tick v child (n + 1) s) (λ t. gives Success (put n 0 t)) (λ t. gives Failure (put n 0 t)) (λ t. gives Running (put n (number_of n s + 1) t))) (λ s. gives Failure (put n 0 s)) (answered v child (n + 1)) (nodes_of child) (n + 1)
        (changes v places (tick v child (n + 1)) (λ s. on (tick v child (n + 1) s) (λ t. gives Success (put n 0 t)) (λ t. gives Failure (put n 0 t)) (λ t. gives Running (put n (number_of n s + 1) t))) (answered v child (n + 1)) (nodes_of child) (n + 1) (tick_tells child (n + 1))
        (λ s. same_by (tick v child (n + 1) s).reply (tick v child (n + 1) s).state (λ t. gives Success (put n 0 t)) (λ t. gives Failure (put n 0 t)) (λ t. gives Running (put n (number_of n s + 1) t))
        (λ u. record { wants = refl; asked = refl; left = refl }) (λ u. record { wants = refl; asked = refl; left = refl }) (λ u. record { wants = refl; asked = refl; left = refl })))
        (λ s. record { wants = refl; asked = refl; left = refl }) (λ s. nat_lt (number_of n s) k))
    tick_tells (Wait k) n =
        node v places (tick v (Wait k) n) (λ s. []) (Wait k) [] n refl
        (quiet v places (tick v (Wait k) n) (n + 1) (λ s. waits (nat_lt (number_of n s) k) s (put n (number_of n s + 1) s) (put n 0 s) (record { wants = refl; asked = refl; left = refl }) (record { wants = refl; asked = refl; left = refl })))
    tick_tells (Move p) n = move_tells p n
    tick_tells (Does leaf) n = leaf_tells leaf n

    line_tells : (cs : Forest) (kind : Kind) (at : ℕ) → Tells v places (tick_line v cs kind at) (below_line v cs kind at) (nodes_in cs) at
    line_tells none kind at = quiet v places (gives (goes kind)) at (λ s. alike s)
    line_tells (tree c cs) kind at =
        next_part v places (tick v c at) (answered v c at) (nodes_of c) (nodes_in cs) at (at + size c) (ap (λ n. at + n) (length-nodes c)) (tick_tells c at)
        (goes_on kind) (λ a. tick_line v cs kind (at + size c)) (λ a. below_line v cs kind (at + size c)) (tick_line v (tree c cs) kind at) (λ a e. line_tells cs kind (at + size c))
        (λ s e. kind_goes kind (tick v c at s).reply (tick v c at s).state (tick_line v cs kind (at + size c)) (gives (stops kind)) e)
        (λ s e. kind_stops kind (tick v c at s).reply (tick v c at s).state (tick_line v cs kind (at + size c)) (gives (stops kind)) (λ u. alike u) e)

    star_tells : (cs : Forest) (kind : Kind) (k i own at : ℕ) → Tells v places (tick_star v cs kind k i own at) (below_star v cs kind k i own at) (nodes_in cs) at
    star_tells none kind k i own at = quiet v places (λ s. gives (goes kind) (put own 0 s)) at (λ s. record { wants = refl; asked = refl; left = refl })
    star_tells (tree c cs) kind zero i own at =
        next_part v places (tick v c at) (answered v c at) (nodes_of c) (nodes_in cs) at (at + size c) (ap (λ n. at + n) (length-nodes c)) (tick_tells c at)
        (goes_on kind) (λ a t. tick_star v cs kind 0 (i + 1) own (at + size c) (put own (i + 1) t)) (λ a t. below_star v cs kind 0 (i + 1) own (at + size c) (put own (i + 1) t)) (tick_star v (tree c cs) kind zero i own at)
        (λ a e. behind v places (tick_star v cs kind 0 (i + 1) own (at + size c)) (below_star v cs kind 0 (i + 1) own (at + size c)) (nodes_in cs) (at + size c) own (i + 1) (star_tells cs kind 0 (i + 1) own (at + size c)))
        (λ s e. kind_goes kind (tick v c at s).reply (tick v c at s).state (λ t. tick_star v cs kind 0 (i + 1) own (at + size c) (put own (i + 1) t)) (λ t. gives (stops kind) (put own 0 t)) e)
        (λ s e. kind_stops kind (tick v c at s).reply (tick v c at s).state (λ t. tick_star v cs kind 0 (i + 1) own (at + size c) (put own (i + 1) t)) (λ t. gives (stops kind) (put own 0 t)) (λ u. record { wants = refl; asked = refl; left = refl }) e)
    star_tells (tree c cs) kind (suc k) i own at =
        passed v places (tick_star v cs kind k (i + 1) own (at + size c)) (below_star v cs kind k (i + 1) own (at + size c)) (nodes_of c) (nodes_in cs) at (at + size c) (ap (λ n. at + n) (length-nodes c))
        (star_tells cs kind k (i + 1) own (at + size c))

    all_tells : (cs : Forest) (m n won lost at : ℕ) → Tells v places (tick_all v cs m n won lost at) (below_all v cs at) (nodes_in cs) at
    all_tells none m n won lost at = quiet v places (gives (verdict m n won lost)) at (λ s. alike s)
    all_tells (tree c cs) m n won lost at =
        next_part v places (tick v c at) (answered v c at) (nodes_of c) (nodes_in cs) at (at + size c) (ap (λ n. at + n) (length-nodes c)) (tick_tells c at)
        has_answered (by_reply (par_goes cs m n won lost (at + size c))) (λ a. below_all v cs (at + size c)) (tick_all v (tree c cs) m n won lost at)
        (all_after cs m n won lost (at + size c) (λ w l. all_tells cs m n w l (at + size c)))
        (λ s e. all_goes cs m n won lost (at + size c) (tick v c at s).reply (tick v c at s).state e)
        (λ s e. all_stops cs m n won lost (at + size c) (tick v c at s).reply (tick v c at s).state e)

-- ---- whole ticks

abbrev none_told : Option Status
none_told = None

untold : (n k : ℕ) → get_or (replicate n none_told) k None ≡ None
untold zero k = refl
untold (suc n) zero = refl
untold (suc n) (suc k) = untold n k

module _ (v : View) (p : Plain) (memory : List ℕ) where
  -- a tick's wants are those of the nodes that act and are Running, by number
  pub wants_told : (ticked v p memory (all_ways v p memory)).state.wants ≡ picked v (nodes_of p) 0 (node_answers v p memory)
  wants_told =
      let places : List ℕ = (ticked v p memory (all_ways v p memory)).state.asked in
      let start : State = record { memory = memory; wants = []; asked = []; left = all_ways v p memory } in
      (tick_tells v places p 0).wants start (replicate (size p) none_told) (λ k a b. untold (size p) k)
      (let e = length-nodes p in let l = length-replicate (size p) none_told in omega (arith, e, l)) (sym (are_ways v p memory)) (begins_same places)
