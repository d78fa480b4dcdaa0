-- What an observed tick comes to, part by part.
use Rattle.std.proofs.Common.{◌≡◌, ℕ, ◌+◌, List, [], ◌∷◌, ◌++◌, length, Bool, true, false, nat_lt, ◌<◌, ◌≤◌, arith, refl, sym, ap, ◌∙◌, subst}
use Rattle.std.specs.Prelude.{if◌then◌else◌, Option, Some, None}
use Rattle.std.proofs.lemmas.List.{length-set}
use Rattle.grid_world.specs.declared.cell.Answer.{Answer}
use Rattle.grid_world.specs.declared.cell.Answer.TheVariants.{Here, NoWay, Step}
use Rattle.grid_world.specs.declared.cell.Dir.{Dir}
use Rattle.grid_world.specs.declared.cell.Intent.{Intent}
use Rattle.grid_world.specs.declared.cell.Intent.TheVariants as intent
use Rattle.bt_nodes.specs.declared.node.Status.{Status}
use Rattle.bt_nodes.specs.declared.node.Status.TheVariants.{Success, Failure, Running}
use Rattle.bt_nodes.specs.Heads.{is_leaf}
use Rattle.bt_nodes.specs.Plain.{Kind, Seq, Fallback, Plain, Not, Wait, Move, Does, Forest, none, tree}
use Rattle.bt_nodes.specs.Sizes.{size}
use Rattle.game_rules.specs.View.{View}
use Rattle.game_rules.specs.Tick.{Reply, Gives, Stands, State, Result, gives, on, on_kind, goes, stops, number_of, put, follow, ask, verdict, tick, tick_line, tick_star, tick_all}
use Rattle.stepping.specs.declared.counter.Counter.{Counter}
use Rattle.stepping.specs.declared.counter.Counter.TheVariants as counts
use Rattle.stepping.specs.Answered.{given, goes_on, has_answered, own, below, below_line, below_star, below_all, answered, written}
use Rattle.stepping.specs.Observing.{Seen, reply_of, not_of, stops_at, counted, tried, ticked_on, wanting, counting, with_want, with_number, with_count, given_up, with_told, HasRoom, Observed}
use Rattle.stepping.proofs.Written.{written_more, length-written}

abbrev result_of : Reply → State → Result
result_of a s = record { reply = a; state = s }

-- ---- what is made of a child's reply

on_line : (kind : Kind) (a : Reply) (s : State) (go : State → Result) → on_kind kind (result_of a s) go (gives (stops kind)) ≡ (if goes_on kind a then go s else result_of a s)
on_line Seq (Gives Success) s go = refl
on_line Seq (Gives Failure) s go = refl
on_line Seq (Gives Running) s go = refl
on_line Seq Stands s go = refl
on_line Fallback (Gives Success) s go = refl
on_line Fallback (Gives Failure) s go = refl
on_line Fallback (Gives Running) s go = refl
on_line Fallback Stands s go = refl

on_star : (kind : Kind) (a : Reply) (s : State) (go : State → Result) (clear : State → State) → on_kind kind (result_of a s) go (λ t. gives (stops kind) (clear t))
    ≡ (if goes_on kind a then go s else (if stops_at kind a then result_of a (clear s) else result_of a s))
on_star Seq (Gives Success) s go clear = refl
on_star Seq (Gives Failure) s go clear = refl
on_star Seq (Gives Running) s go clear = refl
on_star Seq Stands s go clear = refl
on_star Fallback (Gives Success) s go clear = refl
on_star Fallback (Gives Failure) s go clear = refl
on_star Fallback (Gives Running) s go clear = refl
on_star Fallback Stands s go clear = refl

on_not : (r : Option Status) (s : State) → on (result_of (reply_of r) s) (gives Failure) (gives Success) (gives Running) ≡ result_of (reply_of (not_of r)) s
on_not (Some Success) s = refl
on_not (Some Failure) s = refl
on_not (Some Running) s = refl
on_not None s = refl

on_counted : (st : Status) (won lost : ℕ) (go : ℕ → ℕ → State → Result) (s : State)
    → on (result_of (Gives st) s) (go (won + 1) lost) (go won (lost + 1)) (go won lost) ≡ go (counted st won lost).0 (counted st won lost).1 s
on_counted Success won lost go s = refl
on_counted Failure won lost go s = refl
on_counted Running won lost go s = refl

on_tries : (r : Option Status) (n failed : ℕ) (s : State)
    → on (result_of (reply_of r) s) (gives Success) (λ t. gives Failure (put n (failed + 1) t)) (gives Running) ≡ result_of (reply_of r) (tried n failed r s)
on_tries (Some Success) n failed s = refl
on_tries (Some Failure) n failed s = refl
on_tries (Some Running) n failed s = refl
on_tries None n failed s = refl

on_ticks : (r : Option Status) (n past : ℕ) (s : State)
    → on (result_of (reply_of r) s) (λ t. gives Success (put n 0 t)) (λ t. gives Failure (put n 0 t)) (λ t. gives Running (put n (past + 1) t))
    ≡ result_of (reply_of r) (ticked_on n past r s)
on_ticks (Some Success) n past s = refl
on_ticks (Some Failure) n past s = refl
on_ticks (Some Running) n past s = refl
on_ticks None n past s = refl

length-tried : (r : Option Status) (n failed : ℕ) (s : State) → length (tried n failed r s).memory ≡ length s.memory
length-tried (Some Success) n failed s = refl
length-tried (Some Failure) n failed s = length-set s.memory n (failed + 1)
length-tried (Some Running) n failed s = refl
length-tried None n failed s = refl

length-ticked_on : (r : Option Status) (n past : ℕ) (s : State) → length (ticked_on n past r s).memory ≡ length s.memory
length-ticked_on (Some Success) n past s = length-set s.memory n 0
length-ticked_on (Some Failure) n past s = length-set s.memory n 0
length-ticked_on (Some Running) n past s = length-set s.memory n (past + 1)
length-ticked_on None n past s = refl

wanting_memory : (st : Status) (i : Intent) (s : State) → (wanting st i s).memory ≡ s.memory
wanting_memory Success i s = refl
wanting_memory Failure i s = refl
wanting_memory Running i s = refl

-- ---- what is written

module _ (whole : Plain) where
  pub told_room : (a b : Seen) (n : ℕ) (reply : Option Status) → HasRoom whole a → b ≡ with_told n reply a → HasRoom whole b
  told_room a b n reply h e = subst (HasRoom whole) (sym e) (record { numbers = h.numbers; told = length-written (given n (reply_of reply)) a.told ∙ h.told })

  pub number_room : (a b : Seen) (n k : ℕ) → HasRoom whole a → b ≡ with_number n k a → HasRoom whole b
  number_room a b n k h e = subst (HasRoom whole) (sym e) (record { numbers = length-set a.state.memory n k ∙ h.numbers; told = h.told })

  -- a part that ticks no node
  pub alone : (part : State → Result) (a b : Seen) (reply : Option Status) → part a.state ≡ result_of (reply_of reply) b.state → b.told ≡ a.told → HasRoom whole b
      → Observed whole part (λ s. []) a reply b
  alone part a b reply e t h = record { result = e; told = t; room = h }

  module _ (v : View) where
    -- a node itself answers behind those below it
    pub told_own : (p : Plain) (n : ℕ) (a b c : Seen) (reply : Option Status) → Observed whole (tick v p n) (below v p n) a reply b → c ≡ with_told n reply b
        → Observed whole (tick v p n) (answered v p n) a reply c
    told_own p n a b c reply o e = record {
      result = o.result ∙ ap (λ (x : Seen). result_of (reply_of reply) x.state) (sym e);
      told =
          ap (λ (x : Seen). x.told) e ∙ ap (λ (r : Result). written (given n r.reply) b.told) (sym o.result) ∙ ap (written (own v p n a.state)) o.told
          ∙ sym (written_more (below v p n a.state) (own v p n a.state) a.told);
      room = told_room b c n reply o.room e;
    }

    -- ---- a seq or a fallback

    module _ (kind : Kind) (c : Plain) (cs : Forest) (at : ℕ) (a b : Seen) (r : Option Status) (first : Observed whole (tick v c at) (answered v c at) a r b) where
      abbrev tells : (Reply → State → List (ℕ × Status)) → List (ℕ × Status)
      tells rest = answered v c at a.state ++ rest (tick v c at a.state).reply (tick v c at a.state).state

      tells_is : (rest : Reply → State → List (ℕ × Status)) (more : List (ℕ × Status)) → rest (reply_of r) b.state ≡ more → written (tells rest) a.told ≡ written more b.told
      tells_is rest more e =
          written_more (answered v c at a.state) (rest (tick v c at a.state).reply (tick v c at a.state).state) a.told
          ∙ ap (written (rest (tick v c at a.state).reply (tick v c at a.state).state)) (sym first.told)
          ∙ ap (λ (x : Result). written (rest x.reply x.state) b.told) first.result ∙ ap (λ l. written l b.told) e

      pub line_next : (d : Seen) (r' : Option Status) → goes_on kind (reply_of r) ≡ true
          → Observed whole (tick_line v cs kind (at + size c)) (below_line v cs kind (at + size c)) b r' d
          → Observed whole (tick_line v (tree c cs) kind at) (below_line v (tree c cs) kind at) a r' d
      line_next d r' goes rest = record {
        result =
            ap (λ (x : Result). on_kind kind x (tick_line v cs kind (at + size c)) (gives (stops kind))) first.result
            ∙ on_line kind (reply_of r) b.state (tick_line v cs kind (at + size c))
            ∙ ap (λ t. if t then tick_line v cs kind (at + size c) b.state else result_of (reply_of r) b.state) goes ∙ rest.result;
        told =
            rest.told
            ∙ sym (tells_is (λ x s. if goes_on kind x then below_line v cs kind (at + size c) s else []) (below_line v cs kind (at + size c) b.state)
            (ap (λ t. if t then below_line v cs kind (at + size c) b.state else []) goes));
        room = rest.room;
      }

      pub line_stops : goes_on kind (reply_of r) ≡ false → Observed whole (tick_line v (tree c cs) kind at) (below_line v (tree c cs) kind at) a r b
      line_stops stays = record {
        result =
            ap (λ (x : Result). on_kind kind x (tick_line v cs kind (at + size c)) (gives (stops kind))) first.result
            ∙ on_line kind (reply_of r) b.state (tick_line v cs kind (at + size c))
            ∙ ap (λ t. if t then tick_line v cs kind (at + size c) b.state else result_of (reply_of r) b.state) stays;
        told =
            sym (tells_is (λ x s. if goes_on kind x then below_line v cs kind (at + size c) s else []) []
            (ap (λ t. if t then below_line v cs kind (at + size c) b.state else []) stays));
        room = first.room;
      }

      -- ---- a seq* or a fallback*

      module _ (i node : ℕ) where
        abbrev go : State → Result
        go t = tick_star v cs kind 0 (i + 1) node (at + size c) (put node (i + 1) t)

        abbrev tells_star : Reply → State → List (ℕ × Status)
        tells_star x s = if goes_on kind x then below_star v cs kind 0 (i + 1) node (at + size c) (put node (i + 1) s) else []

        pub star_next : (d e : Seen) (r' : Option Status) → goes_on kind (reply_of r) ≡ true → d ≡ with_number node (i + 1) b
            → Observed whole (tick_star v cs kind 0 (i + 1) node (at + size c)) (below_star v cs kind 0 (i + 1) node (at + size c)) d r' e
            → Observed whole (tick_star v (tree c cs) kind 0 i node at) (below_star v (tree c cs) kind 0 i node at) a r' e
        star_next d e r' goes is rest = record {
          result =
              ap (λ (x : Result). on_kind kind x go (λ t. gives (stops kind) (put node 0 t))) first.result
              ∙ on_star kind (reply_of r) b.state go (put node 0)
              ∙ ap (λ t. if t then go b.state else (if stops_at kind (reply_of r) then result_of (reply_of r) (put node 0 b.state) else result_of (reply_of r) b.state)) goes
              ∙ ap (λ (x : Seen). tick_star v cs kind 0 (i + 1) node (at + size c) x.state) (sym is) ∙ rest.result;
          told =
              rest.told ∙ ap (λ (x : Seen). written (below_star v cs kind 0 (i + 1) node (at + size c) x.state) x.told) is
              ∙ sym (tells_is tells_star (below_star v cs kind 0 (i + 1) node (at + size c) (put node (i + 1) b.state))
              (ap (λ t. if t then below_star v cs kind 0 (i + 1) node (at + size c) (put node (i + 1) b.state) else []) goes));
          room = rest.room;
        }

        abbrev left_by : Bool → Result
        left_by t = if t then result_of (reply_of r) (put node 0 b.state) else result_of (reply_of r) b.state

        star_ends : goes_on kind (reply_of r) ≡ false → (stopped : Bool) → stops_at kind (reply_of r) ≡ stopped → tick_star v (tree c cs) kind 0 i node at a.state ≡ left_by stopped
        star_ends stays stopped stop =
            ap (λ (x : Result). on_kind kind x go (λ t. gives (stops kind) (put node 0 t))) first.result ∙ on_star kind (reply_of r) b.state go (put node 0)
            ∙ ap (λ t. if t then go b.state else left_by (stops_at kind (reply_of r))) stays ∙ ap left_by stop

        star_tells : goes_on kind (reply_of r) ≡ false → written (below_star v (tree c cs) kind 0 i node at a.state) a.told ≡ b.told
        star_tells stays =
            tells_is tells_star [] (ap (λ t. if t then below_star v cs kind 0 (i + 1) node (at + size c) (put node (i + 1) b.state) else []) stays)

        pub star_stops : (d : Seen) → goes_on kind (reply_of r) ≡ false → stops_at kind (reply_of r) ≡ true → d ≡ with_number node 0 b
            → Observed whole (tick_star v (tree c cs) kind 0 i node at) (below_star v (tree c cs) kind 0 i node at) a r d
        star_stops d stays stop is = record {
          result = star_ends stays true stop ∙ ap (λ (x : Seen). result_of (reply_of r) x.state) (sym is);
          told = ap (λ (x : Seen). x.told) is ∙ sym (star_tells stays);
          room = number_room b d node 0 first.room is;
        }

        pub star_rests : goes_on kind (reply_of r) ≡ false → stops_at kind (reply_of r) ≡ false
            → Observed whole (tick_star v (tree c cs) kind 0 i node at) (below_star v (tree c cs) kind 0 i node at) a r b
        star_rests stays stop = record { result = star_ends stays false stop; told = sym (star_tells stays); room = first.room }

    pub line_none : (kind : Kind) (at : ℕ) (a : Seen) → HasRoom whole a → Observed whole (tick_line v none kind at) (below_line v none kind at) a (Some (goes kind)) a
    line_none kind at a h = record { result = refl; told = refl; room = h }

    pub star_none : (kind : Kind) (k i node at : ℕ) (a b : Seen) → HasRoom whole a → b ≡ with_number node 0 a
        → Observed whole (tick_star v none kind k i node at) (below_star v none kind k i node at) a (Some (goes kind)) b
    star_none kind k i node at a b h is = record {
      result = ap (λ (x : Seen). result_of (Gives (goes kind)) x.state) (sym is);
      told = ap (λ (x : Seen). x.told) is;
      room = number_room a b node 0 h is;
    }

    -- ---- a par

    module _ (c : Plain) (cs : Forest) (at m n won lost : ℕ) (a b : Seen) where
      pub all_next : (st : Status) (d : Seen) (r' : Option Status) → Observed whole (tick v c at) (answered v c at) a (Some st) b
          → Observed whole (tick_all v cs m n (counted st won lost).0 (counted st won lost).1 (at + size c)) (below_all v cs (at + size c)) b r' d
          → Observed whole (tick_all v (tree c cs) m n won lost at) (below_all v (tree c cs) at) a r' d
      all_next st d r' first rest = record {
        result =
            ap (λ (x : Result). on x (tick_all v cs m n (won + 1) lost (at + size c)) (tick_all v cs m n won (lost + 1) (at + size c)) (tick_all v cs m n won lost (at + size c))) first.result
            ∙ on_counted st won lost (λ x y. tick_all v cs m n x y (at + size c)) b.state ∙ rest.result;
        told = rest.told ∙ sym (tells_is Seq c cs at a b (Some st) first (λ x s. if has_answered x then below_all v cs (at + size c) s else []) (below_all v cs (at + size c) b.state) refl);
        room = rest.room;
      }

      pub all_stands : Observed whole (tick v c at) (answered v c at) a None b → Observed whole (tick_all v (tree c cs) m n won lost at) (below_all v (tree c cs) at) a None b
      all_stands first = record {
        result = ap (λ (x : Result). on x (tick_all v cs m n (won + 1) lost (at + size c)) (tick_all v cs m n won (lost + 1) (at + size c)) (tick_all v cs m n won lost (at + size c))) first.result;
        told = sym (tells_is Seq c cs at a b None first (λ x s. if has_answered x then below_all v cs (at + size c) s else []) [] refl);
        room = first.room;
      }

    pub all_none : (m n won lost at : ℕ) (a : Seen) → HasRoom whole a → Observed whole (tick_all v none m n won lost at) (below_all v none at) a (Some (verdict m n won lost)) a
    all_none m n won lost at a h = record { result = refl; told = refl; room = h }

    -- ---- a node with one child

    pub of_not : (c : Plain) (n : ℕ) (a b : Seen) (r : Option Status) → Observed whole (tick v c (n + 1)) (answered v c (n + 1)) a r b
        → Observed whole (tick v (Not c) n) (below v (Not c) n) a (not_of r) b
    of_not c n a b r child = record {
      result = ap (λ (x : Result). on x (gives Failure) (gives Success) (gives Running)) child.result ∙ on_not r b.state;
      told = child.told;
      room = child.room;
    }

    -- a tries or a ticks, by the number that was read
    module _ (k : ℕ) (c : Plain) (n past : ℕ) (a : Seen) (e : past ≡ number_of n a.state) where
      abbrev tries_on : ℕ → Result → Result
      tries_on failed x = on x (gives Success) (λ t. gives Failure (put n (failed + 1) t)) (gives Running)

      abbrev ticks_on : ℕ → Result → Result
      ticks_on ticks x = on x (λ t. gives Success (put n 0 t)) (λ t. gives Failure (put n 0 t)) (λ t. gives Running (put n (ticks + 1) t))

      abbrev tells_if : Bool → List (Option Status)
      tells_if y = written (if y then answered v c (n + 1) a.state else []) a.told

      is_over : k ≤ past → nat_lt (number_of n a.state) k ≡ false
      is_over l = let t : nat_lt past k ≡ false = grind (arith, l) in ap (λ x. nat_lt x k) (sym e) ∙ t

      goes_in : past < k → nat_lt (number_of n a.state) k ≡ true
      goes_in l = let t : nat_lt past k ≡ true = grind (arith, l) in ap (λ x. nat_lt x k) (sym e) ∙ t

      pub gives_up : (by : Counter) (b : Seen) → k ≤ past → HasRoom whole a → b ≡ given_up by n a
          → Observed whole (tick v (counting by k c) n) (below v (counting by k c) n) a (Some Failure) b
      gives_up counts.Failures b l h is = record {
        result =
            ap (λ y. if y then tries_on (number_of n a.state) (tick v c (n + 1) a.state) else gives Failure a.state) (is_over l)
            ∙ ap (λ (x : Seen). result_of (Gives Failure) x.state) (sym is);
        told = ap (λ (x : Seen). x.told) is ∙ sym (ap tells_if (is_over l));
        room = subst (HasRoom whole) (sym is) h;
      }
      gives_up counts.Ticks b l h is = record {
        result =
            ap (λ y. if y then ticks_on (number_of n a.state) (tick v c (n + 1) a.state) else gives Failure (put n 0 a.state)) (is_over l)
            ∙ ap (λ (x : Seen). result_of (Gives Failure) x.state) (sym is);
        told = ap (λ (x : Seen). x.told) is ∙ sym (ap tells_if (is_over l));
        room = number_room a b n 0 h is;
      }

      pub counts_child : (by : Counter) (b d : Seen) (r : Option Status) → past < k → Observed whole (tick v c (n + 1)) (answered v c (n + 1)) a r b
          → d ≡ with_count by n past r b → Observed whole (tick v (counting by k c) n) (below v (counting by k c) n) a r d
      counts_child counts.Failures b d r l child is = record {
        result =
            ap (λ y. if y then tries_on (number_of n a.state) (tick v c (n + 1) a.state) else gives Failure a.state) (goes_in l)
            ∙ ap (tries_on (number_of n a.state)) child.result ∙ ap (λ p. tries_on p (result_of (reply_of r) b.state)) (sym e)
            ∙ on_tries r n past b.state ∙ ap (λ (x : Seen). result_of (reply_of r) x.state) (sym is);
        told = ap (λ (x : Seen). x.told) is ∙ child.told ∙ sym (ap tells_if (goes_in l));
        room = subst (HasRoom whole) (sym is) (record { numbers = length-tried r n past b.state ∙ child.room.numbers; told = child.room.told });
      }
      counts_child counts.Ticks b d r l child is = record {
        result =
            ap (λ y. if y then ticks_on (number_of n a.state) (tick v c (n + 1) a.state) else gives Failure (put n 0 a.state)) (goes_in l)
            ∙ ap (ticks_on (number_of n a.state)) child.result ∙ ap (λ p. ticks_on p (result_of (reply_of r) b.state)) (sym e)
            ∙ on_ticks r n past b.state ∙ ap (λ (x : Seen). result_of (reply_of r) x.state) (sym is);
        told = ap (λ (x : Seen). x.told) is ∙ child.told ∙ sym (ap tells_if (goes_in l));
        room = subst (HasRoom whole) (sym is) (record { numbers = length-ticked_on r n past b.state ∙ child.room.numbers; told = child.room.told });
      }

    -- ---- nodes with no child

    waits_if : (k n past : ℕ) (s : State) (y : Bool) → past ≡ number_of n s → nat_lt past k ≡ y
        → tick v (Wait k) n s ≡ (if y then gives Running (put n (number_of n s + 1) s) else gives Success (put n 0 s))
    waits_if k n past s y e t =
        ap (λ z. if z then gives Running (put n (number_of n s + 1) s) else gives Success (put n 0 s)) (ap (λ x. nat_lt x k) (sym e) ∙ t)

    pub wait_runs : (k n past : ℕ) (a b : Seen) → past ≡ number_of n a.state → past < k → HasRoom whole a → b ≡ with_number n (past + 1) a
        → Observed whole (tick v (Wait k) n) (λ s. []) a (Some Running) b
    wait_runs k n past a b e l h is =
        let t : nat_lt past k ≡ true = grind (arith, l) in
        record {
          result =
              waits_if k n past a.state true e t ∙ ap (λ x. gives Running (put n (x + 1) a.state)) (sym e)
              ∙ ap (λ (x : Seen). result_of (Gives Running) x.state) (sym is);
          told = ap (λ (x : Seen). x.told) is;
          room = number_room a b n (past + 1) h is;
        }

    pub wait_over : (k n past : ℕ) (a b : Seen) → past ≡ number_of n a.state → k ≤ past → HasRoom whole a → b ≡ with_number n 0 a
        → Observed whole (tick v (Wait k) n) (λ s. []) a (Some Success) b
    wait_over k n past a b e l h is =
        let t : nat_lt past k ≡ false = grind (arith, l) in
        record {
          result = waits_if k n past a.state false e t ∙ ap (λ (x : Seen). result_of (Gives Success) x.state) (sym is);
          told = ap (λ (x : Seen). x.told) is;
          room = number_room a b n 0 h is;
        }

    -- a leaf, by its status and what it wants
    pub acted : (p : Plain) (n : ℕ) (st : Status) (i : Intent) (a b : Seen) → ((n : ℕ) (s : State) → tick v p n s ≡ gives st (wanting st i s)) → HasRoom whole a
        → b ≡ record a { state = wanting st i a.state } → Observed whole (tick v p n) (λ s. []) a (Some st) b
    acted p n st i a b e h is = record {
      result = e n a.state ∙ ap (λ (x : Seen). result_of (Gives st) x.state) (sym is);
      told = ap (λ (x : Seen). x.told) is;
      room = subst (HasRoom whole) (sym is) (record { numbers = ap length (wanting_memory st i a.state) ∙ h.numbers; told = h.told });
    }

-- only a status of Running wants
pub unwanted : (st : Status) (i : Intent) (a : Seen) → (st ≡ Running → ⊥) → a ≡ record a { state = wanting st i a.state }
unwanted Success i a h = refl
unwanted Failure i a h = refl
unwanted Running i a h = absurd (h refl)

-- the next question's answer
module _ (whole : Plain) (v : View) (place n : ℕ) (a : Seen) (h : HasRoom whole a) where
  pub asked_none : (b : Seen) → a.state.left ≡ [] → b ≡ record a { state = record a.state { asked = a.state.asked ++ place ∷ [] } } → Observed whole (tick v (Move place) n) (λ s. []) a None b
  asked_none b empty is = record {
    result = ap (λ l. ask place l a.state) empty ∙ ap (λ (x : Seen). result_of Stands x.state) (sym is);
    told = ap (λ (x : Seen). x.told) is;
    room = subst (HasRoom whole) (sym is) (record { numbers = h.numbers; told = h.told });
  }

  abbrev answered_by : List Answer → Seen
  answered_by more = record a { state = record a.state { asked = a.state.asked ++ place ∷ []; left = more } }

  -- the answer that is taken, what it gives, and what is wanted then
  asked_answer : (b : Seen) (more : List Answer) (x : Answer) (st : Status) (after : State) → a.state.left ≡ x ∷ more → follow x (answered_by more).state ≡ gives st after
      → b ≡ record a { state = after } → length after.memory ≡ length a.state.memory → Observed whole (tick v (Move place) n) (λ s. []) a (Some st) b
  asked_answer b more x st after left follows is same = record {
    result = ap (λ l. ask place l a.state) left ∙ follows ∙ ap (λ (y : Seen). result_of (Gives st) y.state) (sym is);
    told = ap (λ (y : Seen). y.told) is;
    room = subst (HasRoom whole) (sym is) (record { numbers = same ∙ h.numbers; told = h.told });
  }

  pub asked_here : (b : Seen) (more : List Answer) → a.state.left ≡ Here ∷ more → b ≡ answered_by more → Observed whole (tick v (Move place) n) (λ s. []) a (Some Success) b
  asked_here b more left is = asked_answer b more Here Success (answered_by more).state left refl is refl

  pub asked_no_way : (b : Seen) (more : List Answer) → a.state.left ≡ NoWay ∷ more → b ≡ answered_by more → Observed whole (tick v (Move place) n) (λ s. []) a (Some Failure) b
  asked_no_way b more left is = asked_answer b more NoWay Failure (answered_by more).state left refl is refl

  pub asked_step : (b : Seen) (more : List Answer) (d : Dir) (k : ℕ) → a.state.left ≡ Step d k ∷ more → b ≡ with_want (intent.Move d) (answered_by more)
      → Observed whole (tick v (Move place) n) (λ s. []) a (Some Running) b
  asked_step b more d k left is = asked_answer b more (Step d k) Running (with_want (intent.Move d) (answered_by more)).state left refl is refl

-- a node that is a leaf has none below it
pub as_leaf : (whole : Plain) (v : View) (p : Plain) (n : ℕ) (a b : Seen) (r : Option Status) → is_leaf p ≡ true → Observed whole (tick v p n) (λ s. []) a r b
    → Observed whole (tick v p n) (below v p n) a r b
as_leaf whole v (Does leaf) n a b r is o = record { result = o.result; told = o.told; room = o.room }
as_leaf whole v _ n a b r is o = absurd (cc)
