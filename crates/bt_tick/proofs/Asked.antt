-- The places that were asked before make no difference, but stand in front of those that are asked.
use Rattle.std.proofs.Common.{◌≡◌, ℕ, zero, suc, ◌+◌, List, [], ◌∷◌, ◌++◌, refl, ap, ◌∙◌, append_assoc, Bool, true, false, nat_lt}
use Rattle.std.specs.Prelude.{if◌then◌else◌}
use Rattle.grid_world.specs.declared.cell.Answer.{Answer}
use Rattle.grid_world.specs.declared.cell.Answer.TheVariants.{Here, NoWay, Step}
use Rattle.bt_nodes.specs.declared.node.Status.{Status}
use Rattle.bt_nodes.specs.declared.node.Status.TheVariants.{Success, Failure, Running}
use Rattle.bt_nodes.specs.Plain.{Kind, Seq, Fallback, Plain, Composite, Star, Par, Not, Tries, Ticks, Wait, Move, Does, Forest, none, tree}
use Rattle.bt_nodes.specs.Sizes.{size, count}
use Rattle.game_rules.specs.declared.leaf_result.LeafResult.{LeafResult}
use Rattle.game_rules.specs.declared.leaf_result.LeafResult.TheVariants.{Says, Wants}
use Rattle.game_rules.specs.View.{View}
use Rattle.game_rules.specs.Tick.{Reply, Gives, Stands, State, Result, gives, on, on_reply, number_of, put, follow, ask, meaning, act, stops, on_kind, tick, tick_line, tick_star, tick_all}
use Rattle.bt_tick.specs.Children.{from_child, child_number}
use Rattle.bt_tick.specs.Suspended.{Open, go_on, close_at, close, unwind, before, after}

module _ (ps : List ℕ) where
  -- the places asked before make no difference to f
  abbrev pub Prefixes : (State → Result) → Type 0
  Prefixes f = (s : State) → f (before ps s) ≡ after ps (f s)

  on_carries : (r : Result) (f g h : State → Result) → Prefixes f → Prefixes g → Prefixes h → on (after ps r) f g h ≡ after ps (on r f g h)
  on_carries r f g h cf cg ch = cases r.reply r.state
    where
      cases : (a : Reply) (s : State) → on_reply a (before ps s) f g h ≡ after ps (on_reply a s f g h)
      cases (Gives Success) s = cf s
      cases (Gives Failure) s = cg s
      cases (Gives Running) s = ch s
      cases Stands s = refl

  gives_carries : (st : Status) → Prefixes (gives st)
  gives_carries st s = refl

  pub follow_carries : (x : Answer) → Prefixes (follow x)
  follow_carries Here s = refl
  follow_carries NoWay s = refl
  follow_carries (Step d n) s = refl

  ask_carries : (p : ℕ) (xs : List Answer) (s : State) → ask p xs (before ps s) ≡ after ps (ask p xs s)
  ask_carries p [] s = ap (λ l. record { reply = Stands; state = record s { asked = l } }) (append_assoc ps s.asked (p ∷ []))
  ask_carries p (x ∷ more) s = ap (λ l. follow x (record s { asked = l; left = more })) (append_assoc ps s.asked (p ∷ [])) ∙ follow_carries x (record s { asked = s.asked ++ p ∷ []; left = more })

  if_carries : (b : Bool) (f g : State → Result) (s : State) → f (before ps s) ≡ after ps (f s) → g (before ps s) ≡ after ps (g s) → (if b then f (before ps s) else g (before ps s)) ≡ after ps (if b then f s else g s)
  if_carries true f g s e h = e
  if_carries false f g s e h = h

  kind_carries : (kind : Kind) (r : Result) (f g : State → Result) → Prefixes f → Prefixes g → on_kind kind (after ps r) f g ≡ after ps (on_kind kind r f g)
  kind_carries Seq r f g cf cg = on_carries r f g (gives Running) cf cg (gives_carries Running)
  kind_carries Fallback r f g cf cg = on_carries r g f (gives Running) cg cf (gives_carries Running)

  act_carries : (d : LeafResult) → Prefixes (act d)
  act_carries (Says b) s = if_carries b (gives Success) (gives Failure) s refl refl
  act_carries (Wants i) s = refl

  module _ (v : View) where
    mutual
      pub tick_carries : (c : Plain) (n : ℕ) → Prefixes (tick v c n)
      tick_carries (Composite kind cs) n s = line_carries cs kind (n + 1) s
      tick_carries (Star kind cs) n s = star_carries cs kind (number_of n s) 0 n (n + 1) s
      tick_carries (Par m cs) n s = all_carries cs m (count cs) 0 0 (n + 1) s
      tick_carries (Not c) n s =
          ap (λ r. on r (gives Failure) (gives Success) (gives Running)) (tick_carries c (n + 1) s)
          ∙ on_carries (tick v c (n + 1) s) _ _ _ (gives_carries Failure) (gives_carries Success) (gives_carries Running)
      tick_carries (Tries k c) n s =
          let lost : State → Result = λ t. gives Failure (put n (number_of n s + 1) t) in
          if_carries (nat_lt (number_of n s) k) (λ t. on (tick v c (n + 1) t) (gives Success) lost (gives Running)) (gives Failure) s
          (ap (λ r. on r (gives Success) lost (gives Running)) (tick_carries c (n + 1) s)
          ∙ on_carries (tick v c (n + 1) s) (gives Success) lost (gives Running) (gives_carries Success) (λ t. refl) (gives_carries Running)) refl
      tick_carries (Ticks k c) n s =
          let won : State → Result = λ t. gives Success (put n 0 t) in
          let lost : State → Result = λ t. gives Failure (put n 0 t) in
          let busy : State → Result = λ t. gives Running (put n (number_of n s + 1) t) in
          if_carries (nat_lt (number_of n s) k) (λ t. on (tick v c (n + 1) t) won lost busy) (λ t. gives Failure (put n 0 t)) s
          (ap (λ r. on r won lost busy) (tick_carries c (n + 1) s)
          ∙ on_carries (tick v c (n + 1) s) won lost busy (λ t. refl) (λ t. refl) (λ t. refl)) refl
      tick_carries (Wait k) n s = if_carries (nat_lt (number_of n s) k) (λ t. gives Running (put n (number_of n t + 1) t)) (λ t. gives Success (put n 0 t)) s refl refl
      tick_carries (Move p) n s = ask_carries p s.left s
      tick_carries (Does leaf) n s = act_carries (meaning leaf v) s

      line_carries : (cs : Forest) (kind : Kind) (at : ℕ) → Prefixes (tick_line v cs kind at)
      line_carries none kind at s = refl
      line_carries (tree c cs) kind at s =
          ap (λ r. on_kind kind r (tick_line v cs kind (at + size c)) (gives (stops kind))) (tick_carries c at s)
          ∙ kind_carries kind (tick v c at s) _ _ (line_carries cs kind (at + size c)) (gives_carries (stops kind))

      star_carries : (cs : Forest) (kind : Kind) (k i own at : ℕ) → Prefixes (tick_star v cs kind k i own at)
      star_carries none kind k i own at s = refl
      star_carries (tree c cs) kind zero i own at s =
          let go : State → Result = λ t. tick_star v cs kind 0 (i + 1) own (at + size c) (put own (i + 1) t) in
          let stop : State → Result = λ t. gives (stops kind) (put own 0 t) in
          ap (λ r. on_kind kind r go stop) (tick_carries c at s)
          ∙ kind_carries kind (tick v c at s) go stop (λ t. star_carries cs kind 0 (i + 1) own (at + size c) (put own (i + 1) t)) (λ t. refl)
      star_carries (tree c cs) kind (suc k) i own at s = star_carries cs kind k (i + 1) own (at + size c) s

      all_carries : (cs : Forest) (m n won lost at : ℕ) → Prefixes (tick_all v cs m n won lost at)
      all_carries none m n won lost at s = refl
      all_carries (tree c cs) m n won lost at s =
          ap (λ r. on r (tick_all v cs m n (won + 1) lost (at + size c)) (tick_all v cs m n won (lost + 1) (at + size c)) (tick_all v cs m n won lost (at + size c))) (tick_carries c at s)
          ∙ on_carries (tick v c at s) _ _ _ (all_carries cs m n (won + 1) lost (at + size c)) (all_carries cs m n won (lost + 1) (at + size c)) (all_carries cs m n won lost (at + size c))

    go_on_carries : (p : Plain) (n k won lost : ℕ) → Prefixes (go_on v p n k won lost)
    go_on_carries (Composite kind cs) n k won lost s = line_carries (from_child k cs) kind (child_number k cs (n + 1)) s
    go_on_carries (Star kind cs) n k won lost s = star_carries (from_child k cs) kind 0 k n (child_number k cs (n + 1)) s
    go_on_carries (Par m cs) n k won lost s = all_carries (from_child k cs) m (count cs) won lost (child_number k cs (n + 1)) s
    go_on_carries _ n k won lost s = refl

    close_carries : (p : Plain) (n k won lost : ℕ) (r : Result) → close_at v p n k won lost (after ps r) ≡ after ps (close_at v p n k won lost r)
    close_carries (Composite kind cs) n k won lost r = kind_carries kind r _ _ (go_on_carries (Composite kind cs) n k won lost) (gives_carries (stops kind))
    close_carries (Star kind cs) n k won lost r =
        kind_carries kind r (λ s. go_on v (Star kind cs) n k won lost (put n k s)) (λ s. gives (stops kind) (put n 0 s))
        (λ t. go_on_carries (Star kind cs) n k won lost (put n k t)) (λ t. refl)
    close_carries (Par m cs) n k won lost r =
        on_carries r _ _ _ (go_on_carries (Par m cs) n k (won + 1) lost) (go_on_carries (Par m cs) n k won (lost + 1)) (go_on_carries (Par m cs) n k won lost)
    close_carries (Not c) n k won lost r = on_carries r _ _ _ (gives_carries Failure) (gives_carries Success) (gives_carries Running)
    close_carries (Tries m c) n k won lost r =
        on_carries r (gives Success) (λ s. gives Failure (put n (lost + 1) s)) (gives Running) (gives_carries Success) (λ t. refl) (gives_carries Running)
    close_carries (Ticks m c) n k won lost r =
        on_carries r (λ s. gives Success (put n 0 s)) (λ s. gives Failure (put n 0 s)) (λ s. gives Running (put n (lost + 1) s)) (λ t. refl) (λ t. refl) (λ t. refl)
    close_carries _ n k won lost r = refl

    pub unwind_carries : (fs : List Open) (r : Result) → unwind v fs (after ps r) ≡ after ps (unwind v fs r)
    unwind_carries [] r = refl
    unwind_carries (f ∷ fs) r = ap (unwind v fs) (close_carries f.node f.number f.next f.won f.lost r) ∙ unwind_carries fs (close v f r)

-- what stands goes on standing
close_stands : (v : View) (p : Plain) (n k won lost : ℕ) (s : State) → close_at v p n k won lost (record { reply = Stands; state = s }) ≡ record { reply = Stands; state = s }
close_stands v (Composite Seq cs) n k won lost s = refl
close_stands v (Composite Fallback cs) n k won lost s = refl
close_stands v (Star Seq cs) n k won lost s = refl
close_stands v (Star Fallback cs) n k won lost s = refl
close_stands v _ n k won lost s = refl

pub unwind_stands : (v : View) (fs : List Open) (s : State) → unwind v fs (record { reply = Stands; state = s }) ≡ record { reply = Stands; state = s }
unwind_stands v [] s = refl
unwind_stands v (f ∷ fs) s = ap (unwind v fs) (close_stands v f.node f.number f.next f.won f.lost s) ∙ unwind_stands v fs s
