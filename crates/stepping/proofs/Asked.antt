-- The answers to all questions of a tick.
use Rattle.std.proofs.Common.{◌≡◌, ◌<◌, ℕ, suc, ◌+◌, List, ◌∷◌, ◌++◌, [], refl, sym, ap, ◌∙◌, arith}
use Rattle.std.specs.declared.alloc.Global.{Global}
use Rattle.std.proofs.lemmas.Bool.{both_ways}
use Rattle.grid_world.specs.declared.cell.Answer.{Answer}
use Rattle.grid_world.specs.declared.cell.Intent.{Intent}
use Rattle.grid_world.specs.Way.{way}
use Rattle.bt_nodes.specs.declared.node.Status.{Status}
use Rattle.bt_nodes.specs.Plain.{Plain}
use Rattle.bt_nodes.specs.Sizes.{size}
use Rattle.game_rules.specs.View.{View, cell_of}
use Rattle.game_rules.specs.Tick.{Gives, Stands}
use Rattle.game_rules.specs.Thought.{ticked, way_to_last, next_answer, add_if, ways, all_ways, questions}
use Rattle.game_rules.proofs.Ways.{stands, ends, few, all_there}
use Rattle.bt_tick.specs.Thinking.{Thinking}
use Rattle.bt_tick.specs.declared.tick.Outcome.{Outcome}
use Rattle.bt_tick.specs.declared.tick.Outcome.TheVariants.{Ended, Asks}
use Rattle.bt_tick.specs.declared.tick.Pending.{Pending}
use Rattle.bt_tick.proofs.CutTicks.{asks_now, ended_asks}

module _ (v : View) (p : Plain) (m : List ℕ) where
  -- a tick has no more questions than its tree has nodes
  pub no_more : (i : ℕ) (o : Outcome Global Global) → Thinking v p m i o → size p < i → ⊥
  no_more i o t h =
      let n : questions v p m < i = let most = few v p m in omega (arith, h, most) in
      let s : (ticked v p m (ways v p m (questions v p m))).reply ≡ Stands = t.stood (questions v p m) n in
      let last : Gives (ends v p m).0 ≡ Stands = sym (ends v p m).1 ∙ ap (λ l. (ticked v p m l).reply) (sym (all_there v p m)) ∙ s in
      both_ways (stands (Gives (ends v p m).0)) refl (ap stands last)

  pub one_more : (i : ℕ) (place : ℕ) (q : Pending Global Global) (x : Answer) (answers : List Answer) → Thinking v p m i (Asks place q) → x ≡ way v.world v.signals (cell_of v) place
      → answers ≡ ways v p m i → answers ++ x ∷ [] ≡ ways v p m (i + 1)
  one_more i place q x answers t is so_far =
      let now = asks_now v p m i place q t in
      let n : i + 1 ≡ suc i = omega arith in
      ap (λ l. l ++ x ∷ []) so_far
      ∙ sym (ap (ways v p m) n ∙ ap (λ r. add_if r (ways v p m i) (next_answer v p m (ways v p m i))) now.0
      ∙ ap (λ y. ways v p m i ++ y ∷ []) (ap (way_to_last v) now.1 ∙ sym is))

  pub all_answered : (i : ℕ) (st : Status) (memory : List ℕ) (intent : Intent) (answers : List Answer) → Thinking {T = Global} {A = Global} v p m i (Ended st memory intent)
      → answers ≡ ways v p m i → answers ≡ all_ways v p m
  all_answered i st memory intent answers t so_far = so_far ∙ ap (ways v p m) (ended_asks v p m i st memory intent t) ∙ all_there v p m
