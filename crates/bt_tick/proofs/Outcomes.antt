-- The outcome of what is left is that of the tick.
use Rattle.std.proofs.Common.{◌≡◌, ℕ, List, [], ◌∷◌, ◌++◌, refl, sym, ap, ◌∙◌}
use Rattle.std.specs.Prelude.{Some}
use Rattle.grid_world.specs.declared.cell.Answer.{Answer}
use Rattle.game_rules.specs.View.{View}
use Rattle.game_rules.specs.Tick.{State, Result, Stands, follow}
use Rattle.game_rules.specs.Thought.{last_of, first_want}
use Rattle.bt_tick.specs.Suspended.{unwind, after}
use Rattle.bt_tick.specs.Machine.{opens}
use Rattle.bt_tick.specs.Outcome.{fresh, means, ComesTo, IsOutcome}
use Rattle.bt_tick.specs.declared.tick.Pending.{Pending}
use Rattle.bt_tick.specs.declared.tick.Outcome.{Outcome}
use Rattle.bt_tick.specs.declared.tick.Outcome.TheVariants.{Ended, Asks}
use Rattle.bt_tick.proofs.Asked.{follow_carries, unwind_carries, unwind_stands}

last-append : (places : List ℕ) (p : ℕ) → last_of (places ++ p ∷ []) ≡ Some p
last-append [] p = refl
last-append (q ∷ []) p = refl
last-append (q ∷ r ∷ places) p = last-append (r ∷ places) p

pub outcome_of : {T A : Type 0} (v : View) (places : List ℕ) (o : Outcome T A) (run : List Answer → Result) → ComesTo v places o run → IsOutcome o (run [])
outcome_of v places (Ended st memory intent) run (wants, is, h) =
    (ap (λ r. r.reply) (h []), sym (ap (λ r. r.state.memory) (h [])), is ∙ sym (ap (λ r. first_want r.state.wants) (h [])))
outcome_of v places (Asks place p) run (is, h) =
    let s : State = record { memory = p.machine.memory; wants = p.machine.wants.items; asked = p.place ∷ []; left = [] } in
    let r : run [] ≡ after places (record { reply = Stands; state = s }) = h [] ∙ ap (after places) (unwind_stands v (opens p.machine.stack) s) in
    (ap (λ x. x.reply) r, ap (λ x. last_of x.state.asked) r ∙ last-append places p.place ∙ ap Some (sym is))

-- what is left of a pending tick whose question has this answer: the place that it asked stands in front
pub resumed : {T A : Type 0} (v : View) (p : Pending T A) (x : Answer) (more : List Answer)
    → means v p (x ∷ more) ≡ after (p.place ∷ []) (unwind v (opens p.machine.stack) (follow x (fresh p.machine.memory p.machine.wants.items more)))
resumed v p x more =
    let s : State = fresh p.machine.memory p.machine.wants.items more in
    let fs = opens p.machine.stack in
    ap (unwind v fs) (follow_carries (p.place ∷ []) x s) ∙ unwind_carries (p.place ∷ []) v fs (follow x s)

-- so what comes of the rest comes of the whole
pub comes_after : {T A : Type 0} (v : View) (places : List ℕ) (o : Outcome T A) (rest whole : List Answer → Result) → ComesTo v [] o rest → ((more : List Answer) → whole more ≡ after places (rest more)) → ComesTo v places o whole
comes_after v places (Ended st memory intent) rest whole (wants, is, h) e = (wants, is, λ more. e more ∙ ap (after places) (h more))
comes_after v places (Asks place p) rest whole (is, h) e = (is, λ more. e more ∙ ap (after places) (h more))
