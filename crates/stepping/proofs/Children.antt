-- What the children that are left come to, by the first of them.
use Rattle.std.proofs.Common.{◌≡◌, ℕ, ◌+◌, ◌-◌, ◌<◌, ◌≤◌, suc, true, false, sym, subst, arith}
use Rattle.std.specs.Prelude.{Option, Some, None}
use Rattle.bt_nodes.specs.declared.node.Status.{Status}
use Rattle.bt_nodes.specs.declared.node.Status.TheVariants.{Success, Failure, Running}
use Rattle.bt_nodes.specs.Plain.{Kind, Plain, Forest, tree}
use Rattle.bt_nodes.specs.Sizes.{size}
use Rattle.game_rules.specs.View.{View}
use Rattle.game_rules.specs.Tick.{tick, tick_line, tick_star, tick_all}
use Rattle.stepping.specs.Answered.{goes_on, below_line, below_star, below_all, answered}
use Rattle.stepping.specs.Observing.{Seen, reply_of, stops_at, counted, with_number, Observed, IsFirst}
use Rattle.stepping.proofs.Parts

pub counted_few : (st : Status) (won lost : ℕ) → (counted st won lost).0 + (counted st won lost).1 ≤ won + lost + 1
counted_few Success won lost = omega arith
counted_few Failure won lost = omega arith
counted_few Running won lost = omega arith

module _ (whole : Plain) (v : View) where
  -- of a seq or a fallback
  abbrev pub IsLine : Kind → Forest → ℕ → Seen → Option Status → Seen → Type 0
  IsLine kind cs at a r b = Observed whole (tick_line v cs kind at) (below_line v cs kind at) a r b

  -- of a seq* or a fallback*
  abbrev pub IsStar : Kind → (k i own : ℕ) → Forest → ℕ → Seen → Option Status → Seen → Type 0
  IsStar kind k i own cs at a r b = Observed whole (tick_star v cs kind k i own at) (below_star v cs kind k i own at) a r b

  -- of a par
  abbrev pub IsAll : (m n won lost : ℕ) → Forest → ℕ → Seen → Option Status → Seen → Type 0
  IsAll m n won lost cs at a r b = Observed whole (tick_all v cs m n won lost at) (below_all v cs at) a r b

  module _ {all cs : Forest} {c : Plain} {at next : ℕ} (f : IsFirst whole all at c cs next) where
    -- the children that are passed over
    pub star_passes : (kind : Kind) (k i own : ℕ) (a b : Seen) (r : Option Status) → 0 < k → IsStar kind (k - 1) (i + 1) own cs next a r b → IsStar kind k i own all at a r b
    star_passes kind k i own a b r some rest =
        let o : IsStar kind (k - 1) (i + 1) own cs (at + size c) a r b = subst (λ (x : ℕ). IsStar kind (k - 1) (i + 1) own cs x a r b) f.behind rest in
        let more : k ≡ suc (k - 1) = omega (arith, some) in
        subst (λ (x : Forest). IsStar kind k i own x at a r b) (sym f.is)
        (subst (λ (x : ℕ). IsStar kind x i own (tree c cs) at a r b) (sym more) (record { result = o.result; told = o.told; room = o.room }))

    module _ {a b : Seen} {r : Option Status} (first : Observed whole (tick v c at) (answered v c at) a r b) where
      module _ (kind : Kind) where
        pub line_goes_on : (d : Seen) (r' : Option Status) → goes_on kind (reply_of r) ≡ true → IsLine kind cs next b r' d → IsLine kind all at a r' d
        line_goes_on d r' goes rest =
            subst (λ (x : Forest). IsLine kind x at a r' d) (sym f.is)
            (Rattle.stepping.proofs.Parts.line_next whole v kind c cs at a b r first d r' goes (subst (λ (x : ℕ). IsLine kind cs x b r' d) f.behind rest))

        pub line_ends : goes_on kind (reply_of r) ≡ false → IsLine kind all at a r b
        line_ends stays = subst (λ (x : Forest). IsLine kind x at a r b) (sym f.is) (Rattle.stepping.proofs.Parts.line_stops whole v kind c cs at a b r first stays)

        module _ (k i own : ℕ) (none_passed : k ≡ 0) where
          star_all : (r' : Option Status) (d : Seen) → IsStar kind 0 i own (tree c cs) at a r' d → IsStar kind k i own all at a r' d
          star_all r' d o = subst (λ (x : Forest). IsStar kind k i own x at a r' d) (sym f.is) (subst (λ (x : ℕ). IsStar kind x i own (tree c cs) at a r' d) (sym none_passed) o)

          pub star_goes_on : (d e : Seen) (r' : Option Status) → goes_on kind (reply_of r) ≡ true → d ≡ with_number own (i + 1) b
              → IsStar kind 0 (i + 1) own cs next d r' e → IsStar kind k i own all at a r' e
          star_goes_on d e r' goes is rest =
              star_all r' e (Rattle.stepping.proofs.Parts.star_next whole v kind c cs at a b r first i own d e r' goes is (subst (λ (x : ℕ). IsStar kind 0 (i + 1) own cs x d r' e) f.behind rest))

          pub star_ends : (d : Seen) → goes_on kind (reply_of r) ≡ false → stops_at kind (reply_of r) ≡ true → d ≡ with_number own 0 b → IsStar kind k i own all at a r d
          star_ends d stays stop is = star_all r d (Rattle.stepping.proofs.Parts.star_stops whole v kind c cs at a b r first i own d stays stop is)

          pub star_waits : goes_on kind (reply_of r) ≡ false → stops_at kind (reply_of r) ≡ false → IsStar kind k i own all at a r b
          star_waits stays stop = star_all r b (Rattle.stepping.proofs.Parts.star_rests whole v kind c cs at a b r first i own stays stop)

      module _ (m n won lost : ℕ) where
        pub all_goes_on : (st : Status) (now : ℕ × ℕ) (d : Seen) (r' : Option Status) → r ≡ Some st → now ≡ counted st won lost
            → IsAll m n now.0 now.1 cs next b r' d → IsAll m n won lost all at a r' d
        all_goes_on st now d r' replies counts rest =
            subst (λ (x : Forest). IsAll m n won lost x at a r' d) (sym f.is)
            (Rattle.stepping.proofs.Parts.all_next whole v c cs at m n won lost a b st d r'
            (subst (λ (x : Option Status). Observed whole (tick v c at) (answered v c at) a x b) replies first)
            (subst (λ (x : ℕ × ℕ). IsAll m n x.0 x.1 cs (at + size c) b r' d) counts (subst (λ (x : ℕ). IsAll m n now.0 now.1 cs x b r' d) f.behind rest)))

        pub all_waits : r ≡ None → IsAll m n won lost all at a None b
        all_waits stood =
            subst (λ (x : Forest). IsAll m n won lost x at a None b) (sym f.is)
            (Rattle.stepping.proofs.Parts.all_stands whole v c cs at m n won lost a b (subst (λ (x : Option Status). Observed whole (tick v c at) (answered v c at) a x b) stood first))
