-- An observed node by its variant: its children, and what they come to.
use Rattle.std.proofs.Common.{◌≡◌, ◌∙◌, ℕ, ◌+◌, Vec, Box, List, ap, sym, subst}
use Rattle.std.specs.Prelude.{Option}
use Rattle.bt_nodes.specs.declared.node.Status.{Status}
use Rattle.bt_nodes.specs.declared.node.Node.{Node}
use Rattle.bt_nodes.specs.declared.node.Node as node
use Rattle.bt_nodes.specs.Plain.{Kind, Seq, Fallback, Plain, Composite, Star, Par, Not, Tries, Ticks, Forest, plain, plains}
use Rattle.bt_nodes.specs.Sizes.{count}
use Rattle.bt_nodes.proofs.Views.{plain-Seq, plain-Fallback, plain-SeqStar, plain-FallbackStar, plain-Par, plain-Not, plain-Tries, plain-Ticks}
use Rattle.game_rules.specs.View.{View}
use Rattle.game_rules.specs.Tick.{number_of, tick, tick_line, tick_star, tick_all}
use Rattle.stepping.specs.Answered.{written, below, below_line, below_star, below_all}
use Rattle.stepping.specs.Observing.{Seen, Observed}

-- ---- a node whose variant is known, with its children as they are handed on

module _ {A : Type 0} (x : Node A) where
  module _ (v : Vec (Node A) A) (cs : List (Node A)) (same : cs ≡ v.items) where
    pub seq_is : x ≡ node.Seq v → plain x ≡ Composite Seq (plains cs)
    seq_is e = ap plain e ∙ plain-Seq v ∙ ap (λ l. Composite Seq (plains l)) (sym same)

    pub fallback_is : x ≡ node.Fallback v → plain x ≡ Composite Fallback (plains cs)
    fallback_is e = ap plain e ∙ plain-Fallback v ∙ ap (λ l. Composite Fallback (plains l)) (sym same)

    pub seq_star_is : x ≡ node.SeqStar v → plain x ≡ Star Seq (plains cs)
    seq_star_is e = ap plain e ∙ plain-SeqStar v ∙ ap (λ l. Star Seq (plains l)) (sym same)

    pub fallback_star_is : x ≡ node.FallbackStar v → plain x ≡ Star Fallback (plains cs)
    fallback_star_is e = ap plain e ∙ plain-FallbackStar v ∙ ap (λ l. Star Fallback (plains l)) (sym same)

    pub par_is : (m : ℕ) → x ≡ node.Par m v → plain x ≡ Par m (plains cs)
    par_is m e = ap plain e ∙ plain-Par m v ∙ ap (λ l. Par m (plains l)) (sym same)

  module _ (b : Box (Node A) A) (c : Node A) (same : c ≡ b.value) where
    pub not_is : x ≡ node.Not b → plain x ≡ Not (plain c)
    not_is e = ap plain e ∙ plain-Not b ∙ ap (λ y. Not (plain y)) (sym same)

    pub tries_is : (k : ℕ) → x ≡ node.Tries k b → plain x ≡ Tries k (plain c)
    tries_is k e = ap plain e ∙ plain-Tries k b ∙ ap (λ y. Tries k (plain y)) (sym same)

    pub ticks_is : (k : ℕ) → x ≡ node.Ticks k b → plain x ≡ Ticks k (plain c)
    ticks_is k e = ap plain e ∙ plain-Ticks k b ∙ ap (λ y. Ticks k (plain y)) (sym same)

-- ---- a node comes to what its children come to

module _ (whole : Plain) (v : View) (p : Plain) (n : ℕ) (a b : Seen) (r : Option Status) where
  abbrev IsTick : Plain → Type 0
  IsTick q = Observed whole (tick v q n) (below v q n) a r b

  pub as_plain : (q : Plain) → p ≡ q → IsTick q → IsTick p
  as_plain q is o = subst IsTick (sym is) o

  pub as_line : (kind : Kind) (cs : Forest) → p ≡ Composite kind cs → Observed whole (tick_line v cs kind (n + 1)) (below_line v cs kind (n + 1)) a r b → IsTick p
  as_line kind cs is o = as_plain (Composite kind cs) is (record { result = o.result; told = o.told; room = o.room })

  pub as_star : (kind : Kind) (k : ℕ) (cs : Forest) → p ≡ Star kind cs → k ≡ number_of n a.state
      → Observed whole (tick_star v cs kind k 0 n (n + 1)) (below_star v cs kind k 0 n (n + 1)) a r b → IsTick p
  as_star kind k cs is read o = as_plain (Star kind cs) is (record {
    result = ap (λ j. tick_star v cs kind j 0 n (n + 1) a.state) (sym read) ∙ o.result;
    told = o.told ∙ ap (λ j. written (below_star v cs kind j 0 n (n + 1) a.state) a.told) read;
    room = o.room;
  })

  pub as_all : (m children : ℕ) (cs : Forest) → p ≡ Par m cs → children ≡ count cs
      → Observed whole (tick_all v cs m children 0 0 (n + 1)) (below_all v cs (n + 1)) a r b → IsTick p
  as_all m children cs is counts o = as_plain (Par m cs) is (record {
    result = ap (λ j. tick_all v cs m j 0 0 (n + 1) a.state) (sym counts) ∙ o.result;
    told = o.told;
    room = o.room;
  })
