-- What a walk over plain trees answers at a node of one of the kinds that have children.
use Rattle.std.specs.declared.boxed.Box.{Box}
use Rattle.std.proofs.Common.{◌≡◌, ℕ, ◌⊎◌, inl, inr, Vec, rules, ap, ◌∙◌}
use Rattle.bt_nodes.specs.Plain.{Plain, Composite, Star, Par, Not, Tries, Ticks, Seq, Fallback, plain, plains}
use Rattle.bt_nodes.specs.declared.node.Node.{Node, the_lemmas}
use Rattle.bt_nodes.specs.declared.node.Node as node

pub plain-Seq : {A : Type 0} → (v : Vec (Node A) A) → plain (node.Seq v) ≡ Composite Seq (plains v.items)
plain-Seq v = search (rules, the_lemmas)

pub plain-Fallback : {A : Type 0} → (v : Vec (Node A) A) → plain (node.Fallback v) ≡ Composite Fallback (plains v.items)
plain-Fallback v = search (rules, the_lemmas)

pub plain-Par : {A : Type 0} → (m : ℕ) (v : Vec (Node A) A) → plain (node.Par m v) ≡ Par m (plains v.items)
plain-Par m v = search (rules, the_lemmas)

pub plain-SeqStar : {A : Type 0} → (v : Vec (Node A) A) → plain (node.SeqStar v) ≡ Star Seq (plains v.items)
plain-SeqStar v = search (rules, the_lemmas)

pub plain-FallbackStar : {A : Type 0} → (v : Vec (Node A) A)
    → plain (node.FallbackStar v) ≡ Star Fallback (plains v.items)
plain-FallbackStar v = search (rules, the_lemmas)

pub listing : {A B : Type 0} → (f : Plain → B) (root : Node A) (v : Vec (Node A) A) (b : B)
    → f (Composite Seq (plains v.items)) ≡ b → f (Composite Fallback (plains v.items)) ≡ b
    → ((m : ℕ) → f (Par m (plains v.items)) ≡ b)
    → f (Star Seq (plains v.items)) ≡ b → f (Star Fallback (plains v.items)) ≡ b
    → (root ≡ node.Seq v)
    ⊎ ((root ≡ node.Fallback v) ⊎ (((m : ℕ) × (root ≡ node.Par m v)) ⊎ ((root ≡ node.SeqStar v) ⊎ (root ≡ node.FallbackStar v))))
    → f (plain root) ≡ b
listing f root v b seq fallback par seq_star fallback_star (inl e) =
    ap (λ n. f (plain n)) e ∙ ap f (plain-Seq v) ∙ seq
listing f root v b seq fallback par seq_star fallback_star (inr (inl e)) =
    ap (λ n. f (plain n)) e ∙ ap f (plain-Fallback v) ∙ fallback
listing f root v b seq fallback par seq_star fallback_star (inr (inr (inl (m, e)))) =
    ap (λ n. f (plain n)) e ∙ ap f (plain-Par m v) ∙ par m
listing f root v b seq fallback par seq_star fallback_star (inr (inr (inr (inl e)))) =
    ap (λ n. f (plain n)) e ∙ ap f (plain-SeqStar v) ∙ seq_star
listing f root v b seq fallback par seq_star fallback_star (inr (inr (inr (inr e)))) =
    ap (λ n. f (plain n)) e ∙ ap f (plain-FallbackStar v) ∙ fallback_star

pub plain-Not : {A : Type 0} → (b : Box (Node A) A) → plain (node.Not b) ≡ Not (plain b.value)
plain-Not b = search (rules, the_lemmas)

pub plain-Tries : {A : Type 0} → (n : ℕ) (b : Box (Node A) A) → plain (node.Tries n b) ≡ Tries n (plain b.value)
plain-Tries n b = search (rules, the_lemmas)

pub plain-Ticks : {A : Type 0} → (n : ℕ) (b : Box (Node A) A) → plain (node.Ticks n b) ≡ Ticks n (plain b.value)
plain-Ticks n b = search (rules, the_lemmas)
