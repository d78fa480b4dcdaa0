-- Indents, from the level's two spaces and the rest.
use Rattle.std.proofs.Common.{◌≡◌, ◌∙◌, ◌<◌, ◌-◌, ◌++◌, ℕ, zero, suc, List, sym, ap, arith, codes, append-nil, append_assoc}
use Rattle.tick_text.specs.Lines.{indent}

pub none_indented : (text : List ℕ) (depth : ℕ) → depth ≡ 0 → text ≡ text ++ indent depth
none_indented text depth none = sym (append-nil text) ∙ ap (λ k. text ++ indent k) (sym none)

pub one_indented : (text one all : List ℕ) (depth : ℕ) → 0 < depth → one ≡ text ++ codes "  " → all ≡ one ++ indent (depth - 1) → all ≡ text ++ indent depth
one_indented text one all zero some first rest = absurd (omega (arith, some))
one_indented text one all (suc depth) some first rest =
    let less : suc depth - 1 ≡ depth = omega arith in
    rest ∙ ap (λ l. l ++ indent (suc depth - 1)) first ∙ ap (λ k. (text ++ codes "  ") ++ indent k) less ∙ append_assoc text (codes "  ") (indent depth)
