-- The lines of a tree, from that of its root and those of what stands below it.
use Rattle.std.proofs.Common.{◌≡◌, ◌∙◌, ◌+◌, ◌++◌, ℕ, List, sym, ap, refl, append-nil, append_assoc}
use Rattle.std.specs.Prelude.{None, Some, Result, Ok, Err, OnOk, is_ok, if◌then◌else◌}
use Rattle.bt_nodes.specs.Plain.{Plain, Composite, Star, Par, Not, Tries, Ticks, Wait, Move, Does, Forest, tree}
use Rattle.bt_nodes.specs.Heads.{listed, decorated}
use Rattle.bt_nodes.specs.Sizes.{size}
use Rattle.tick_text.specs.Lines.{Tick, node_line, node_lines, forest_lines}

-- one piece behind a text, and the rest behind it
pub further : (text piece longer rest all : List ℕ) → longer ≡ text ++ piece → all ≡ longer ++ rest → all ≡ text ++ (piece ++ rest)
further text piece longer rest all is behind = behind ∙ ap (λ l. l ++ rest) is ∙ append_assoc text piece rest

pub if_pushed : {T E : Type 0} (r : Result T E) (text piece all : List ℕ) → all ≡ (if is_ok r then text ++ piece else text) → OnOk r (all ≡ text ++ piece)
if_pushed (Ok v) text piece all is = is
if_pushed (Err e) text piece all is = tt

module _ (t : Tick) (n depth : ℕ) where
  lines-decorated : (p c : Plain) → Some c ≡ decorated p → node_lines t p n depth ≡ node_line t p n depth ++ node_lines t c (n + 1) (depth + 1)
  lines-decorated (Not d) c e = let s : d ≡ c = cc in ap (λ c. node_line t (Not d) n depth ++ node_lines t c (n + 1) (depth + 1)) s
  lines-decorated (Tries k d) c e = let s : d ≡ c = cc in ap (λ c. node_line t (Tries k d) n depth ++ node_lines t c (n + 1) (depth + 1)) s
  lines-decorated (Ticks k d) c e = let s : d ≡ c = cc in ap (λ c. node_line t (Ticks k d) n depth ++ node_lines t c (n + 1) (depth + 1)) s
  lines-decorated _ c e = absurd (cc)

  lines-listed : (p : Plain) → None ≡ decorated p → node_lines t p n depth ≡ node_line t p n depth ++ forest_lines t (listed p) (n + 1) (depth + 1)
  lines-listed (Composite kind children) e = refl
  lines-listed (Star kind children) e = refl
  lines-listed (Par m children) e = refl
  lines-listed (Wait k) e = sym (append-nil (node_line t (Wait k) n depth))
  lines-listed (Move q) e = sym (append-nil (node_line t (Move q) n depth))
  lines-listed (Does leaf) e = sym (append-nil (node_line t (Does leaf) n depth))
  lines-listed _ e = absurd (cc)

  module _ (p : Plain) (text one all : List ℕ) (root : one ≡ text ++ node_line t p n depth) where
    pub decorated_told : (c : Plain) → Some c ≡ decorated p → all ≡ one ++ node_lines t c (n + 1) (depth + 1) → all ≡ text ++ node_lines t p n depth
    decorated_told c e rest = further text (node_line t p n depth) one (node_lines t c (n + 1) (depth + 1)) all root rest ∙ ap (λ l. text ++ l) (sym (lines-decorated p c e))

    pub listed_told : (cs : Forest) → None ≡ decorated p → cs ≡ listed p → all ≡ one ++ forest_lines t cs (n + 1) (depth + 1) → all ≡ text ++ node_lines t p n depth
    listed_told cs e same rest =
        further text (node_line t p n depth) one (forest_lines t cs (n + 1) (depth + 1)) all root rest
        ∙ ap (λ f. text ++ (node_line t p n depth ++ forest_lines t f (n + 1) (depth + 1))) same ∙ ap (λ l. text ++ l) (sym (lines-listed p e))

-- one tree of a forest more
pub tree_told : (t : Tick) (p : Plain) (rest forest : Forest) (n next depth : ℕ) (text more whole : List ℕ) → forest ≡ tree p rest → next ≡ n + size p
    → more ≡ text ++ node_lines t p n depth → text ++ forest_lines t forest n depth ≡ whole → more ++ forest_lines t rest next depth ≡ whole
tree_told t p rest forest n next depth text more whole begins is one all =
    ap (λ k. more ++ forest_lines t rest k depth) is ∙ further text (node_lines t p n depth) more (forest_lines t rest (n + size p) depth) _ one refl ∙ ap (λ f. text ++ forest_lines t f n depth) (sym begins) ∙ all
