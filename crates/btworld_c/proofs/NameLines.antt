-- The names of a tree, from that of its root and those of what stands below it.
use Rattle.std.proofs.Common.{◌≡◌, ◌∙◌, ◌+◌, ◌++◌, ℕ, List, sym, ap, refl, append-nil, append_assoc}
use Rattle.std.specs.Prelude.{None, Some, Result, Ok, Err, OnOk, is_ok, if◌then◌else◌}
use Rattle.bt_nodes.specs.Plain.{Plain, Composite, Star, Par, Not, Tries, Ticks, Wait, Move, Does, Forest, tree}
use Rattle.bt_nodes.specs.Heads.{listed, decorated}
use Rattle.btworld_c.specs.NodeNames.{name_line, name_lines, forest_names}

pub on_ok_map : {T E : Type 0} (r : Result T E) (P Q : Type 0) → (P → Q) → OnOk r P → OnOk r Q
on_ok_map (Ok x) P Q f p = f p
on_ok_map (Err e) P Q f p = tt

-- one piece behind a text, and the rest behind it
pub further : (text piece longer rest all : List ℕ) → longer ≡ text ++ piece → all ≡ longer ++ rest → all ≡ text ++ (piece ++ rest)
further text piece longer rest all is behind = behind ∙ ap (λ l. l ++ rest) is ∙ append_assoc text piece rest

pub if_pushed : {T E : Type 0} (r : Result T E) (text piece all : List ℕ) → all ≡ (if is_ok r then text ++ piece else text) → OnOk r (all ≡ text ++ piece)
if_pushed (Ok v) text piece all is = is
if_pushed (Err e) text piece all is = tt

module _ (depth : ℕ) where
  names-decorated : (p c : Plain) → Some c ≡ decorated p → name_lines p depth ≡ name_line p depth ++ name_lines c (depth + 1)
  names-decorated (Not d) c e = let s : d ≡ c = cc in ap (λ c. name_line (Not d) depth ++ name_lines c (depth + 1)) s
  names-decorated (Tries k d) c e = let s : d ≡ c = cc in ap (λ c. name_line (Tries k d) depth ++ name_lines c (depth + 1)) s
  names-decorated (Ticks k d) c e = let s : d ≡ c = cc in ap (λ c. name_line (Ticks k d) depth ++ name_lines c (depth + 1)) s
  names-decorated _ c e = absurd (cc)

  names-listed : (p : Plain) → None ≡ decorated p → name_lines p depth ≡ name_line p depth ++ forest_names (listed p) (depth + 1)
  names-listed (Composite kind children) e = refl
  names-listed (Star kind children) e = refl
  names-listed (Par m children) e = refl
  names-listed (Wait k) e = sym (append-nil (name_line (Wait k) depth))
  names-listed (Move q) e = sym (append-nil (name_line (Move q) depth))
  names-listed (Does leaf) e = sym (append-nil (name_line (Does leaf) depth))
  names-listed _ e = absurd (cc)

  module _ (p : Plain) (text one all : List ℕ) (root : one ≡ text ++ name_line p depth) where
    pub decorated_named : (c : Plain) → Some c ≡ decorated p → all ≡ one ++ name_lines c (depth + 1) → all ≡ text ++ name_lines p depth
    decorated_named c e rest = further text (name_line p depth) one (name_lines c (depth + 1)) all root rest ∙ ap (λ l. text ++ l) (sym (names-decorated p c e))

    pub listed_named : (cs : Forest) → None ≡ decorated p → cs ≡ listed p → all ≡ one ++ forest_names cs (depth + 1) → all ≡ text ++ name_lines p depth
    listed_named cs e same rest =
        further text (name_line p depth) one (forest_names cs (depth + 1)) all root rest
        ∙ ap (λ f. text ++ (name_line p depth ++ forest_names f (depth + 1))) same ∙ ap (λ l. text ++ l) (sym (names-listed p e))

-- one tree of a forest more
pub tree_named : (p : Plain) (rest forest : Forest) (depth : ℕ) (text more whole : List ℕ) → forest ≡ tree p rest → more ≡ text ++ name_lines p depth
    → text ++ forest_names forest depth ≡ whole → more ++ forest_names rest depth ≡ whole
tree_named p rest forest depth text more whole begins one all =
    further text (name_lines p depth) more (forest_names rest depth) _ one refl ∙ ap (λ f. text ++ forest_names f depth) (sym begins) ∙ all
