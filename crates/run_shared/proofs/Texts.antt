-- The texts of the first frames are a front of the texts of all.
use Rattle.std.proofs.Common.{◌≡◌, ℕ, zero, suc, ◌+◌, ◌-◌, ◌<◌, ◌≤◌, List, [], ◌++◌, Option, length, take, refl, sym, ap, ◌∙◌, subst, arith, append_assoc, length-append, add-one, add-zero, map}
use Rattle.std.specs.Prelude.{codes, decimal}
use Rattle.std.specs.List.{flat_map}
use Rattle.std.proofs.lemmas.List.{append-nil, take_at, take-append-le}
use Rattle.std.proofs.Math.Seq.{take-append-add}
use Rattle.std.specs.Io.KnownBytes.{Appends}
use Rattle.std.proofs.KnownBytes.{Appends-nil, Appends-trans}
use Rattle.grid_world.specs.Map.{count_up}
use Rattle.game_rules.specs.Game.{Game, signals}
use Rattle.game_rules.specs.Play.{play, thoughts}
use Rattle.game_rules.specs.Text.{texts, frame_text, row_text, agents_text}
use Rattle.run_shared.specs.Printed.{WrotePart}

pub texts_more : (g : Game) (n : ℕ) → texts g (n + 1) ≡ texts g n ++ frame_text g (n + 1)
texts_more g n = rw (add-one n) refl

-- what follows the texts of the first e frames
abbrev rest_of : Game → ℕ → ℕ → List ℕ
rest_of g e zero = []
rest_of g e (suc d) = rest_of g e d ++ frame_text g (suc (e + d))

texts_split : (g : Game) (e d : ℕ) → texts g (e + d) ≡ texts g e ++ rest_of g e d
texts_split g e zero = ap (texts g) (add-zero e) ∙ sym (append-nil (texts g e))
texts_split g e (suc d) =
    ap (texts g) (let h : e + suc d ≡ suc (e + d) = omega arith in h)
    ∙ ap (λ l. l ++ frame_text g (suc (e + d))) (texts_split g e d)
    ∙ append_assoc (texts g e) (rest_of g e d) (frame_text g (suc (e + d)))

-- a frame's text begins with a word
some_text : (g : Game) (f : ℕ) → 0 < length (frame_text g (f + 1))
some_text g f =
    let whole : frame_text g (f + 1) ≡ codes "frame " ++ (decimal (suc f) ++ codes "\n" ++ flat_map (row_text (play g (suc f)).world (signals g.changes (suc f))) (count_up 0 (play g (suc f)).world.height)
    ++ agents_text 0 (play g (suc f)).world.agents (map (λ t. t.status) (thoughts g (suc f) (play g f)))) = rw (add-one f) refl in
    let six : length (codes "frame ") ≡ 6 = refl in
    omega (
      arith,
      ap length whole,
      length-append (codes "frame ") (decimal (suc f) ++ codes "\n" ++ flat_map (row_text (play g (suc f)).world (signals g.changes (suc f))) (count_up 0 (play g (suc f)).world.height)
          ++ agents_text 0 (play g (suc f)).world.agents (map (λ t. t.status) (thoughts g (suc f) (play g f)))),
      six,
    )

-- all is written of the first e frames
pub part-of_whole : (a b : Option (List ℕ)) (g : Game) (n e : ℕ) → e ≤ n → Appends a b (texts g e) → WrotePart a b g n e
part-of_whole a b g n e le wrote =
    let d = n - e in
    let is : texts g n ≡ texts g e ++ rest_of g e d = ap (texts g) (let h : n ≡ e + d = omega arith in h) ∙ texts_split g e d in
    record {
      bytes = length (texts g e);
      appends = subst (λ (l : List ℕ). Appends a b l) (sym (ap (take (length (texts g e))) is ∙ take_at (texts g e) (rest_of g e d) (length (texts g e)) refl)) wrote;
      within = omega (arith, ap length is, length-append (texts g e) (rest_of g e d));
      whole = omega arith;
      at_most = le;
      no_more = λ more. omega (arith, ap length (texts_more g e), length-append (texts g e) (frame_text g (e + 1)), some_text g e);
    }

-- the next frame's text is written behind those before
pub one_more : (a b c : Option (List ℕ)) (g : Game) (e : ℕ) (bytes : List ℕ) → bytes ≡ frame_text g (e + 1) → Appends a b (texts g e) → Appends b c bytes → Appends a c (texts g (e + 1))
one_more a b c g e bytes is before now =
    subst (λ (l : List ℕ). Appends a c l) (ap (λ (l : List ℕ). texts g e ++ l) is ∙ sym (texts_more g e)) (Appends-trans a b c (texts g e) bytes before now)

-- nothing is written
pub part-of_none : (a : Option (List ℕ)) (g : Game) (n : ℕ) → WrotePart a a g n 0
part-of_none a g n = part-of_whole a a g n 0 (omega arith) (Appends-nil a)

-- the texts of e frames are written, and a part of the next
pub part-of_more : (a b c : Option (List ℕ)) (g : Game) (n e k : ℕ) → e < n → k < length (frame_text g (e + 1)) → Appends a b (texts g e) → Appends b c (take k (frame_text g (e + 1))) → WrotePart a c g n e
part-of_more a b c g n e k lt short before now =
    let d = n - (e + 1) in
    let front = texts g e in
    let next = frame_text g (e + 1) in
    let one : texts g (e + 1) ≡ front ++ next = texts_more g e in
    let is : texts g n ≡ texts g (e + 1) ++ rest_of g (e + 1) d = ap (texts g) (let h : n ≡ (e + 1) + d = omega arith in h) ∙ texts_split g (e + 1) d in
    let all : texts g n ≡ (front ++ next) ++ rest_of g (e + 1) d = is ∙ ap (λ l. l ++ rest_of g (e + 1) d) one in
    let size : length (front ++ next) ≡ length front + length next = length-append front next in
    let cut : take (length front + k) (texts g n) ≡ front ++ take k next =
    ap (take (length front + k)) all ∙ take-append-le (length front + k) (front ++ next) (rest_of g (e + 1) d) (omega arith) ∙ take-append-add front next k in
    record {
      bytes = length front + k;
      appends = subst (λ (l : List ℕ). Appends a c l) (sym cut) (Appends-trans a b c front (take k next) before now);
      within = omega (arith, ap length all, length-append (front ++ next) (rest_of g (e + 1) d), size);
      whole = omega arith;
      at_most = omega arith;
      no_more = λ more. omega (arith, ap length one, size);
    }
