-- The signals of a frame, by the changes up to it.
use Rattle.std.proofs.Common.{◌≡◌, ℕ, zero, suc, ◌-◌, ◌<◌, ◌≤◌, Bool, true, false, List, [], ◌∷◌, ◌++◌, length, get_or, take, refl, ap, sym, ◌∙◌, arith, leb, replicate, take_all, subst}
use Rattle.std.proofs.lemmas.Option.{slice_get-get_or}
use Rattle.std.proofs.lemmas.List.Sorted.{IsNonDecreasingBy-push}
use Rattle.std.specs.List.Sorted.{IsNonDecreasingBy, IsPartitionPoint}
use Rattle.game_rules.specs.declared.change.Change.{Change}
use Rattle.game_rules.specs.Game.{changed_by, signals}
use Rattle.game_session.specs.Changes.{changed, changed_all, signals_after, all_off, last_frame, IsKept}

-- where the first n changes are those up to frame f, they alone are made
pub changed_by_front : (cs : List Change) (f n : ℕ) (on : List Bool)
    → ((k : ℕ) (d : Change) → k < n → leb (get_or cs k d).frame f ≡ true)
    → ((k : ℕ) (d : Change) → n ≤ k → k < length cs → leb (get_or cs k d).frame f ≡ false)
    → n ≤ length cs
    → changed_by cs f on ≡ changed_all (take n cs) on
changed_by_front [] f zero on up beyond within = refl
changed_by_front [] f (suc n) on up beyond within = absurd (omega arith)
changed_by_front (c ∷ cs) f zero on up beyond within =
    let past : leb c.frame f ≡ false = beyond 0 c (omega arith) (omega arith) in
    rw past (changed_by_front cs f zero on (λ k d h. absurd (omega arith)) (λ k d low high. beyond (suc k) d (omega arith) (omega arith)) (omega arith))
changed_by_front (c ∷ cs) f (suc n) on up beyond within =
    let here : leb c.frame f ≡ true = up 0 c (omega arith) in
    rw here (changed_by_front cs f n (changed on c) (λ k d h. up (suc k) d (omega arith)) (λ k d low high. beyond (suc k) d (omega arith) (omega arith)) (omega arith))

-- beside a change stand the signals after it
pub signals_after-get : (cs : List Change) (k : ℕ) (on d : List Bool) → k < length cs
    → get_or (signals_after cs on) k d ≡ changed_all (take (suc k) cs) on
signals_after-get [] k on d h = absurd (omega arith)
signals_after-get (c ∷ cs) zero on d h = refl
signals_after-get (c ∷ cs) (suc k) on d h = signals_after-get cs k (changed on c) d (omega arith)

pub length-signals_after : (cs : List Change) (on : List Bool) → length (signals_after cs on) ≡ length cs
length-signals_after [] on = refl
length-signals_after (c ∷ cs) on = ap suc (length-signals_after cs (changed on c))

pub signals_after-push : (cs : List Change) (c : Change) (on : List Bool)
    → signals_after (cs ++ c ∷ []) on ≡ signals_after cs on ++ changed (changed_all cs on) c ∷ []
signals_after-push [] c on = refl
signals_after-push (d ∷ cs) c on = ap (λ more. changed on d ∷ more) (signals_after-push cs c (changed on d))

pub all_off-is : all_off ≡ replicate 26 false
unfolding all_off
all_off-is = refl

-- the last of the signals are those after all changes
pub signals_after-last : (cs : List Change) (on last : List Bool) → 0 < length (signals_after cs on)
    → last ≡ get_or (signals_after cs on) (length (signals_after cs on) - 1) last → last ≡ changed_all cs on
signals_after-last cs on last some is =
    let same : length (signals_after cs on) ≡ length cs = length-signals_after cs on in
    is ∙ signals_after-get cs (length (signals_after cs on) - 1) on last (omega arith)
    ∙ ap (λ front. changed_all front on) (take_all (suc (length (signals_after cs on) - 1)) cs (omega arith))

pub changed_all_none : (cs : List Change) → length cs ≤ 0 → replicate 26 false ≡ changed_all cs all_off
changed_all_none [] none = sym all_off-is
changed_all_none (c ∷ cs) none = absurd (omega arith)

-- the frame of the last change, at its place
pub last_frame-at : (cs : List Change) (d : Change) → 0 < length cs → (get_or cs (length cs - 1) d).frame ≡ last_frame cs
last_frame-at cs d some =
    rw (slice_get-get_or cs (length cs - 1) d (omega arith)) refl

pub kept_push : (cs cs' : List Change) (after after' : List (List Bool)) (c : Change) (on : List Bool)
    → IsKept cs after → last_frame cs ≤ c.frame → on ≡ changed_all cs all_off
    → cs' ≡ cs ++ c ∷ [] → after' ≡ after ++ changed on c ∷ [] → IsKept cs' after'
kept_push cs cs' after after' c on kept rises now e e' = record {
  rising =
      let P : List Change → Type 0 = λ xs. IsNonDecreasingBy (λ x. x.frame) xs in
      subst P (sym e) (IsNonDecreasingBy-push (λ x. x.frame) cs c kept.rising (λ d some. let at : (get_or cs (length cs - 1) d).frame ≡ last_frame cs = last_frame-at cs d some in omega arith));
  signals =
      let made : changed on c ≡ changed (changed_all cs all_off) c = ap (λ x. changed x c) now in
      let pushed : signals_after (cs ++ c ∷ []) all_off ≡ signals_after cs all_off ++ changed (changed_all cs all_off) c ∷ [] = signals_after-push cs c all_off in
      let was : after ≡ signals_after cs all_off = kept.signals in
      cc;
}

-- the first n changes are those up to a frame
pub signals_front : (cs : List Change) (f n : ℕ)
    → IsPartitionPoint (λ c. leb c.frame f ≡ true) (λ c. leb c.frame f ≡ false) cs n → n ≤ length cs
    → changed_all (take n cs) all_off ≡ signals cs f
signals_front cs f n parted within =
    rw all_off-is (sym (changed_by_front cs f n (replicate 26 false) (λ k d h. parted.0 k d (omega arith) h) (λ k d low high. parted.1 k d low high) within))

-- the last of them has its signals beside it
pub signals_front-get : (cs : List Change) (after : List (List Bool)) (n : ℕ) (on : List Bool) → IsKept cs after → 0 < n → n ≤ length cs
    → on ≡ get_or after (n - 1) on → on ≡ changed_all (take n cs) all_off
signals_front-get cs after n on kept some within is =
    let e : suc (n - 1) ≡ n = omega arith in
    is ∙ ap (λ xs. get_or xs (n - 1) on) kept.signals ∙ signals_after-get cs (n - 1) all_off on (omega arith) ∙ ap (λ k. changed_all (take k cs) all_off) e
