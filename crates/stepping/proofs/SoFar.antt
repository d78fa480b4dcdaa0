-- The changes up to a frame.
use Rattle.std.proofs.Common.{◌≡◌, ◌<◌, ◌≤◌, ◌∙◌, ℕ, ◌+◌, ◌-◌, ◌++◌, ◌∷◌, [], List, length, get_or, drop, Bool, true, false, if◌then◌else◌, refl, sym, ap, arith, append_assoc}
use Rattle.std.specs.Prelude.{nat_le, slice_set, replicate}
use Rattle.std.proofs.lemmas.Grind.{common_steps}
use Rattle.std.proofs.lemmas.List.{drop_more}
use Rattle.std.proofs.lemmas.List.Elements.{All-filter}
use Rattle.std.proofs.lemmas.List.Kept.{IsNonDecreasingBy-filter}
use Rattle.game_rules.specs.declared.change.Change.{Change}
use Rattle.game_rules.specs.Game.{changed_by}
use Rattle.game_session.specs.Changes.{last_frame}
use Rattle.game_session.proofs.Rising.{last_frame-at}
use Rattle.stepping.specs.Played.{Played, changes_by, changes_so_far, AreInOrder, IsByScript}

-- those behind it change nothing up to it
changed_so_far : (cs : List Change) (f k : ℕ) (on : List Bool) → k ≤ f → changed_by cs k on ≡ changed_by (changes_by f cs) k on
changed_so_far [] f k on h = refl
changed_so_far (c ∷ cs) f k on h = one (nat_le c.frame f) refl (λ l. changed_so_far cs f k l h)
  where
    after : List Bool
    after = if nat_le c.frame k then slice_set on c.signal c.on else on

    one : (b : Bool) → nat_le c.frame f ≡ b → ((l : List Bool) → changed_by cs k l ≡ changed_by (changes_by f cs) k l)
        → changed_by cs k after ≡ changed_by (if b then c ∷ changes_by f cs else changes_by f cs) k on
    one true e more = more after
    one false e more =
        let no : nat_le c.frame k ≡ false = grind (arith, common_steps, e, h) in
        ap (λ b. changed_by cs k (if b then slice_set on c.signal c.on else on)) no ∙ more on

pub by_changes_so_far : (p : Played) → IsByScript (record p { script = changes_so_far p })
by_changes_so_far p k some within = changed_so_far p.game.changes p.frame k (replicate 26 false) within

-- one change more, where it is up to the frame and where it isn't
pub taken_more : (cs script : List Change) (f i : ℕ) (d : Change) → i < length cs → nat_le (get_or cs i d).frame f ≡ true
    → (script ++ get_or cs i d ∷ []) ++ changes_by f (drop (i + 1) cs) ≡ script ++ changes_by f (drop i cs)
taken_more cs script f i d h e =
    append_assoc script (get_or cs i d ∷ []) (changes_by f (drop (i + 1) cs))
    ∙ sym (ap (λ l. script ++ changes_by f l) (drop_more cs i d h)
    ∙ ap (λ b. script ++ (if b then get_or cs i d ∷ changes_by f (drop (i + 1) cs) else changes_by f (drop (i + 1) cs))) e)

pub left_out : (cs : List Change) (f i : ℕ) (d : Change) → i < length cs → nat_le (get_or cs i d).frame f ≡ false
    → changes_by f (drop (i + 1) cs) ≡ changes_by f (drop i cs)
left_out cs f i d h e =
    sym (ap (changes_by f) (drop_more cs i d h)
    ∙ ap (λ b. if b then get_or cs i d ∷ changes_by f (drop (i + 1) cs) else changes_by f (drop (i + 1) cs)) e)

-- those up to a frame keep their order
pub in_order_by : (cs : List Change) (f : ℕ) → AreInOrder cs → AreInOrder (changes_by f cs)
in_order_by cs f is = record {
  rising = IsNonDecreasingBy-filter (λ c. c.frame) (λ c. nat_le c.frame f) cs is.rising;
  first = All-filter (λ c. nat_le c.frame f) (λ c. 0 < c.frame) cs is.first;
}

-- the frame of a change at the end
pub last_frame-push : (cs : List Change) (c : Change) → last_frame (cs ++ c ∷ []) ≡ c.frame
last_frame-push cs c =
    let last : get_or (cs ++ c ∷ []) (length (cs ++ c ∷ []) - 1) c ≡ c = grind (arith, common_steps) in
    sym (last_frame-at (cs ++ c ∷ []) c (grind (arith, common_steps))) ∙ ap (λ (x : Change). x.frame) last
