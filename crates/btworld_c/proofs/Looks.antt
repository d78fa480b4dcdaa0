-- Buffers that are filled game after game.
use Rattle.std.proofs.Common.{◌≡◌, ◌≢◌, ◌⊎◌, ◌∙◌, inl, inr, ⊎_elim, ℕ, ◌+◌, ◌-◌, ◌<◌, ◌≤◌, List, [], ◌∷◌, ◌++◌, Option, None, length, take, drop, get_or, refl, sym, ap, subst, arith, append_assoc, append-nil, length-append, length-drop}
use Rattle.std.specs.List.{between, flat_map}
use Rattle.std.proofs.lemmas.Grind.{flat_map-append}
use Rattle.std.proofs.lemmas.List.{drop-drop, drop_all, drop_at, take_all, take_at, take_more, length-map}
use Rattle.std.proofs.lemmas.List.Folds.{length-flat_map-take}
use Rattle.std.proofs.lemmas.Slice.{between_to_end}
use borrow.Rule.Slice.PartMut.{put_mid}
use Rattle.stepping.specs.Played.{Played}
use Rattle.btworld_c.specs.Buffers.{IsFilled}
use Rattle.btworld_c.specs.Many.{held_at, held_by, cells_in, agents_in, all_cells, all_agents}
use Rattle.btworld_c.specs.Statuses.{done, closed, short, IsLookStatus}
use Rattle.btworld_c.specs.declared.game.Game.{Game}

abbrev value_of : Game → Option Played
value_of g = g.handle.value

-- what was written, and one piece more behind it
pub filled_on : {X : Type 0} (done items cells part old : List X) (at n : ℕ) → length done ≡ at → at ≤ length cells → cells ≡ done ++ drop at old
    → IsFilled items n (between at (length cells) cells) part → put_mid at (length cells - at) cells part ≡ (done ++ items) ++ drop (at + n) old
filled_on done items cells part old at n long within is filled =
    let rest : between at (length cells) cells ≡ drop at old = between_to_end cells at (length cells) (omega arith) ∙ ap (drop at) is ∙ drop_at done (drop at old) at long in
    let first : take at cells ≡ done = ap (take at) is ∙ take_at done (drop at old) at long in
    let behind : drop (length cells - at) (drop at cells) ≡ [] = drop_all (length cells - at) (drop at cells) (omega (arith, length-drop at cells)) in
    let whole : part ≡ items ++ drop (at + n) old = filled.1 ∙ ap (λ l. items ++ drop n l) rest ∙ ap (λ l. items ++ l) (drop-drop n at old) in
    ap (λ l. take at cells ++ (part ++ l)) behind ∙ ap (λ l. take at cells ++ l) (append-nil part) ∙ ap (λ l. l ++ part) first ∙ ap (λ l. done ++ l) whole
    ∙ sym (append_assoc done items (drop (at + n) old))

-- of one game more
pub pieces_more : {X : Type 0} (piece : Option Played → List X) (held : List (Option Played)) (i : ℕ) → i < length held
    → flat_map piece (take (i + 1) held) ≡ flat_map piece (take i held) ++ piece (get_or held i None)
pieces_more piece held i inside =
    ap (flat_map piece) (take_more held i None inside) ∙ flat_map-append piece (take i held) (get_or held i None ∷ [])
    ∙ ap (λ l. flat_map piece (take i held) ++ l) (append-nil (piece (get_or held i None)))

-- what is written of the games so far, and of one more
pub looked_more : {X : Type 0} (piece : Option Played → List X) (first now : List Game) (i at n : ℕ) (cells part old : List X) → held_by now ≡ held_by first
    → i < length first → at ≡ length (flat_map piece (take i (held_by first))) → cells ≡ flat_map piece (take i (held_by first)) ++ drop at old
    → IsFilled (piece (held_at now i)) n (between at (length cells) cells) part
    → put_mid at (length cells - at) cells part ≡ flat_map piece (take (i + 1) (held_by first)) ++ drop (at + n) old
looked_more piece first now i at n cells part old kept inside long is filled =
    let held : List (Option Played) = held_by first in
    let done = flat_map piece (take i held) in
    let there : i < length held = omega (arith, inside, length-map first value_of) in
    let within : at ≤ length cells = omega (arith, long, ap length is, length-append done (drop at old)) in
    let same : held_at now i ≡ get_or held i None = ap (λ (l : List (Option Played)). get_or l i None) kept in
    filled_on done (piece (get_or held i None)) cells part old at n (sym long) within is
    (subst (λ (o : Option Played). IsFilled (piece o) n (between at (length cells) cells) part) same filled)
    ∙ ap (λ l. l ++ drop (at + n) old) (sym (pieces_more piece held i there))

-- how many they are
pub counted_more : {X : Type 0} (piece : Option Played → List X) (first now : List Game) (i at n : ℕ) → held_by now ≡ held_by first → i < length first
    → at ≡ length (flat_map piece (take i (held_by first))) → n ≡ length (piece (held_at now i)) → at + n ≡ length (flat_map piece (take (i + 1) (held_by first)))
counted_more piece first now i at n kept inside long is =
    let held : List (Option Played) = held_by first in
    let there : i < length held = omega (arith, inside, length-map first value_of) in
    let same : length (piece (held_at now i)) ≡ length (piece (get_or held i None)) = ap (λ (l : List (Option Played)). length (piece (get_or l i None))) kept in
    let more = ap length (pieces_more piece held i there) in
    omega (arith, long, is, same, more, length-append (flat_map piece (take i held)) (piece (get_or held i None)))

-- where a piece is longer than what is left of a buffer, all are longer than the buffer
pub too_long : {X : Type 0} (piece : Option Played → List X) (first now : List Game) (i at : ℕ) (cells old : List X) → held_by now ≡ held_by first → i < length first
    → at ≡ length (flat_map piece (take i (held_by first))) → cells ≡ flat_map piece (take i (held_by first)) ++ drop at old → length cells ≡ length old
    → length (between at (length cells) cells) < length (piece (held_at now i)) → length old < length (flat_map piece (held_by first))
too_long piece first now i at cells old kept inside long is as_long short =
    let held : List (Option Played) = held_by first in
    let there : i < length held = omega (arith, inside, length-map first value_of) in
    let within : at ≤ length cells = omega (arith, long, ap length is, length-append (flat_map piece (take i held)) (drop at old)) in
    let same : length (piece (held_at now i)) ≡ length (piece (get_or held i None)) = ap (λ (l : List (Option Played)). length (piece (get_or l i None))) kept in
    let rest = ap length (between_to_end cells at (length cells) (omega arith)) in
    omega (arith, long, short, same, rest, within, as_long, length-drop at cells, length-flat_map-take piece held i None there)

-- what is left of a room, and less by one piece
pub left_more : {X : Type 0} (piece : Option Played → List X) (first now : List Game) (i left n room : ℕ) → held_by now ≡ held_by first → i < length first
    → left + length (flat_map piece (take i (held_by first))) ≡ room → n ≡ length (piece (held_at now i)) → n ≤ left
    → left - n + length (flat_map piece (take (i + 1) (held_by first))) ≡ room
left_more piece first now i left n room kept inside is count enough =
    let more = counted_more piece first now i (length (flat_map piece (take i (held_by first)))) n kept inside refl count in
    omega (arith, is, more, enough)

pub not_enough : {X : Type 0} (piece : Option Played → List X) (first now : List Game) (i left n room : ℕ) → held_by now ≡ held_by first → i < length first
    → left + length (flat_map piece (take i (held_by first))) ≡ room → n ≡ length (piece (held_at now i)) → left < n → room < length (flat_map piece (held_by first))
not_enough piece first now i left n room kept inside is count few =
    let held : List (Option Played) = held_by first in
    let there : i < length held = omega (arith, inside, length-map first value_of) in
    let same : length (piece (held_at now i)) ≡ length (piece (get_or held i None)) = ap (λ (l : List (Option Played)). length (piece (get_or l i None))) kept in
    omega (arith, is, count, few, same, length-flat_map-take piece held i None there)

pub enough : {X : Type 0} (piece : Option Played → List X) (first : List Game) (i left room : ℕ) → length first ≤ i
    → left + length (flat_map piece (take i (held_by first))) ≡ room → length (flat_map piece (held_by first)) ≤ room
enough piece first i left room over is =
    let held : List (Option Played) = held_by first in
    let all : length (flat_map piece (take i held)) ≡ length (flat_map piece held) =
    ap (λ (l : List (Option Played)). length (flat_map piece l)) (take_all i held (omega (arith, over, length-map first value_of))) in
    omega (arith, is, all)

-- what has room for all is not refused
pub never_refused : (first now : List Game) (cells agents status : ℕ) → held_by now ≡ held_by first → ((k : ℕ) → k < length first → held_at first k ≢ None)
    → length (all_cells first) ≤ cells → length (all_agents first) ≤ agents → IsLookStatus status → status ≢ done
    → (status ≡ closed → (k : ℕ) × (k < length now) × (held_at now k ≡ None)) → (status ≡ short → (cells < length (all_cells now)) ⊎ (agents < length (all_agents now))) → ⊥
never_refused first now cells agents status kept are_open few fewer (inl e) other held too_few = other e
never_refused first now cells agents status kept are_open few fewer (inr (inl e)) other held too_few =
    let h = held e in
    let many : length (held_by now) ≡ length (held_by first) = ap (λ (l : List (Option Played)). length l) kept in
    are_open h.0 (omega (arith, h.1, many, length-map now value_of, length-map first value_of)) (sym (ap (λ (l : List (Option Played)). get_or l h.0 None) kept) ∙ h.2)
never_refused first now cells agents status kept are_open few fewer (inr (inr e)) other held too_few =
    let same : length (all_cells now) ≡ length (all_cells first) = ap (λ (l : List (Option Played)). length (flat_map cells_in l)) kept in
    let alike : length (all_agents now) ≡ length (all_agents first) = ap (λ (l : List (Option Played)). length (flat_map agents_in l)) kept in
    ⊎_elim (λ l. absurd (omega (arith, l, same, few))) (λ l. absurd (omega (arith, l, alike, fewer))) (too_few e)
