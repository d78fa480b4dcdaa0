-- The text of a frame, by what its turn and its bands hold.
use Rattle.std.proofs.Common.{◌≡◌, ℕ, suc, ◌+◌, ◌<◌, Bool, Some, List, [], ◌∷◌, ◌++◌, length, map, sym, ap, ◌∙◌, arith}
use Rattle.std.proofs.lemmas.Grind.{common_steps}
use Rattle.run_printer.specs.Tables.{AreFirstBands}
use Rattle.std.proofs.lemmas.List.{map-append}
use Rattle.grid_world.specs.Grid.{Grid}
use Rattle.grid_world.specs.Map.{count_up}
use Rattle.bt_nodes.specs.declared.node.Status.{Status}
use Rattle.game_rules.specs.Game.{Game}
use Rattle.game_rules.specs.Text.{text, frame_text}
use Rattle.draw_list.specs.declared.band.Band.{Band}
use Rattle.draw_list.specs.Bands.{bands_of, band_count}
use Rattle.draw_list.proofs.Counting.{count_up-zero, count_up-suc, count_up-append}
use Rattle.frame_state.specs.Contents.{world_after, signals_in, statuses_in, bands_in, band_in}
use Rattle.frame_state.proofs.Turning.{height_stays}
use Rattle.task_board.proofs.Texts.{text-frame}

-- one band more
pub one_more : (g : Game) (f n : ℕ) (drawn : List Band) (band : Band) → drawn ≡ map (band_in g f) (count_up 0 n) → band ≡ band_in g f n
    → drawn ++ band ∷ [] ≡ map (band_in g f) (count_up 0 (n + 1))
one_more g f n drawn band before h =
    let make = band_in g f in
    let e : 0 + n ≡ n = omega arith in
    let last : count_up (0 + n) 1 ≡ n ∷ [] = ap (λ k. count_up k 1) e ∙ count_up-suc n 0 ∙ ap (λ l. n ∷ l) (count_up-zero (suc n)) in
    let more : count_up 0 (n + 1) ≡ count_up 0 n ++ n ∷ [] = count_up-append 0 n 1 ∙ ap (λ l. count_up 0 n ++ l) last in
    ap (λ (l : List Band). l ++ band ∷ []) before ∙ ap (λ (b : Band). map make (count_up 0 n) ++ b ∷ []) h
    ∙ sym (map-append make (count_up 0 n) (n ∷ [])) ∙ sym (ap (map make) more)

pub first_more : (g : Game) (f n : ℕ) (into : List Band) (band : Band) → AreFirstBands g f into → length into ≡ n → band ≡ band_in g f n → AreFirstBands g f (into ++ band ∷ [])
first_more g f n into band before many is =
    let longer : length (into ++ band ∷ []) ≡ length into + 1 = grind (arith, common_steps) in
    one_more g f (length into) into band before (is ∙ ap (band_in g f) (sym many)) ∙ ap (λ k. map (band_in g f) (count_up 0 k)) (sym longer)

-- all bands of a frame are those of its world
pub all_drawn : (g : Game) (f : ℕ) → map (band_in g f) (count_up 0 (bands_in g)) ≡ bands_of (world_after g f) (signals_in g f)
all_drawn g f = ap (λ h. map (band_in g f) (count_up 0 (band_count h))) (sym (height_stays g f))

-- what is written of a frame's turn and of all its bands
pub written_is : (g own : Game) (f n : ℕ) (drawn : List Band) (world : Grid) (statuses : List Status) (written : List ℕ) → own ≡ g → 0 < f
    → n ≡ f → drawn ≡ map (band_in g n) (count_up 0 (bands_in own)) → world ≡ world_after own f → statuses ≡ statuses_in own f
    → ((on : List Bool) → drawn ≡ bands_of world on → written ≡ text n world on statuses) → written ≡ frame_text g f
written_is g own f n drawn world statuses written game later number bands_are world_are statuses_are h =
    let on = signals_in g f in
    let world_is : world ≡ world_after g f = world_are ∙ ap (λ (x : Game). world_after x f) game in
    let statuses_is : statuses ≡ statuses_in g f = statuses_are ∙ ap (λ (x : Game). statuses_in x f) game in
    let bands_is : drawn ≡ map (band_in g f) (count_up 0 (bands_in g)) =
    bands_are ∙ ap (λ k. map (band_in g k) (count_up 0 (bands_in own))) number ∙ ap (λ (x : Game). map (band_in g f) (count_up 0 (bands_in x))) game in
    let whole : drawn ≡ bands_of world on = bands_is ∙ all_drawn g f ∙ ap (λ w. bands_of w on) (sym world_is) in
    h on whole ∙ ap (λ k. text k world on statuses) number ∙ ap (λ w. text f w on statuses) world_is
    ∙ ap (text f (world_after g f) on) statuses_is ∙ text-frame g f later

pub none_first : (g : Game) (f : ℕ) (bands : List Band) → bands ≡ [] → AreFirstBands g f bands
none_first g f bands e = rw e (ap (map (band_in g f)) (sym (count_up-zero 0)))

pub same_game : (a b : Game) → Some a ≡ Some b → a ≡ b
same_game a b e = cc
