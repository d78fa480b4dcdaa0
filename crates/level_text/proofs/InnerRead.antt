-- Nodes that take nodes, by their heads.
use Rattle.std.proofs.Common.{◌≡◌, ℕ, List, ◌∷◌, Option, Some, None, codes, option_map, option_and_then, refl}
use Rattle.serde_json.specs.View.{view, items_view}
use Rattle.serde_json.specs.declared.value.Value.{Value}
use Rattle.bt_nodes.specs.Plain.{Par, Tries, Ticks}
use Rattle.level_text.specs.Inner.{form_in, inner_in}
use Rattle.level_text.specs.declared.inner.Inner.{Inner}
use Rattle.level_text.specs.Arguments.{count_in, first}
use Rattle.level_text.specs.Nodes.{forest_in, child_in}

paired : {B C : Type 0} → (f : ℕ → B → C) (n : ℕ) (o : Option B) → option_map (λ (p : ℕ × B). f p.0 p.1) (option_map (λ b. (n, b)) o) ≡ option_map (f n) o
paired f n None = refl
paired f n (Some b) = refl

abbrev BeginsWith : List Value → ℕ → List Value → Type 0
BeginsWith arguments n values = (v : Value) × (arguments ≡ v ∷ values) × (count_in (view v) ≡ Some n)

module _ (head : List ℕ) (arguments : List Value) where
  module _ (n : ℕ) (values : List Value) (begins : BeginsWith arguments n values) where
    pub is_par : head ≡ codes "par" → form_in head (items_view arguments) ≡ option_map (Par n) (forest_in (items_view values))
    is_par h = rw (h, begins.1, begins.2) (paired Par n (forest_in (items_view values)))

    pub is_tries : head ≡ codes "tries" → form_in head (items_view arguments) ≡ option_map (Tries n) (child_in (items_view values))
    is_tries h = rw (h, begins.1, begins.2) (paired Tries n (child_in (items_view values)))

    pub is_ticks : head ≡ codes "ticks" → form_in head (items_view arguments) ≡ option_map (Ticks n) (child_in (items_view values))
    is_ticks h = rw (h, begins.1, begins.2) (paired Ticks n (child_in (items_view values)))

  module _ (result : Option Inner) (none : result ≡ None) (numberless : option_and_then count_in (first (items_view arguments)) ≡ None) where
    pub no_par : head ≡ codes "par" → form_in head (items_view arguments) ≡ inner_in result head (items_view arguments)
    no_par h = rw (h, none, numberless) refl

    pub no_tries : head ≡ codes "tries" → form_in head (items_view arguments) ≡ inner_in result head (items_view arguments)
    no_tries h = rw (h, none, numberless) refl

    pub no_ticks : head ≡ codes "ticks" → form_in head (items_view arguments) ≡ inner_in result head (items_view arguments)
    no_ticks h = rw (h, none, numberless) refl
