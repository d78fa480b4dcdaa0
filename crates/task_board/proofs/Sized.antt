-- What a board's events need of its frame store and what they store there, by the sizes of the frame store in place of the run's setup.
use Rattle.std.proofs.Common.{◌≡◌, ◌<◌, ◌++◌, ℕ, [], ◌∷◌, length, refl, sym, ap, ◌∙◌}
use Rattle.job_core.specs.declared.names.JobName.{JobName}
use Rattle.job_core.specs.declared.names.Event.{Event}
use Rattle.job_core.specs.Core.{IsLegal, IsLegalList}
use Rattle.board_model.specs.Stored.{store, stored_after}
use Rattle.board_model.specs.Needed.{HasParts, IsThere}
use Rattle.board_model.proofs.Stores.{needed_is_there, places_are, stored_more}
use Rattle.task_board.specs.FrameStore.{FrameStoreOf, sizes}
use Rattle.task_board.proofs.SameSizes.{same_parts, same_store, same_there}
use Rattle.task_board.specs.Boards.{Played, setup_in, state_in}

abbrev pub frame_store_of : Played → FrameStoreOf
frame_store_of b = record { game = b.game; stored = stored_after (setup_in b) b.events }

module _ (b : Played) (lawful : IsLegalList (setup_in b) b.events) (some : 0 < b.numbers.slots) where
  pub as_many_slots : length (frame_store_of b).stored.slots ≡ b.numbers.slots
  as_many_slots = (places_are (setup_in b) b.events some lawful).0

  pub as_many_asking : length (frame_store_of b).stored.asking ≡ length b.game.trees
  as_many_asking = (places_are (setup_in b) b.events some lawful).1

  pub needed : (e : Event) → IsLegal (setup_in b) (state_in b) e → IsThere (setup_in b) (state_in b) (frame_store_of b).stored e
  needed e l = needed_is_there (setup_in b) b.events e some lawful l

  pub there_of : (e : Event) → IsLegal (setup_in b) (state_in b) e → IsThere (sizes (frame_store_of b)) (state_in b) (frame_store_of b).stored e
  there_of e l = same_there (setup_in b) (sizes (frame_store_of b)) (sym as_many_slots) refl refl (state_in b) (frame_store_of b).stored e (needed e l)

  pub parts_there : (j : JobName) (n : ℕ) → HasParts (setup_in b) (frame_store_of b).stored j n → HasParts (sizes (frame_store_of b)) (frame_store_of b).stored j n
  parts_there j n h = same_parts (setup_in b) (sizes (frame_store_of b)) (sym as_many_slots) refl refl (frame_store_of b).stored j n h

  -- what the frame store stores for an event is what is stored after the events with it
  pub stored_next : (e : Event) → record (frame_store_of b) { stored = store (sizes (frame_store_of b)) (state_in b) (frame_store_of b).stored e } ≡ frame_store_of (record b { events = b.events ++ e ∷ [] })
  stored_next e = ap (λ k. record (frame_store_of b) { stored = k }) (same_store (sizes (frame_store_of b)) (setup_in b) as_many_slots (state_in b) (frame_store_of b).stored e ∙ sym (stored_more (setup_in b) b.events e))
