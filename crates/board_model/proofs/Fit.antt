-- The law, by induction on the log.
use Rattle.std.proofs.Common.{◌<◌, List, [], ◌∷◌}
use Rattle.std.proofs.Math.Nat.{mod-lt}
use Rattle.job_core.specs.declared.names.JobName.TheVariants.{Logic, Think, Path, Draw}
use Rattle.job_core.specs.declared.names.Event.{Event}
use Rattle.job_core.specs.declared.names.Event.TheVariants.{Start, Resume, Ask, Spread, Hold, Finish, Emit, Stop}
use Rattle.job_core.specs.Core.{Setup, State, May, after, after_all, opening, state, IsLegalFrom, IsLegalList}
use Rattle.job_core.proofs.Shape.{Shape, keeps, opens}
use Rattle.board_model.specs.Board.{Core, core_after, core_opening, core_from, core_of}
use Rattle.board_model.specs.Law.{Fits}
use Rattle.board_model.proofs.Events.{start_fits, resume_fits, hold_fits, stop_fits}
use Rattle.board_model.proofs.Ends.{think_fits, path_fits, draw_fits, logic_fits, ask_fits, spread_fits, emit_fits}
use Rattle.board_model.proofs.Opening.{opening_fits}

pub step_fits : (s : Setup) (c : Core) (st : State) → 0 < s.slots → Shape s st → Fits s c st → (e : Event) → May s st e → Fits s (core_after s c e) (after s st e)
step_fits s c st p inv h (Start w j) m = start_fits s st inv c h w j m
step_fits s c st p inv h (Resume w j) m = resume_fits s st inv c h w j m
step_fits s c st p inv h (Spread w (Logic f)) m = spread_fits s st inv c h w f (mod-lt f p) m
step_fits s c st p inv h (Hold w (Logic f)) m = hold_fits s st inv c h w f m
step_fits s c st p inv h (Ask w (Think f a)) m = ask_fits s st inv c h w f a m
step_fits s c st p inv h (Finish w (Logic f)) m = logic_fits s st inv c h w f m
step_fits s c st p inv h (Finish w (Think f a)) m = think_fits s st inv c h w f a m
step_fits s c st p inv h (Finish w (Path f a i)) m = path_fits s st inv c h w f a i m
step_fits s c st p inv h (Finish w (Draw f b)) m = draw_fits s st inv c h w f b m
step_fits s c st p inv h (Emit f) m = emit_fits s st inv c h f (mod-lt f p) m
step_fits s c st p inv h Stop m = stop_fits s st inv c h
step_fits s c st p inv h _ m = absurd m

fits_from : (s : Setup) (c : Core) (st : State) → 0 < s.slots → Shape s st → Fits s c st → (es : List Event) → IsLegalFrom s st es → Fits s (core_from s c es) (after_all s st es)
fits_from s c st p inv h [] l = h
fits_from s c st p inv h (e ∷ es) l = fits_from s (core_after s c e) (after s st e) p (keeps s st e inv l.0.1) (step_fits s c st p inv h e l.0.1) es l.1

pub fits : (s : Setup) (log : List Event) → 0 < s.slots → IsLegalList s log → Fits s (core_of s log) (state s log)
fits s log p l = fits_from s (core_opening s) (opening s) p (opens s) (opening_fits s) log l
