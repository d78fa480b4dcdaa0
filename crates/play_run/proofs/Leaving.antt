-- What a worker's thread takes along may be sent to it.
use mathlib.Core.List.{[], ◌∷◌}
use mir.Syntax.{Ty, Sym}
use denote.RattleType.{RattleType}
use denote.Exit.{Kept}
use denote.Ref.{NamedLft}
use denote.Param.{param, arg}
use denote.Param.Send.{IsSend, IsSync, sendable, param_send, arg_send}
use denote.Param.SendFields.{declared_send, as_row_send}
use denote.Struct.Field.{row_field, shr_ref_field, u32-field}
use denote.Struct.Tuple.{TupleAt, type_at}
use Rattle.std.proofs.Crossing.{crosses}
use Rattle.std.proofs.sync.ledger.Share.TheSendSync as share_crossing
use Rattle.std.specs.declared.sync.ledger.Ledger as ledger
use Rattle.std.specs.contracts.sync.ledger.Share as share
use Rattle.std.specs.contracts.alloc.Global as global
use Rattle.run_shared.specs.declared.ledger.RunLedger as run_ledger
use Rattle.band_mail.proofs.putter.Putter.TheSendSync as putter_crossing
use Rattle.band_mail.specs.contracts.putter.Putter as putter
use Rattle.frame_state.proofs.Crossing as params
use Rattle.run_shared.specs.contracts.run_band.RunBand as run_band
use Rattle.game_session.specs.contracts.session.Session as session
use Rattle.run_shared.specs.contracts.shared.Shared as shared
use Rattle.run_shared.proofs.Sends as shares
use Rattle.run_shared.specs.contracts.worked.Worked as worked
use Rattle.play_run.specs.contracts.workers.WorkerStart as start

pub session_sync : IsSync session.the_row
session_sync = params.session

pub shared_lent : (κ : NamedLft) (L M D : RattleType) (p : run_ledger.Ghosts L.Denot) (l : ledger.Ghosts L.Denot) (m : ledger.Ghosts M.Denot) (d : ledger.Ghosts D.Denot) → IsSync (shared.the_row κ L M D p l m d)
shared_lent κ L M D p l m d = shares.shared_sync κ L M D p l m d

runtime_send : (κ : NamedLft) (R : RattleType) → IsSync (param 5 R) → IsSend ((shr_ref_field κ (param 5 R) tt).row)
runtime_send κ R sR = search (sR, sendable)

alloc_send : IsSend global.the_row
alloc_send = search (crosses, sendable) depth 40

session_send : (κ : NamedLft) → IsSend ((shr_ref_field κ session.the_row tt).row)
session_send κ = search (session_sync, sendable)

shared_send : (κ κd : NamedLft) (L M D : RattleType) (p : run_ledger.Ghosts L.Denot) (l : ledger.Ghosts L.Denot) (m : ledger.Ghosts M.Denot) (d : ledger.Ghosts D.Denot)
    → IsSend ((shr_ref_field κ (shared.the_row κd (param 1 L) (param 2 M) (param 3 D) p l m d) tt).row)
shared_send κ κd L M D p l m d = search (shares.shared_sync κd (param 1 L) (param 2 M) (param 3 D) p l m d, sendable)

gate_send : (κ : NamedLft) (G : RattleType) → IsSync (param 4 G) → IsSend ((shr_ref_field κ (param 4 G) tt).row)
gate_send κ G sG = search (sG, sendable)

worker_number_send : IsSend u32-field.row
worker_number_send = search sendable

share_send : (L : RattleType) (l : ledger.Ghosts L.Denot) → IsSend (param 1 L) → IsSend (share.the_row (param 1 L) l)
share_send L l sL = search (share_crossing.the_send, sL, crosses, sendable) depth 40

draws_send : (D : RattleType) (d : ledger.Ghosts D.Denot) → IsSend (param 3 D) → IsSend (share.the_row (param 3 D) d)
draws_send D d sD = search (share_crossing.the_send, sD, crosses, sendable) depth 40

putter_send : (κ : NamedLft) (L : RattleType) (p : run_ledger.Ghosts L.Denot) (l : ledger.Ghosts L.Denot) → IsSend (putter.the_row (run_band.the_row κ (param 1 L) p l))
putter_send κ L p l = search (shares.run_band_send κ (param 1 L) p l, putter_crossing.the_send, crosses, sendable) depth 40

start_send : (κh κd : NamedLft) (L M D : RattleType) (p : run_ledger.Ghosts L.Denot) (l : ledger.Ghosts L.Denot) (m : ledger.Ghosts M.Denot) (d : ledger.Ghosts D.Denot)
    → IsSend (param 1 L) → IsSend (param 3 D) → IsSend (start.the_row κh κd (param 1 L) (param 2 M) (param 3 D) p l m d)
start_send κh κd L M D p l m d sL sD =
    declared_send (start.the_type κh κd (param 1 L) (param 2 M) (param 3 D) p l m d)
    (as_row_send (shr_ref_field κh (shared.the_row κd (param 1 L) (param 2 M) (param 3 D) p l m d) tt) (shared_send κh κd L M D p l m d), (share_send L l sL, (draws_send D d sD, (putter_send κd L p l, tt))))

-- what a worker's thread hands back
pub worked_send : (κ : NamedLft) (L D : RattleType) (p : run_ledger.Ghosts L.Denot) (l : ledger.Ghosts L.Denot) (d : ledger.Ghosts D.Denot) → IsSend (param 1 L) → IsSend (param 3 D)
    → IsSend (worked.the_row κ (param 1 L) (param 3 D) p l d)
worked_send κ L D p l d sL sD =
    declared_send (worked.the_type κ (param 1 L) (param 3 D) p l d) (share_send L l sL, (draws_send D d sD, (putter_send κ L p l, (search (crosses, sendable) depth 40, tt))))

all_send : (ν : Sym) (A B C D E F : RattleType) → IsSend A → IsSend B → IsSend C → IsSend D → IsSend E → IsSend F
    → IsSend (TupleAt ν (A ∷ B ∷ C ∷ D ∷ E ∷ F ∷ []))
all_send ν A B C D E F a b c d e f =
    declared_send (type_at ν (A ∷ B ∷ C ∷ D ∷ E ∷ F ∷ []))
    (as_row_send (row_field A) a, (as_row_send (row_field B) b, (as_row_send (row_field C) c, (as_row_send (row_field D) d, (as_row_send (row_field E) e, (as_row_send (row_field F) f, tt))))))

pub worker_send : (δ : Ty) (k : Kept) (ν : Sym) (κr κs κh κd κg : NamedLft) (L M D G R : RattleType) (p : run_ledger.Ghosts L.Denot) (l : ledger.Ghosts L.Denot) (m : ledger.Ghosts M.Denot) (d : ledger.Ghosts D.Denot)
    → IsSend (param 1 L) → IsSend (param 3 D) → IsSync (param 4 G) → IsSync (param 5 R)
    → IsSend (param 2 (arg δ k (TupleAt ν ((shr_ref_field κr (param 5 R) tt).row ∷ global.the_row ∷ (shr_ref_field κs session.the_row tt).row ∷ start.the_row κh κd (param 1 L) (param 2 M) (param 3 D) p l m d ∷ (shr_ref_field κg (param 4 G) tt).row ∷ u32-field.row ∷ []))))
worker_send δ k ν κr κs κh κd κg L M D G R p l m d sL sD sG sR =
    param_send 2 _ (arg_send δ k _ (all_send ν _ _ _ _ _ _ (runtime_send κr R sR) alloc_send (session_send κs) (start_send κh κd L M D p l m d sL sD) (gate_send κg G sG) worker_number_send))
