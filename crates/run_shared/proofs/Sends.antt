-- What the threads of a run share may be sent to another thread, or lent to one.
use denote.RattleType.{RattleType}
use denote.Ref.{NamedLft}
use denote.Param.Send.{IsSend, IsSync, sendable}
use denote.Param.SendFields.{declared_send, declared_sync}
use Rattle.std.proofs.Crossing.{crosses}
use Rattle.std.proofs.sync.Mutex.TheSendSync as mutex
use Rattle.std.proofs.sync.ledger.Book.TheSendSync as book
use Rattle.std.specs.declared.sync.ledger.Ledger as ledger
use Rattle.std.specs.contracts.sync.Mutex as lock
use Rattle.std.specs.contracts.marker.PhantomData as PhantomData
use Rattle.task_board.proofs.Crossing.{board}
use Rattle.frame_state.proofs.Crossing.{session, band_out}
use Rattle.frame_state.specs.contracts.band_out.BandOut as BandOut
use Rattle.band_mail.proofs.mail.BandMail.TheSendSync as mail_crossing
use Rattle.band_mail.specs.contracts.mail.BandMail as mail
use Rattle.run_shared.specs.declared.ledger.RunLedger as run_ledger
use Rattle.run_shared.specs.contracts.board.SharedBoard as SharedBoard
use Rattle.run_shared.specs.contracts.run_band.RunBand as RunBand
use Rattle.run_shared.specs.contracts.shared.Shared as Shared

band_out_sync : (κ : NamedLft) → IsSync (BandOut.the_row κ)
band_out_sync κ = search (session, sendable, crosses) depth 40

nothing_send : (L : RattleType) → IsSend (PhantomData.the_row L)
nothing_send L = search (crosses, sendable)

nothing_sync : (L : RattleType) → IsSync (PhantomData.the_row L)
nothing_sync L = search (crosses, sendable)

module _ (κ : NamedLft) (L : RattleType) (p : run_ledger.Ghosts L.Denot) (l : ledger.Ghosts L.Denot) where
  pub run_band_send : IsSend (RunBand.the_row κ L p l)
  run_band_send = declared_send (RunBand.the_type κ L p l) (band_out κ, (nothing_send L, tt))

  pub run_band_sync : IsSync (RunBand.the_row κ L p l)
  run_band_sync = declared_sync (RunBand.the_type κ L p l) (band_out_sync κ, (nothing_sync L, tt))

module _ (κ : NamedLft) (L M D : RattleType) (p : run_ledger.Ghosts L.Denot) (l : ledger.Ghosts L.Denot) (m : ledger.Ghosts M.Denot) (d : ledger.Ghosts D.Denot) where
  board_send : IsSend (SharedBoard.the_row κ L M D p l m d)
  board_send = search (board, book.the_send, crosses, sendable) depth 60 fits 20000

  lock_sync : IsSync (lock.the_row (SharedBoard.the_row κ L M D p l m d))
  lock_sync = search (board_send, mutex.the_sync, crosses, sendable) depth 60 fits 20000

  mail_sync : IsSync (mail.the_row (RunBand.the_row κ L p l))
  mail_sync = search (run_band_send κ L p l, run_band_sync κ L p l, mail_crossing.the_sync, crosses, sendable) depth 60 fits 20000

  pub shared_sync : IsSync (Shared.the_row κ L M D p l m d)
  shared_sync = search (lock_sync, mail_sync, crosses, sendable) depth 60 fits 20000
