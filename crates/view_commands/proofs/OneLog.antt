-- Logs of a play, and of jobs alone: the third byte says which.
use Rattle.std.proofs.Common.{◌≡◌, ◌∙◌, ℕ, List, [], ◌∷◌, ◌++◌, inl, inr, refl, ap, sym, append-nil, arith}
use Rattle.job_core.specs.declared.names.Event.{Event}
use Rattle.job_scheduler.specs.Numbers.{Numbers}
use Rattle.log_text.specs.declared.log_fault.LogFault.{LogFault}
use Rattle.log_text.specs.declared.log_fault.LogFault.TheVariants as logs
use Rattle.log_text.specs.Headings.{Heading, Newer, Older, text_under}
use Rattle.log_text.specs.Readings.{IsLog}
use Rattle.log_text.proofs.Logs.{two_logs, log_and_fault}
use Rattle.jobs_text.specs.declared.head.Head.{Head}
use Rattle.jobs_text.specs.Readings.{IsLog as IsJobsLog, IsLogOf}
use Rattle.jobs_text.specs.Text.{Piece}
use Rattle.jobs_text.proofs.Logs.{two_logs as two_jobs_logs, log_and_fault as jobs_log_and_fault}
use Rattle.trace_text.specs.declared.board.Board.{Board}
use Rattle.trace_text.specs.declared.board.Board.TheVariants.{Play, Jobs}
use Rattle.view_commands.specs.Doing.{IsLogOn, IsFaultOfBoth}

abbrev third : List ℕ → ℕ
third (a ∷ b ∷ c ∷ cs) = c
third _ = 0

third_under : (heading : Heading) (events : List Event) (rest : List ℕ) → third (text_under heading events ++ rest) ≡ 119
third_under (Newer settings) events rest = refl
third_under (Older numbers) events rest = refl

third_of_play : (log front rest : List ℕ) (settings : Numbers) (events : List Event) → log ≡ front ++ rest → IsLog front settings events → third log ≡ 119
third_of_play log front rest settings events parts is = ap third parts ∙ ap (λ t. third (t ++ rest)) is.text ∙ third_under is.heading events rest

third_of_jobs : (log front rest : List ℕ) (head : Head) (pieces : List Piece) → log ≡ front ++ rest → IsLogOf front head pieces → third log ≡ 106
third_of_jobs log front rest head pieces parts is = ap third parts ∙ ap (λ t. third (t ++ rest)) is.text ∙ refl

apart : (n : ℕ) → n ≡ 119 → n ≡ 106 → ⊥
apart n e f = omega (arith, e, f)

module _ (log : List ℕ) where
  whole : log ≡ log ++ []
  whole = sym (append-nil log)

  kinds : (settings : Numbers) (head : Head) (events further : List Event) → IsLog log settings events → IsJobsLog log head further → ⊥
  kinds settings head events further play jobs =
      apart (third log) (third_of_play log log [] settings events whole play) (third_of_jobs log log [] head jobs.pieces whole jobs.log)

  pub one_log : (board other : Board) (events further : List Event) → IsLogOn log board events → IsLogOn log other further → (board ≡ other) × (events ≡ further)
  one_log board other events further (inl a) (inl b) =
      let same = two_logs log a.0 b.0 events further a.1 b.1 in
      (a.2 ∙ ap (λ (s : Numbers). Play s.workers) same.0 ∙ sym b.2, same.1)
  one_log board other events further (inl a) (inr b) = absurd (kinds a.0 b.0 events further a.1 b.1)
  one_log board other events further (inr a) (inl b) = absurd (kinds b.0 a.0 further events b.1 a.1)
  one_log board other events further (inr a) (inr b) =
      let same = two_jobs_logs log a.0 b.0 events further a.1 b.1 in
      (a.2 ∙ ap (λ (h : Head). Jobs h.workers h.agents) same.0 ∙ sym b.2, same.1)

  pub no_fault : (board : Board) (events : List Event) (fault : LogFault) → IsLogOn log board events → IsFaultOfBoth log fault → ⊥
  no_fault board events logs.OutOfMemory on fault = fault
  no_fault board events logs.Head (inl a) fault = log_and_fault log a.0 events logs.Head a.1 fault.0
  no_fault board events logs.Head (inr a) fault = jobs_log_and_fault log a.0 events logs.Head a.1 fault.1
  no_fault board events (logs.Line n) (inl a) (inl f) = log_and_fault log a.0 events (logs.Line n) a.1 f
  no_fault board events (logs.Line n) (inl a) (inr f) =
      apart (third log) (third_of_play log log [] a.0 events whole a.1) (third_of_jobs log f.front f.rest f.head f.pieces f.parts f.log)
  no_fault board events (logs.Line n) (inr a) (inl f) =
      apart (third log) (third_of_play log f.front f.rest f.settings f.events f.parts f.log) (third_of_jobs log log [] a.0 a.1.pieces whole a.1.log)
  no_fault board events (logs.Line n) (inr a) (inr f) = jobs_log_and_fault log a.0 events (logs.Line n) a.1 f
