-- The Putter that is drained next, the queue of its worker, and that queue's pass.
use Rattle.std.proofs.Common.{◌≡◌, ◌<◌, Option, List, [], ◌∷◌, ◌++◌, length, get_or, ap, sym, ◌∙◌, arith}
use Rattle.std.proofs.lemmas.List.{get_or-map, length-map}
use Rattle.crossbeam_queue.specs.declared.array_queue.Doing.{Doing}
use Rattle.crossbeam_queue.specs.declared.array_queue.Slotted.{Slotted}
use Rattle.crossbeam_queue.specs.Passes.{Pass}
use Rattle.band_mail.specs.declared.relay.PassLog.{PassLog}
use Rattle.band_mail.specs.Mails.{Putting, AreAllPuttersOf, putters_of}
use Rattle.band_mail.specs.Queues.{queue_name, queue_names, pass_name, pass_names}
use Rattle.band_mail.proofs.Named.{as_many}
use Rattle.band_mail.proofs.AnyOrder.{one_of_all}

module _ {T Q A : Type 0} (queues : List (Slotted (Option T) (Doing T (PassLog T)) Q A)) (passes : List (Pass T (PassLog T))) where
  pub record IsNext (all left gone : List (Putting T)) (p : Putting T) : Type 0 where
    pub split : all ≡ (left ++ p ∷ []) ++ gone
    pub new : putters_of p.worker gone ≡ 0
    pub queued : p.worker < length queues
    pub passed : p.worker < length passes
    pub puts : (q : Slotted (Option T) (Doing T (PassLog T)) Q A) → q ≡ get_or queues p.worker q → p.queue ≡ queue_name q

  pub is_next : {all now left gone : List (Putting T)} {p q : Putting T} → AreAllPuttersOf (queue_names queues) all → pass_names passes ≡ queue_names queues
      → all ≡ now ++ gone → now ≡ left ++ q ∷ [] → p ≡ q → IsNext all left gone p
  is_next {all} {now} {left} {gone} {p} {q} are names before popped is =
      let split : all ≡ (left ++ p ∷ []) ++ gone = before ∙ ap (λ (l : List (Putting T)). l ++ gone) (popped ∙ ap (λ (r : Putting T). left ++ r ∷ []) (sym is)) in
      let mine = one_of_all (queue_names queues) all left gone p are split in
      let queued : p.worker < length queues = omega (arith, mine.0.0, length-map queues queue_name) in
      record {
        split = split;
        new = mine.1;
        queued = queued;
        passed = omega (arith, queued, as_many pass_name queue_name passes queues names);
        puts = λ queue at. sym mine.0.1 ∙ get_or-map queue_name queues p.worker queue p.queue queued ∙ ap queue_name (sym at);
      }
