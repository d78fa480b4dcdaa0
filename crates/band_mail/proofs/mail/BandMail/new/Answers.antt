use Rattle.std.proofs.Common.{rules, ◌≡◌, ◌+◌, ◌++◌, [], ◌∷◌, ℕ, List, ap, sym, ◌∙◌, length, map, replicate}
use Rattle.std.proofs.lemmas.List.{map_push, replicate_more}
use Rattle.std.proofs.lemmas.List.Elements.{All-push}
use Rattle.crossbeam_queue.specs.Passes.{view, ruled_capacity}
use Rattle.band_mail.specs.declared.relay.PassLog.{PassLog}
use Rattle.band_mail.specs.Mails.{Putting}
use Rattle.band_mail.specs.Queues.{pass_name, queue_name, taken_by}
use Rattle.band_mail.specs.Relay.{MayTake}
use Rattle.band_mail.proofs.Named.{as_many, grown}
use Rattle.band_mail.proofs.mail.BandMail.new.Goals as goal

grown_names : {X Y N : Type 0} (f : X → N) (g : Y → N) (xs : List X) (ys : List Y) (x : X) (y : Y) → map f xs ≡ map g ys → f x ≡ g y → map f (xs ++ x ∷ []) ≡ map g (ys ++ y ∷ [])
grown_names f g xs ys x y all last = map_push f xs x ∙ ap (λ l. l ++ f x ∷ []) all ∙ ap (λ n. map g ys ++ n ∷ []) last ∙ sym (map_push g ys y)

grown_nils : {X B : Type 0} (f : X → List B) (xs : List X) (x : X) (n : ℕ) → map f xs ≡ replicate n [] → f x ≡ [] → map f (xs ++ x ∷ []) ≡ replicate (n + 1) []
grown_nils f xs x n all last = map_push f xs x ∙ ap (λ l. l ++ f x ∷ []) all ∙ ap (λ e. replicate n [] ++ e ∷ []) last ∙ replicate_more n []

pub loop-worker-preserved : goal.loop-worker-preserved
loop-worker-preserved g c =
    let inv = c.loop-worker.invariant in
    let queues = c.loop-worker.queues.items in
    let putters = c.loop-worker.putters.items in
    let passes = c.loop-worker.passes.items in
    let queue = c.in_ok-queue.queue in
    let takes = c.in_ok-queue.takes in
    let made = c.in_ok-queue.ensures in
    let name_of = λ (p : Putting _). p.queue in
    let worker : length putters ≡ c.loop-worker.worker = as_many name_of queue_name putters queues inv.putters ∙ sym c.loop-worker.queues.ok.0 ∙ inv.queues in
    let none_put = ap (λ (v : PassLog _). v.put) made.3 in
    let may_take = ap (λ (v : PassLog _). v.takes) made.4 in
    let none_taken = ap (λ (v : PassLog _). v.taken) made.4 in
    let putter : Putting _ = record { worker = c.loop-worker.worker; queue = pass_name c.in_ok-queue.puts; put = (view c.in_ok-queue.puts).put } in
    rw (c.in_ok-push.ensures.items, c.in_ok-push-2.ensures.items, c.in_ok-push-3.ensures.items)
    (record {
      queues = search rules;
      putters = grown_names name_of queue_name putters queues putter queue inv.putters made.1.0;
      passes = grown_names pass_name queue_name passes queues takes queue inv.passes made.2.0;
      order = grown (λ k (p : Putting _). p.worker ≡ k) putters putter inv.order (sym worker);
      may = All-push MayTake passes takes inv.may (made.2.1, may_take);
      capacity = All-push (λ q. ruled_capacity q ≡ c.args.capacity) queues queue inv.capacity made.0;
      put = grown_nils (λ (p : Putting _). p.put) putters putter c.loop-worker.worker inv.put none_put;
      taken = grown_nils taken_by passes takes c.loop-worker.worker inv.taken none_taken;
    })
