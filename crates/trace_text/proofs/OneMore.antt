-- One more lane.
use Rattle.std.proofs.Common.{◌≡◌, ◌+◌, ℕ, suc, List, ◌++◌, ◌∙◌, ap, sym, append_assoc, arith}
use Rattle.trace_text.specs.Trace.{lane_text, workers_text}

workers_more : (worker : ℕ) → workers_text (worker + 1) ≡ workers_text worker ++ lane_text (worker + 1) worker
workers_more worker = let e : worker + 1 ≡ suc worker = omega arith in ap workers_text e

pub lane_more : (old text new : List ℕ) (thread worker : ℕ) → text ≡ old ++ workers_text worker → thread ≡ worker + 1
    → new ≡ text ++ lane_text thread worker → new ≡ old ++ workers_text (worker + 1)
lane_more old text new thread worker front lane more =
    more ∙ ap (λ t. t ++ lane_text thread worker) front ∙ ap (λ n. (old ++ workers_text worker) ++ lane_text n worker) lane
    ∙ append_assoc old (workers_text worker) (lane_text (worker + 1) worker) ∙ ap (λ t. old ++ t) (sym (workers_more worker))
