use Rattle.std.proofs.Common.{rules, ◌≡◌, true, false, leb}
use Rattle.std.proofs.lemmas.List.Sorted.{IsPartitionPoint-from_clause, IsPartitionedBy-leb}
use Rattle.std.specs.List.Sorted.{IsPartitionPoint, IsNonDecreasingBy}
use Rattle.game_rules.specs.declared.change.Change.{Change}
use Rattle.game_session.proofs.Rising.{signals_front}
use Rattle.game_session.proofs.script.Script.made_by.Goals as goal

pub returns-clause-made : goal.returns-clause-made
returns-clause-made c =
    let rising : IsNonDecreasingBy (λ (x : Change). x.frame) c.deref.result.now = rw c.deref.ensures.value c.self.invariant.rising in
    let parted : IsPartitionPoint (λ (x : Change). leb x.frame c.args.frame ≡ true) (λ x. leb x.frame c.args.frame ≡ false) c.deref.result.now c.partition_point.result =
    IsPartitionPoint-from_clause (λ x. leb x.frame c.args.frame) _ _ c.partition_point.ensures.partitioned
    (IsPartitionedBy-leb (λ x. x.frame) c.deref.result.now c.args.frame rising) (λ a r f' h. search rules) in
    rw (← c.self.view_is, ← c.deref.ensures.value) (signals_front c.deref.result.now c.args.frame c.partition_point.result parted c.partition_point.ensures.bound)
