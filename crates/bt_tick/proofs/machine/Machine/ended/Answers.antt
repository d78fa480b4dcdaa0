use Rattle.std.proofs.Common.{◌≡◌, ap, ◌∙◌, arith}
use Rattle.bt_nodes.specs.declared.node.Status.TheVariants.{Success, Failure}
use Rattle.bt_nodes.specs.Plain.{plain, plains, Seq, Fallback}
use Rattle.bt_nodes.specs.Sizes.{count}
use Rattle.bt_nodes.proofs.Views.{plain-Seq, plain-Fallback, plain-Par, plain-SeqStar, plain-FallbackStar}
use Rattle.bt_nodes.proofs.Forests.{count-plains}
use Rattle.game_rules.specs.Tick.{gives, verdict}
use Rattle.bt_tick.specs.Machine.{opened, with_parts}
use Rattle.bt_tick.proofs.Leaving.{ended_line, ended_star, ended_all}
use Rattle.bt_tick.proofs.machine.Machine.ended.Goals as goal

pub returns-in-Seq-clause-keeps : goal.returns-in-Seq-clause-keeps
returns-in-Seq-clause-keeps g c v s =
    ended_line v (opened c.args.frame) (with_parts c.args.self.now.memory c.args.self.now.wants.items s) Seq (plains c.in-Seq.field-0.items) (ap plain c.in-Seq.is ∙ plain-Seq c.in-Seq.field-0) c.requires.none_left

pub returns-in-Fallback-clause-keeps : goal.returns-in-Fallback-clause-keeps
returns-in-Fallback-clause-keeps g c v s =
    ended_line v (opened c.args.frame) (with_parts c.args.self.now.memory c.args.self.now.wants.items s) Fallback (plains c.in-Fallback.field-0.items) (ap plain c.in-Fallback.is ∙ plain-Fallback c.in-Fallback.field-0) c.requires.none_left

pub returns-in-Par-clause-keeps : goal.returns-in-Par-clause-keeps
returns-in-Par-clause-keeps g c v s =
    ended_all v (opened c.args.frame) (with_parts c.args.self.now.memory c.args.self.now.wants.items s) c.in-Par.least (plains c.in-Par.children.items) c.par_status.result (ap plain c.in-Par.is ∙ plain-Par c.in-Par.least c.in-Par.children) c.requires.none_left
    (c.par_status.ensures ∙ ap (λ n. verdict c.in-Par.least n c.args.frame.successes c.args.frame.failures) (let n : c.len.result ≡ count (plains c.in-Par.children.items) = omega (arith, c.len.ensures, count-plains c.in-Par.children.items) in n))

pub returns-in-SeqStar-clause-keeps : goal.returns-in-SeqStar-clause-keeps
returns-in-SeqStar-clause-keeps g c v s =
    ap (λ m. gives Success (with_parts m c.args.self.now.wants.items s)) c.set.ensures
    ∙ ended_star v (opened c.args.frame) (with_parts c.args.self.now.memory c.args.self.now.wants.items s) Seq (plains c.in-SeqStar.field-0.items) (ap plain c.in-SeqStar.is ∙ plain-SeqStar c.in-SeqStar.field-0) c.requires.none_left

pub returns-in-FallbackStar-clause-keeps : goal.returns-in-FallbackStar-clause-keeps
returns-in-FallbackStar-clause-keeps g c v s =
    ap (λ m. gives Failure (with_parts m c.args.self.now.wants.items s)) c.set-in-FallbackStar.ensures
    ∙ ended_star v (opened c.args.frame) (with_parts c.args.self.now.memory c.args.self.now.wants.items s) Fallback (plains c.in-FallbackStar.field-0.items) (ap plain c.in-FallbackStar.is ∙ plain-FallbackStar c.in-FallbackStar.field-0) c.requires.none_left
