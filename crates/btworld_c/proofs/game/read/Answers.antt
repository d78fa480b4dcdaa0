use Rattle.std.proofs.Common.{Option, sym, subst}
use Rattle.std.specs.Prelude.{IsSomeAnd}
use Rattle.std.specs.Fn.{FnOnceReturnsAt}
use Rattle.stepping.specs.Played.{Played}
use Rattle.btworld_c.proofs.game.read.Goals as goal

pub returns-clause-told : goal.returns-clause-told
returns-clause-told g c =
    subst (λ (held : Option Played). IsSomeAnd held (λ p. FnOnceReturnsAt g.F.FnOnce c.args.reader p c.reader-found.result)) (sym c.in_ok-held.ensures.some)
    (c.deref.result, c.reader-found.ensures, c.deref.ensures)
