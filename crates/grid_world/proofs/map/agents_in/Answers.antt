use Rattle.grid_world.specs.Map.{agent_in}
use Rattle.grid_world.proofs.CountUp.{made_one, made_all}
use Rattle.grid_world.proofs.map.agents_in.Goals as goal

pub letters-preserved : goal.letters-preserved
letters-preserved c =
    let l = c.letters in
    rw (c.in_ok-push_some.ensures, c.agent_in.ensures)
    (made_one (agent_in c.args.width c.args.marks.now) l.k 26 l.agents.items _ c.letters-test.true l.invariant)

pub returns : goal.returns
returns c = made_all (agent_in c.args.width c.args.marks.now) c.letters.k 26 c.letters.agents.items _ c.letters-test.false c.letters.invariant
