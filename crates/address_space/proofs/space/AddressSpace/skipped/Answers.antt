use Rattle.std.proofs.Common.{◌+◌, ◌++◌, ap, drop, arith}
use Rattle.address_space.specs.Occurrence.{ordered_from}
use Rattle.address_space.specs.SpaceWords.{space_of}
use Rattle.address_space.proofs.Ordering.{passed_over, run_passes}
use Rattle.address_space.proofs.space.AddressSpace.skipped.Goals as goal

pub leap-requires-clause-order : goal.leap-requires-clause-order
leap-requires-clause-order c = c.args.self.now.ordered c.in-Some.sheet c.in-Some.is

pub returns-clause-same : goal.returns-clause-same
returns-clause-same c test wants =
    let space = space_of c.args.self.now in
    let run = c.requires.run in
    let within = run.within in
    let n = c.args.run.length in
    ap (λ xs. xs ++ ordered_from space test (c.args.cursor.number + 1) (drop (c.args.cursor.number + 1) space.segments))
    (passed_over space test c.args.cursor.number c.args.cursor.at c.args.cursor.left n c.saturating_add.result within
    (run_passes space test c.args.cursor.number c.args.cursor.at c.args.cursor.left n _ _ wants run c.requires.absent)
    (λ h. omega (arith, c.saturating_add.ensures)))
