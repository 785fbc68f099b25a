use Rattle.std.proofs.Common.{◌-◌, length, subst, arith, Some, None}
use Rattle.memchr.specs.Find.{FindsNeedle}
use Rattle.address_space.specs.Occurrence.{occurs}
use Rattle.address_space.proofs.Finding.{stands, stands_not, come_passed, come_found}
use Rattle.address_space.proofs.find.search_run.Goals as goal

pub returns-in-Some-clause-same : goal.returns-in-Some-clause-same
returns-in-Some-clause-same c space p =
    let needle = c.args.needle.now in
    let here = c.args.cursor.here.now in
    let k = c.in-Some.place in
    let found : FindsNeedle here needle 0 (Some k) = subst (λ n. FindsNeedle here n 0 (Some k)) c.requires.finds c.in-Some.ensures in
    let fits = found.1.fits in
    let some = c.requires.some in
    come_found space (occurs space needle) c.args.cursor c.passed.result p c.passed.ensures.number k (omega arith) c.passed.ensures.left c.passed.ensures.at
    (λ j h. stands_not space needle here c.args.cursor.at p.values j (omega arith) (found.0.before j (omega arith) h))
    (stands space needle here c.args.cursor.at p.values k found.1)

pub returns-in-None-clause-same : goal.returns-in-None-clause-same
returns-in-None-clause-same c space p =
    let needle = c.args.needle.now in
    let here = c.args.cursor.here.now in
    let found : FindsNeedle here needle 0 None = subst (λ n. FindsNeedle here n 0 None) c.requires.finds c.in-None.ensures in
    let some = c.requires.some in
    let room = c.requires.room in
    come_passed space (occurs space needle) c.args.cursor c.passed-in-None.result p c.passed-in-None.ensures.number (length here - (length needle - 1)) (omega arith) c.passed-in-None.ensures.left c.passed-in-None.ensures.at
    (λ j h. stands_not space needle here c.args.cursor.at p.values j (omega arith) (found j (omega arith) (omega arith)))
