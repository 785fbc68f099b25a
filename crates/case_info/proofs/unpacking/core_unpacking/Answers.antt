use Rattle.std.proofs.Common.{sym, subst}
use Rattle.elf_view.specs.declared.faults.Want.TheVariants.{Core}
use Rattle.case_info.specs.Fronts.{IsFront}
use Rattle.case_info.proofs.ScreenLemmas.{front_short, has_still}
use Rattle.case_info.proofs.unpacking.core_unpacking.Goals as goal

pub unpacking_by_front-requires-clause-has : goal.unpacking_by_front-requires-clause-has
unpacking_by_front-requires-clause-has g c =
    let seen = c.in_ok-front.ensures in
    has_still g.D.Disk c.args.archive.now c.front_of.new.archive c.args.seq c.in_ok-size.size seen.0 c.in_ok-size.ensures seen.1

pub unpacking_by_front-requires-clause-short : goal.unpacking_by_front-requires-clause-short
unpacking_by_front-requires-clause-short g c =
    let seen = c.in_ok-front.ensures in
    front_short g.D.Disk c.args.archive.now c.front_of.new.archive c.args.seq c.in_ok-size.size seen.0 c.in_ok-size.ensures seen.1 c.deref.result.now (subst (λ b. IsFront Core b seen.0) (sym c.deref.ensures.value) seen.2)

pub returns : goal.returns
returns g c =
    let seen = c.in_ok-front.ensures in
    c.in_ok-unpacking_by_front.ensures c.args.archive.now c.in_ok-size.ensures (seen.0, seen.1, subst (λ b. IsFront Core b seen.0) (sym c.deref.ensures.value) seen.2)
