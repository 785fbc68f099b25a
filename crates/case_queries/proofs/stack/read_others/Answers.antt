use Rattle.std.proofs.Common.{true, None, Some, refl, ap, sym, subst, arith}
use Rattle.std.proofs.lemmas.Result.{err_from_is_err_and}
use Rattle.elf_view.specs.declared.faults.Want.TheVariants.{Core}
use Rattle.case_queries.specs.Seeing.{IsKept}
use Rattle.case_queries.specs.declared.kept_image.KeptImage.{KeptImage}
use Rattle.case_queries.proofs.FrontLemmas.{whole_is_kept}
use Rattle.case_queries.proofs.WindowLemmas.{all_read, all_seen, enough_cut, seen_reads}
use Rattle.case_queries.proofs.stack.read_others.Goals as goal

pub returns-in_err-read_to_part-clause-seen : goal.returns-in_err-read_to_part-clause-seen
returns-in_err-read_to_part-clause-seen g c before mid query has seen range =
    let p = err_from_is_err_and c.from_residual.result c.from_residual.ensures.1 in
    let front = c.args.front.image.items in
    let reads = seen_reads g.D.Disk before mid c.args.seq seen.0 front seen.1 (enough_cut Core front seen.0 seen.2) in
    rw (p.1, p.2) (c.in_err-read_to_part.ensures.reads before mid has reads range)

pub returns-in_err-read_on-clause-seen : goal.returns-in_err-read_on-clause-seen
returns-in_err-read_on-clause-seen g c before mid query has seen range =
    let p = err_from_is_err_and c.from_residual-in_err-read_on.result c.from_residual-in_err-read_on.ensures.1 in
    let front = c.args.front.image.items in
    let reads = seen_reads g.D.Disk before mid c.args.seq seen.0 front seen.1 (enough_cut Core front seen.0 seen.2) in
    rw (p.1, p.2) (c.in_err-read_on.ensures.reads before has (c.in_ok-read_to_part.ensures.reads before mid has reads range))

pub returns-clause-seen : goal.returns-clause-seen
returns-clause-seen g c before mid query has seen range =
    let front = c.args.front.image.items in
    let reads = seen_reads g.D.Disk before mid c.args.seq seen.0 front seen.1 (enough_cut Core front seen.0 seen.2) in
    let image = c.read_on.new.image.items in
    let sees = all_read g.D.Disk before c.read_on.new.archive c.args.seq c.args.size image has (c.in_ok-read_on.ensures.reads before has (c.in_ok-read_to_part.ensures.reads before mid has reads range)) (omega (arith, c.in_ok-read_on.ensures.long)) in
    all_seen g.D.Disk before c.read_on.new.archive c.args.seq query c.all_of.result image sees (ap (λ (k : KeptImage). k.image.items) c.all_of.ensures.kept) c.all_of.ensures.size c.all_of.ensures.part.0 c.all_of.ensures.part.1

pub returns-clause-kept : goal.returns-clause-kept
returns-clause-kept g c before mid has seen range =
    let kept : KeptImage = record { seq = c.args.seq; image = c.read_on.new.image; is_whole = true; executables = None } in
    let front = c.args.front.image.items in
    let reads = seen_reads g.D.Disk before mid c.args.seq seen.0 front seen.1 (enough_cut Core front seen.0 seen.2) in
    let image = c.read_on.new.image.items in
    let sees = all_read g.D.Disk before c.read_on.new.archive c.args.seq c.args.size image has (c.in_ok-read_on.ensures.reads before has (c.in_ok-read_to_part.ensures.reads before mid has reads range)) (omega (arith, c.in_ok-read_on.ensures.long)) in
    subst (λ (k : KeptImage). IsKept g.D.Disk c.read_on.new.archive (Some k)) (sym c.all_of.ensures.kept) (whole_is_kept g.D.Disk before c.read_on.new.archive c.args.seq kept refl refl sees)
