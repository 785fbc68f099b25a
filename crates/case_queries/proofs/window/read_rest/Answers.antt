use Rattle.std.proofs.Common.{true, None, Some, refl, ap, sym, subst, arith}
use Rattle.std.proofs.lemmas.Result.{err_from_is_err_and}
use Rattle.case_queries.specs.Seeing.{IsKept}
use Rattle.case_queries.specs.declared.kept_image.KeptImage.{KeptImage}
use Rattle.case_queries.proofs.FrontLemmas.{whole_is_kept}
use Rattle.case_queries.proofs.WindowLemmas.{all_seen, rest_refused, rest_sees}
use Rattle.case_queries.proofs.window.read_rest.Goals as goal

pub returns-in_err-read_up_to-clause-seen : goal.returns-in_err-read_up_to-clause-seen
returns-in_err-read_up_to-clause-seen g c before query has seen =
    let p = err_from_is_err_and c.from_residual.result c.from_residual.ensures.1 in
    rw (p.1, p.2)
    (rest_refused g.D.Disk before c.args.archive.now c.read_up_to.new.archive c.args.seq c.args.size query c.args.front c.read_up_to.new.image.items c.in_err-read_up_to.field-0.0 has seen c.in_err-read_up_to.ensures.read)

pub returns-clause-seen : goal.returns-clause-seen
returns-clause-seen g c before query has seen =
    let image = c.read_up_to.new.image.items in
    let sees = rest_sees g.D.Disk before c.args.archive.now c.read_up_to.new.archive c.args.seq c.args.size c.args.front image has seen c.in_ok-read_up_to.ensures.read (omega (arith, c.in_ok-read_up_to.ensures.long)) in
    all_seen g.D.Disk before c.read_up_to.new.archive c.args.seq query c.all_of.result image sees (ap (λ (k : KeptImage). k.image.items) c.all_of.ensures.kept) c.all_of.ensures.size c.all_of.ensures.part.0 c.all_of.ensures.part.1

pub returns-clause-kept : goal.returns-clause-kept
returns-clause-kept g c before has seen =
    let kept : KeptImage = record { seq = c.args.seq; image = c.read_up_to.new.image; is_whole = true; executables = None } in
    let image = c.read_up_to.new.image.items in
    let sees = rest_sees g.D.Disk before c.args.archive.now c.read_up_to.new.archive c.args.seq c.args.size c.args.front image has seen c.in_ok-read_up_to.ensures.read (omega (arith, c.in_ok-read_up_to.ensures.long)) in
    subst (λ (k : KeptImage). IsKept g.D.Disk c.read_up_to.new.archive (Some k)) (sym c.all_of.ensures.kept) (whole_is_kept g.D.Disk before c.read_up_to.new.archive c.args.seq kept refl refl sees)
