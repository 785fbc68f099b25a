use Rattle.std.proofs.lemmas.Result.{err_from_is_err_and}
use Rattle.intake.specs.Parts.{state_of}
use Rattle.script_streams.specs.Printing.{sink}
use Rattle.archive_checks.proofs.CheckLemmas.{line_told, looked_up, one_not, one_told}
use Rattle.archive_checks.proofs.checking.see_image.Goals as goal

pub returns-in_err-image-clause-states : goal.returns-in_err-image-clause-states
returns-in_err-image-clause-states g c case found =
    let p = err_from_is_err_and c.from_residual-in_err-image.result c.from_residual-in_err-image.ensures.1 in
    let is = looked_up c.case_at.result c.in_ok-seq.field-0 c.in-Some.seq c.in-Some.kind (state_of c.args.archive.now).cases c.args.place case c.case_at.ensures c.in_ok-seq.was c.in-Some.is found in
    rw (p.1, p.2) (one_not g.D.Disk c.args.archive.now c.image.new.self c.in-Some.seq c.in-Some.kind case c.in_err-image.field-0.0 (sink g.O.Output c.args.reply.now) is c.in_err-image.ensures)

pub returns-clause-states : goal.returns-clause-states
returns-clause-states g c case found =
    let is = looked_up c.case_at.result c.in_ok-seq.field-0 c.in-Some.seq c.in-Some.kind (state_of c.args.archive.now).cases c.args.place case c.case_at.ensures c.in_ok-seq.was c.in-Some.is found in
    one_told g.D.Disk c.args.archive.now c.image.new.self c.in-Some.seq c.in-Some.kind case c.in_ok-image.image (sink g.O.Output c.args.reply.now) (sink g.O.Output c.print_verdict.new.reply) c.deref.result.now is c.deref.ensures.value c.in_ok-image.ensures
    (line_told c.in-Some.seq c.in-Some.kind c.deref.result.now c.verdict_of.result (sink g.O.Output c.args.reply.now) (sink g.O.Output c.print_verdict.new.reply) c.verdict_of.ensures c.print_verdict.ensures)
