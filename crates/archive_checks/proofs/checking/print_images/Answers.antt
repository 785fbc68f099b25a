use Rattle.std.proofs.Common.{slice_get, ap, ◌∙◌, refl, arith}
use Rattle.std.proofs.lemmas.List.{drop_all}
use Rattle.std.proofs.lemmas.Result.{err_from_is_err_and}
use Rattle.intake.specs.Parts.{state_of}
use Rattle.intake.specs.QuietLaws.{quiet_none, quiet_then}
use Rattle.intake.specs.State.{ArchiveState}
use Rattle.script_streams.specs.Printing.{sink}
use Rattle.archive_checks.proofs.CheckLemmas.{all_so_far, next_case, none_so_far, one_more, one_unread}
use Rattle.archive_checks.proofs.checking.print_images.Goals as goal

pub loop-place-init : goal.loop-place-init
loop-place-init g c = record {
  quiet = quiet_none g.D.Disk c.args.archive.now.disk (g.met.D.Disk.only_now c.args.archive.now.disk);
  runs = c.requires.runs;
  state = refl;
  told = none_so_far g.D.Disk c.args.archive.now (state_of c.args.archive.now).cases (sink g.O.Output c.args.reply.now);
}

pub loop-place-preserved : goal.loop-place-preserved
loop-place-preserved g c =
    let old = c.args.archive.now in
    let now = c.loop-place.archive in
    let cases = (state_of old).cases in
    let i = c.loop-place.place in
    let so_far = c.loop-place.invariant in
    let next = next_case g.D.Disk old cases (sink g.O.Output c.args.reply.now) i (omega (arith, c.loop-place-test.true, c.requires.all)) in
    let here = ap (λ (s : ArchiveState). slice_get s.cases i) so_far.state ∙ next.1 in
    let told = c.in_ok-see_image.ensures.states next.0 here in
    record {
      quiet = quiet_then g.D.Disk old.disk now.disk c.see_image.new.archive.disk so_far.quiet c.in_ok-see_image.ensures.quiet;
      runs = c.in_ok-see_image.ensures.runs;
      state = c.in_ok-see_image.ensures.state ∙ so_far.state;
      told = one_more g.D.Disk old cases (sink g.O.Output c.args.reply.now) now c.see_image.new.archive i (sink g.O.Output c.loop-place.reply) (sink g.O.Output c.see_image.new.reply) next.0 told.0 next.2 so_far.told told.2 told.1;
    }

pub returns-in_err-see_image-clause-states : goal.returns-in_err-see_image-clause-states
returns-in_err-see_image-clause-states g c =
    let p = err_from_is_err_and c.from_residual.result c.from_residual.ensures.1 in
    let old = c.args.archive.now in
    let now = c.loop-place.archive in
    let cases = (state_of old).cases in
    let i = c.loop-place.place in
    let so_far = c.loop-place.invariant in
    let next = next_case g.D.Disk old cases (sink g.O.Output c.args.reply.now) i (omega (arith, c.loop-place-test.true, c.requires.all)) in
    let here = ap (λ (s : ArchiveState). slice_get s.cases i) so_far.state ∙ next.1 in
    let told = c.in_err-see_image.ensures.states next.0 here in
    rw (p.1, p.2) (one_unread g.D.Disk old cases (sink g.O.Output c.args.reply.now) now c.see_image.new.archive i (sink g.O.Output c.loop-place.reply) (sink g.O.Output c.see_image.new.reply) next.0 told.0 next.2 so_far.told told.2 c.in_err-see_image.field-0.0 told.1)

pub returns-in_err-see_image-clause-quiet : goal.returns-in_err-see_image-clause-quiet
returns-in_err-see_image-clause-quiet g c = quiet_then g.D.Disk c.args.archive.now.disk c.loop-place.archive.disk c.see_image.new.archive.disk c.loop-place.invariant.quiet c.in_err-see_image.ensures.quiet

pub returns-clause-states : goal.returns-clause-states
returns-clause-states g c =
    let old = c.args.archive.now in
    let cases = (state_of old).cases in
    all_so_far g.D.Disk old cases (sink g.O.Output c.args.reply.now) c.loop-place.archive c.loop-place.place (sink g.O.Output c.loop-place.reply) (drop_all c.loop-place.place cases (omega (arith, c.loop-place-test.false, c.requires.all))) c.loop-place.invariant.told

pub returns-clause-quiet : goal.returns-clause-quiet
returns-clause-quiet g c = c.loop-place.invariant.quiet
