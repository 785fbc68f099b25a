use Rattle.std.proofs.Common.{◌/◌, [], Ok, inr, refl, subst, sym}
use Rattle.intake.specs.QuietLaws.{quiet_none}
use Rattle.journal_layout.specs.declared.faults.OpenFault.{OpenFault}
use Rattle.archive_checks.specs.Checking.{IsDamageLine}
use Rattle.archive_checks.specs.Texts.{place_line}
use Rattle.archive_checks.proofs.CheckLemmas.{no_line, none_sent}
use Rattle.archive_checks.proofs.checking.print_damage.Goals as goal

pub returns-in_default : goal.returns-in_default
returns-in_default g c = record {
  told = ([], Ok tt, no_line c.args.fault, none_sent (g.O.Output.taken c.args.output.now) (g.O.Output.failures c.args.output.now));
  quiet = quiet_none g.D.Disk c.args.disk.now (g.met.D.Disk.only_now c.args.disk.now);
}

pub returns-in_default-shape_on-clause-told : goal.returns-in_default-shape_on-clause-told
returns-in_default-shape_on-clause-told g c = ([], Ok tt, no_line c.args.fault, none_sent (g.O.Output.taken c.args.output.now) (g.O.Output.failures c.args.output.now))

pub returns-in_default-shape_on-2-clause-told : goal.returns-in_default-shape_on-2-clause-told
returns-in_default-shape_on-2-clause-told g c = ([], Ok tt, no_line c.args.fault, none_sent (g.O.Output.taken c.args.output.now) (g.O.Output.failures c.args.output.now))

pub returns-clause-told : goal.returns-clause-told
returns-clause-told g c =
    let text = place_line (c.in-Damaged.at / 4096) c.place_of-place.result in
    (text, c.print_line.ensures.0, subst (λ (f : OpenFault). IsDamageLine f text) (sym c.in-Damaged.is) (inr (c.place_of-place.result, refl)), c.print_line.ensures.1)
