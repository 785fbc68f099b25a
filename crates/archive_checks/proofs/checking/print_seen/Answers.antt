use Rattle.std.proofs.Common.{[]}
use Rattle.script_streams.specs.PrintLaws.{prints_nothing}
use Rattle.archive_checks.proofs.CheckLemmas.{none_seen}
use Rattle.archive_checks.proofs.checking.print_seen.Goals as goal

pub returns-then-not-sees_images-clause-states : goal.returns-then-not-sees_images-clause-states
returns-then-not-sees_images-clause-states g c = ([], none_seen g.D.Disk c.args.archive.now c.args.sees_images c.if-not-sees_images.true, prints_nothing)
