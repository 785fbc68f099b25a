use Rattle.std.proofs.Common.{[], refl}
use Rattle.script_streams.specs.PrintLaws.{prints_nothing, prints_then}
use Rattle.case_unpacking.proofs.FolderLemmas.{told_more}
use Rattle.case_unpacking.proofs.gdb_commands.print_more.Goals as goal

pub loop-at-init : goal.loop-at-init
loop-at-init g c = ([], prints_nothing, refl)

pub loop-at-preserved : goal.loop-at-preserved
loop-at-preserved g c =
    let told = c.loop-at.invariant in
    (_, prints_then told.1 c.print_new.ensures, told_more c.args.separator.now c.args.places.now c.loop-at.at _ told.0 _ c.loop-at-test.true told.2 refl)
