use Rattle.std.proofs.Common.{[], codes, Ok, Err, length, refl, ap, sym, ◌∙◌}
use Rattle.std.proofs.lemmas.List.{length-map}
use Rattle.script_streams.specs.PrintLaws.{prints_nothing}
use Rattle.script_streams.specs.Printing.{sink}
use Rattle.archive_checks.proofs.CheckLemmas.{held}
use Rattle.archive_checks.proofs.checking.print_holdings.Goals as goal

pub returns-in-Err-clause-states : goal.returns-in-Err-clause-states
returns-in-Err-clause-states g c =
    let told = c.in-Err.ensures.states in
    held g.D.Disk c.args.archive.now c.print_seen.new.archive c.args.sees_images c.in_ok-version.version (length c.in_ok-count.field-0.now) c.in_ok-space.space (Err c.in-Err.fault)
    (sink g.O.Output c.args.reply.now) (sink g.O.Output c.print_facts.new.reply) (sink g.O.Output c.print_seen.new.reply) (sink g.O.Output c.print_seen.new.reply) told.0 [] c.in_ok-space.ensures c.in_ok-version.ensures.1
    (sym (length-map c.in_ok-count.field-0.now _) ∙ ap length c.in_ok-count.ensures.1) c.print_facts.ensures told.2 told.1 refl prints_nothing

pub returns-clause-states : goal.returns-clause-states
returns-clause-states g c =
    let told = c.in_default.ensures.states in
    held g.D.Disk c.args.archive.now c.print_seen.new.archive c.args.sees_images c.in_ok-version.version (length c.in_ok-count.field-0.now) c.in_ok-space.space (Ok tt)
    (sink g.O.Output c.args.reply.now) (sink g.O.Output c.print_facts.new.reply) (sink g.O.Output c.print_seen.new.reply) (sink g.O.Output c.print.new.self) told.0 (codes "sound\n") c.in_ok-space.ensures c.in_ok-version.ensures.1
    (sym (length-map c.in_ok-count.field-0.now _) ∙ ap length c.in_ok-count.ensures.1) c.print_facts.ensures told.2 told.1 refl c.print.ensures
