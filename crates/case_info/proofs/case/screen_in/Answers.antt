use Rattle.std.proofs.Common.{sym, subst, ◌∙◌}
use Rattle.journal_layout.specs.declared.entry.Kind.{Kind}
use Rattle.case_info.specs.Screens.{ShowsKind}
use Rattle.case_info.proofs.case.screen_in.Goals as goal

pub returns-in_ok-core_screen-in-Core : goal.returns-in_ok-core_screen-in-Core
returns-in_ok-core_screen-in-Core g c = λ plain.
    let found = c.in_ok-kind_of.ensures in
    let shown = c.in_ok-core_screen-in-Core.ensures plain in
    let new = c.core_screen.new.archive in
    (found.0, found.1, new, subst (λ (kind : Kind). ShowsKind g.D.Disk c.args.archive.now c.args.seq c.args.zone c.args.words c.in_ok-core_screen-in-Core.field-0 new kind) (sym (found.2 ∙ c.in-Core.is)) shown)

pub returns-in_ok-exec_screen-in-Exec : goal.returns-in_ok-exec_screen-in-Exec
returns-in_ok-exec_screen-in-Exec g c = λ plain.
    let found = c.in_ok-kind_of.ensures in
    let shown = c.in_ok-exec_screen-in-Exec.ensures plain in
    let new = c.exec_screen.new.archive in
    (found.0, found.1, new, subst (λ (kind : Kind). ShowsKind g.D.Disk c.args.archive.now c.args.seq c.args.zone c.args.words c.in_ok-exec_screen-in-Exec.field-0 new kind) (sym (found.2 ∙ c.in-Exec.is)) shown)
