use Rattle.std.proofs.Common.{refl, sym, subst, ◌∙◌}
use Rattle.journal_layout.specs.declared.entry.Kind.{Kind}
use Rattle.case_info.specs.Unpacking.{UnpacksKind}
use Rattle.case_info.proofs.unpacking.unpacking_in.Goals as goal

pub returns-in_ok-core_unpacking-in-Core : goal.returns-in_ok-core_unpacking-in-Core
returns-in_ok-core_unpacking-in-Core g c =
    let found = c.in_ok-kind_of.ensures in
    let new = c.core_unpacking.new.archive in
    (found.0, found.1, new, subst (λ (kind : Kind). UnpacksKind g.D.Disk c.args.archive.now found.0 c.args.seq c.in_ok-core_unpacking-in-Core.field-0 new kind) (sym (found.2 ∙ c.in-Core.is)) c.in_ok-core_unpacking-in-Core.ensures)

pub returns-in_ok-executable_unpacking-in-Exec : goal.returns-in_ok-executable_unpacking-in-Exec
returns-in_ok-executable_unpacking-in-Exec g c =
    let found = c.in_ok-kind_of.ensures in
    let old = c.args.archive.now in
    (found.0, found.1, old, subst (λ (kind : Kind). UnpacksKind g.D.Disk old found.0 c.args.seq c.in_ok-executable_unpacking-in-Exec.field-0 old kind) (sym (found.2 ∙ c.in-Exec.is)) (c.in_ok-executable_unpacking-in-Exec.ensures found.0 found.1, refl))
