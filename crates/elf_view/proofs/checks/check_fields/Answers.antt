use Rattle.std.proofs.Common.{sym}
use Rattle.std.proofs.lemmas.Result.{err_from_is_err_and}
use Rattle.elf_view.specs.Sound.{ident_checks, kind_checks, table_checks}
use Rattle.elf_view.proofs.FirstFault.{second_fails}
use Rattle.elf_view.proofs.checks.check_fields.Goals as goal

pub returns-in_err-check_kind-clause-fault : goal.returns-in_err-check_kind-clause-fault
returns-in_err-check_kind-clause-fault c =
    let b = c.args.image.now in
    let p = err_from_is_err_and c.from_residual-in_err-check_kind.result c.from_residual-in_err-check_kind.ensures.1 in
    rw (p.1, p.2) (sym (second_fails (ident_checks b) (kind_checks c.args.want b) (table_checks b) _ c.in_ok-check_ident.ensures.fault c.in_err-check_kind.ensures))
