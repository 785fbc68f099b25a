use Rattle.std.proofs.Common.{◌<◌, ◌≤◌, length, sym, ◌∙◌, subst, arith, false-eqb}
use Rattle.disk_model.specs.Places.{AreBytes}
use Rattle.journal_layout.specs.Soundness.{IsName}
use Rattle.archive_tests.proofs.Names.{is_name}
use Rattle.archive_tests.proofs.bench.name_of.Goals as goal

pub returns : goal.returns
returns c =
    let bytes = c.args.bytes.now in
    let some : 0 < length bytes = omega (arith, false-eqb _ 0 (sym c.if-is_empty.false ∙ c.is_empty.ensures)) in
    let short : length bytes ≤ 128 = omega (arith, c.if-bytes-gt128.false) in
    let are : AreBytes bytes = λ k. omega (arith, c.type_inv.bytes k) in
    subst IsName (sym c.in-Ok.ensures.0) (is_name bytes (omega (arith, some)) short are (sym c.has_nul.ensures ∙ c.if-has_nul.false))
