use Rattle.std.proofs.Common.{sym}
use Rattle.archive_files.proofs.DoneLemmas.{in_any_case}
use Rattle.archive_files.proofs.copies.copy_named.Goals as goal

pub returns-in-Ok-stay-clause-stayed : goal.returns-in-Ok-stay-clause-stayed
returns-in-Ok-stay-clause-stayed g c =
    in_any_case c.map_err-in-Ok-stay.result (
      c.unlocked-front.result,
      c.in-Ok.places,
      c.unlocked-front.ensures.under,
      c.in-Ok.ensures,
      rw (sym c.into_shared.ensures, sym c.deref.ensures.value) c.in-Ok-stay.ensures,
    )
