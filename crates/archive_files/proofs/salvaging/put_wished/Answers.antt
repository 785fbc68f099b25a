use Rattle.std.proofs.Common.{◌∙◌, sym}
use Rattle.archive_files.proofs.DoneLemmas.{in_any_case}
use Rattle.archive_files.proofs.salvaging.put_wished.Goals as goal

pub returns-clause-salvaged : goal.returns-clause-salvaged
returns-clause-salvaged g c =
    let salvaged = c.salvage_onto-onto.ensures in
    in_any_case c.map_err-2.result
    (c.in_ok-onto.onto, c.salvage_onto-onto.result.1, (salvaged.0, salvaged.1, sym c.in_ok-settle_made.ensures.done ∙ salvaged.2))
