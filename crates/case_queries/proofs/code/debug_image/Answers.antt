use Rattle.std.proofs.Common.{None, Some, ap, ◌∙◌}
use Rattle.case_queries.proofs.SymbolLemmas.{found_debug}
use Rattle.case_queries.proofs.code.debug_image.Goals as goal

pub returns-in-Some : goal.returns-in-Some
returns-in-Some c = ap Some c.as_slice.ensures.value ∙ found_debug c.args.image.now _ c.args.files.now (Some c.in-Some.file.now) c.in_ok-build_id.ensures c.in-Some.ensures

pub returns-in-None : goal.returns-in-None
returns-in-None c = found_debug c.args.image.now _ c.args.files.now None c.in_ok-build_id.ensures c.in-None.ensures
