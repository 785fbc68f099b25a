use Rattle.build_ids.proofs.NameLaws.{by_stem}
use Rattle.build_ids.proofs.build_names.id_of_name.Goals as goal

pub returns : goal.returns
returns c = by_stem c.args.name.now c.stem_of.result.now c.id_of_stem.result c.stem_of.ensures.either c.stem_of.ensures.without c.id_of_stem.ensures
