use Rattle.build_replies.specs.Builds.{wanted_of}
use Rattle.std.specs.List.{filter_map}
use Rattle.case_info.proofs.OnceLemmas.{adds_exactly, each_once, keeps_wants, wants_exactly}
use Rattle.case_info.proofs.laws.what_is_wanted_is_told_once.Goals as goal

pub returns-clause-core : goal.returns-clause-core
returns-clause-core c = λ values. record { exactly = λ id. wants_exactly id values; once = each_once (filter_map wanted_of values) }

pub returns-clause-cores : goal.returns-clause-cores
returns-clause-cores c = λ ws more. adds_exactly ws more

pub returns-clause-kept : goal.returns-clause-kept
returns-clause-kept c = λ ws values. keeps_wants ws values
