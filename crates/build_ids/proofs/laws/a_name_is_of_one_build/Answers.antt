use Rattle.build_ids.proofs.NameLaws.{apart, build_inj, debug_inj, no_debug_end, no_debug_path, no_path}
use Rattle.build_ids.proofs.laws.a_name_is_of_one_build.Goals as goal

pub returns-clause-builds : goal.returns-clause-builds
returns-clause-builds c = build_inj

pub returns-clause-debugs : goal.returns-clause-debugs
returns-clause-debugs c = debug_inj

pub returns-clause-apart : goal.returns-clause-apart
returns-clause-apart c = apart

pub returns-clause-ends : goal.returns-clause-ends
returns-clause-ends c = no_debug_end

pub returns-clause-no_path : goal.returns-clause-no_path
returns-clause-no_path c = no_path

pub returns-clause-no_debug_path : goal.returns-clause-no_debug_path
returns-clause-no_debug_path c = no_debug_path
