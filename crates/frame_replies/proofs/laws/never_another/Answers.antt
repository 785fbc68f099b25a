use Rattle.frame_replies.proofs.ChoiceLemmas.{attached_own, code_own, debugs_own, named_own, used_code}
use Rattle.frame_replies.proofs.laws.never_another.Goals as goal

pub returns-clause-attached : goal.returns-clause-attached
returns-clause-attached c = attached_own

pub returns-clause-named : goal.returns-clause-named
returns-clause-named c = named_own

pub returns-clause-code : goal.returns-clause-code
returns-clause-code c = code_own

pub returns-clause-no_debug : goal.returns-clause-no_debug
returns-clause-no_debug c = used_code

pub returns-clause-debugs : goal.returns-clause-debugs
returns-clause-debugs c = debugs_own
