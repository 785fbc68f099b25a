use Rattle.salvage.specs.ToldLaws as laws
use Rattle.salvage.proofs.laws.each_readable_case_is_told.Goals as goal

pub returns-clause-told : goal.returns-clause-told
returns-clause-told c = laws.each_readable_case_is_told

pub returns-clause-whole : goal.returns-clause-whole
returns-clause-whole c = laws.each_sound_case_is_whole

pub returns-clause-kept : goal.returns-clause-kept
returns-clause-kept c = laws.what_is_told_whole_is_not_deleted

pub returns-clause-undeleted : goal.returns-clause-undeleted
returns-clause-undeleted c = laws.no_record_deletes_what_is_told_whole

pub returns-clause-lost : goal.returns-clause-lost
returns-clause-lost c = laws.what_is_told_lost_is_stored

pub returns-clause-below : goal.returns-clause-below
returns-clause-below c = laws.what_is_told_whole_is_below

pub returns-clause-uncontested : goal.returns-clause-uncontested
returns-clause-uncontested c = laws.no_record_contests_what_is_told_whole
