use Rattle.std.proofs.Common.{subst, Err}
use Rattle.journal_layout.specs.declared.faults.OpenFault.{OpenFault}
use Rattle.case_journal.specs.Viewing.{IsOpenRefusal}
use Rattle.archive_files.proofs.archives.settle_gates.Goals as goal

pub returns-in-Ok-clause-settles : goal.returns-in-Ok-clause-settles
returns-in-Ok-clause-settles g c s honest stands = (c.in-Ok.ensures.settles honest).0 s stands

pub returns-in-NotAnArchive : goal.returns-in-NotAnArchive
returns-in-NotAnArchive g c = record {
  settles = λ s honest stands. absurd (subst (λ (f : OpenFault). IsOpenRefusal {T = Unit {0}} (Err f)) c.in-NotAnArchive.is ((c.in-Err.ensures.settles honest).0 s stands).only);
  quiet = λ honest none. (c.in-Err.ensures.settles honest).1 none;
}

pub returns-in-UnknownVersion : goal.returns-in-UnknownVersion
returns-in-UnknownVersion g c = record {
  settles = λ s honest stands. absurd (subst (λ (f : OpenFault). IsOpenRefusal {T = Unit {0}} (Err f)) c.in-UnknownVersion.is ((c.in-Err.ensures.settles honest).0 s stands).only);
  quiet = λ honest none. (c.in-Err.ensures.settles honest).1 none;
}

pub returns-in-Damaged : goal.returns-in-Damaged
returns-in-Damaged g c = record {
  settles = λ s honest stands. absurd (subst (λ (f : OpenFault). IsOpenRefusal {T = Unit {0}} (Err f)) c.in-Damaged.is ((c.in-Err.ensures.settles honest).0 s stands).only);
  quiet = λ honest none. (c.in-Err.ensures.settles honest).1 none;
}
