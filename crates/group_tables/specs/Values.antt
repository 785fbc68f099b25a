-- Groups of cores as the program has them.
use Rattle.std.specs.Prelude.{ℕ, Bool, List, map}
use Rattle.crash_signatures.specs.Signature.{SignatureSaid}
use Rattle.crash_signatures.specs.SignatureViews.{signature_said}
use Rattle.journal_layout.specs.Case.{Case, case_of}
use Rattle.group_tables.specs.declared.rows.Crash.{Crash}
use Rattle.group_tables.specs.declared.rows.GroupMember.{GroupMember}
use Rattle.group_tables.specs.declared.rows.GroupRow.{GroupRow}

-- the facts that all cores of a group have in common
pub record CrashSaid : Type 0 where
  pub program : List ℕ
  pub signal : ℕ
  pub signature : SignatureSaid

abbrev pub crash_said : Crash → CrashSaid
crash_said c = record { program = c.program.items; signal = c.signal; signature = signature_said c.signature }

-- a core of a group, and whether it is only perhaps one
pub record MemberSaid : Type 0 where
  pub case : Case
  pub is_perhaps : Bool

abbrev pub member_said : GroupMember → MemberSaid
member_said m = record { case = case_of m.case.now; is_perhaps = m.is_perhaps }

-- a group: the facts that its cores have in common, and its cores in the order of their numbers
pub record RowSaid : Type 0 where
  pub crash : CrashSaid
  pub members : List MemberSaid

abbrev pub row_said : GroupRow → RowSaid
row_said r = record { crash = crash_said r.crash.now; members = map member_said r.members.items }
