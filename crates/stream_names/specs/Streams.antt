-- The streams that lines begin, and the faults of their names.
use Rattle.std.specs.Prelude.{ℕ, ◌==◌, nat_lt, List, [], length, Option, None, Some, Result, Ok, Err, codes, if◌then◌else◌}
use Rattle.std.specs.List.{list_any}
use Rattle.std.specs.Borrow.{Bor}
use Rattle.journal_layout.specs.declared.entry.Kind.TheVariants.{Core, Exec}
use Rattle.intake.specs.State.{StreamFacts}
use Rattle.stream_names.specs.Expansion.{expansion, name_of}
use Rattle.stream_names.specs.Naming.{template_bytes}
use Rattle.stream_names.specs.declared.facts.Facts.{Facts}
use Rattle.stream_names.specs.declared.template.NameFault.{NameFault}
use Rattle.stream_names.specs.declared.template.NameFault.TheVariants as name
use Rattle.script_lines.specs.Said.{ProcessSaid}
use Rattle.stream_names.specs.declared.naming.Naming.{Naming}

-- the fault of a name that a line gives: it has more than 128 bytes, or a NUL
abbrev pub name_fault : List ℕ → Option (List ℕ)
name_fault name =
    if nat_lt 128 (length name) then Some (codes "TooLong")
    else if list_any (λ c. c == 0) name then Some (codes "NulByte")
    else None

-- the stream of an executable, with no bytes yet
abbrev pub new_exec : List ℕ → StreamFacts
new_exec name = record { origin = record { kind = Exec; name = name; pid = 0; signal = 0; time = 0 }; len = 0; blocks = [] }

-- the stream of a core, with no bytes yet
abbrev pub new_core : ProcessSaid → List ℕ → StreamFacts
new_core process name = record {
  origin = record { kind = Core; name = name; pid = process.pid; signal = process.signal; time = process.time };
  len = 0;
  blocks = [];
}

-- the stream, or the fault of its name
abbrev pub exec_unless : List ℕ → Option (List ℕ) → Result StreamFacts (List ℕ)
exec_unless name None = Ok (new_exec name)
exec_unless name (Some reason) = Err reason

-- the stream that `begin exec` begins
abbrev pub exec_stream : List ℕ → Result StreamFacts (List ℕ)
exec_stream name = exec_unless name (name_fault name)

-- a text in memory. Nothing depends on its address.
abbrev pub lent : List ℕ → Bor (List ℕ)
lent text = record { ref_ptr = (0, 0); now = text }

-- the facts of a template's letters
abbrev pub facts_of : ProcessSaid → Facts
facts_of process = record {
  comm = lent process.comm;
  exe = lent process.exe;
  host = lent process.host;
  pid = process.pid;
  tid = process.tid;
  signal = process.signal;
  uid = process.uid;
  gid = process.gid;
  mode = process.mode;
  time = process.time;
  limit = process.limit;
}

-- the name of a process's core
abbrev pub core_name : Naming → ProcessSaid → Result (List ℕ) NameFault
core_name naming process = name_of (expansion (template_bytes naming.template) (facts_of process) naming.uses_pid)

-- the name of a template's refusal in replies
abbrev pub name_reason : NameFault → List ℕ
name_reason name.Empty = codes "Empty"
name_reason name.TooLong = codes "TooLong"
name_reason name.NulByte = codes "NulByte"

abbrev pub core_unless : ProcessSaid → Result (List ℕ) NameFault → Result StreamFacts (List ℕ)
core_unless process (Ok name) = Ok (new_core process name)
core_unless process (Err fault) = Err (name_reason fault)

-- the stream that `begin core` begins
abbrev pub core_stream : Naming → ProcessSaid → Result StreamFacts (List ℕ)
core_stream naming process = core_unless process (core_name naming process)
