-- The replies to lines over an archive.
use Rattle.std.specs.Prelude.{ℕ, Bool, List, [], ◌∷◌, ◌++◌, Result, Ok, Err, codes, decimal, ◌==◌, if◌then◌else◌}
use Rattle.std.specs.List.{flat_map}
use Rattle.journal_layout.specs.Case.{Case}
use Rattle.journal_layout.specs.declared.entry.Kind.{Kind}
use Rattle.journal_layout.specs.declared.entry.Kind.TheVariants.{Core, Exec}
use Rattle.script_words.specs.Printing.{shown}
use Rattle.script_streams.specs.Replies.{ok_reply, no_reply}
use Rattle.intake.specs.declared.faults.ArchiveFault.{ArchiveFault}
use Rattle.intake.specs.declared.space.Space.{Space}
use Rattle.retention.specs.declared.Decision.{Decision}
use Rattle.archive_replies.specs.Reasons.{reason_of}

-- the reply with no lines to a call's answer
abbrev pub plain_reply : Result (Unit {0}) ArchiveFault → List ℕ
plain_reply (Ok u) = ok_reply
plain_reply (Err fault) = no_reply (reason_of fault)

-- `name NAME`, and the answer of the call
abbrev pub begin_reply : List ℕ → Result (Unit {0}) ArchiveFault → List ℕ
begin_reply name (Ok u) = ((codes "name " ++ shown name) ++ 10 ∷ []) ++ ok_reply
begin_reply name (Err fault) = no_reply (reason_of fault)

-- `stored N`
abbrev pub end_reply : Result ℕ ArchiveFault → List ℕ
end_reply (Ok seq) = ((codes "stored " ++ decimal seq) ++ 10 ∷ []) ++ ok_reply
end_reply (Err fault) = no_reply (reason_of fault)

-- `dropped N`
abbrev pub dropped_line : ℕ → List ℕ
dropped_line seq = (codes "dropped " ++ decimal seq) ++ 10 ∷ []

-- `unmet`, if the limits do not hold even so
abbrev pub unmet_line : Bool → List ℕ
unmet_line unmet = if unmet then codes "unmet" ++ 10 ∷ [] else []

-- a line for each case that was dropped
abbrev pub retire_reply : Result Decision ArchiveFault → List ℕ
retire_reply (Ok decision) = flat_map dropped_line decision.dropped.items ++ (unmet_line decision.unmet ++ ok_reply)
retire_reply (Err fault) = no_reply (reason_of fault)

-- `free F of N`
abbrev pub free_reply : Result Space ArchiveFault → List ℕ
free_reply (Ok space) = (codes "free " ++ (decimal space.free ++ (codes " of " ++ (decimal space.data_blocks ++ 10 ∷ [])))) ++ ok_reply
free_reply (Err fault) = no_reply (reason_of fault)

abbrev pub kind_name : Kind → List ℕ
kind_name Core = codes "core"
kind_name Exec = codes "exec"

abbrev pub pin_name : Bool → List ℕ
pin_name pinned = if pinned then codes "pinned" else codes "-"

-- a number, and after it a space
abbrev pub number_word : ℕ → List ℕ
number_word n = decimal n ++ 32 ∷ []

-- in version 2 of the layout, a space and the label
abbrev pub label_word : ℕ → List ℕ → List ℕ
label_word version label = if version == 2 then 32 ∷ shown label else []

-- `N KIND LENGTH PID SIGNAL TIME PIN NAME`, and in version 2 of the layout ` LABEL`
abbrev pub case_line : ℕ → Case → List ℕ
case_line version c =
    number_word c.seq ++ (kind_name c.origin.kind ++ (32 ∷ [] ++ (number_word c.len ++ (number_word c.origin.pid ++ (number_word c.origin.signal
    ++ (number_word c.origin.time ++ (pin_name c.pinned ++ (32 ∷ [] ++ (shown c.origin.name ++ (label_word version c.label ++ 10 ∷ []))))))))))

-- a line for each case
abbrev pub list_reply : Bool → ℕ → List Case → List ℕ
list_reply stopped version cases = if stopped then no_reply (codes "Stopped") else flat_map (case_line version) cases ++ ok_reply
