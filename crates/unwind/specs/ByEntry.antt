-- The caller of a frame by call frame information (DWARF 5, 6.4).
use Rattle.std.specs.Prelude.{ℕ, ◌==◌, ◌&&◌, ◌||◌, not, nat_lt, if◌then◌else◌, Bool, true, false, Option, None, Some, Result, Ok, Err}
use Rattle.address_space.specs.Source.{Space}
use Rattle.call_frames.specs.Entry.{EntryView}
use Rattle.call_frames.specs.Finding.{entry_of}
use Rattle.call_frames.specs.Unread.{have_unread_frames}
use Rattle.call_frames.specs.declared.faults.NoEntry as entries
use Rattle.call_frames.specs.declared.faults.NoEntry.TheVariants.{Uncovered, Faulty}
use Rattle.unwind.specs.Execution.{row_of}
use Rattle.unwind.specs.Rows.{rule_of}
use Rattle.unwind.specs.declared.row_faults.RowField.{RowField}
use Rattle.unwind.specs.declared.rows.Row.{Row}
use Rattle.unwind.specs.declared.rows.Rule.{Rule}
use Rattle.unwind.specs.ByCall.{by_stub, callee_at}
use Rattle.unwind.specs.Code.{ProcessView, CodeView, code_of}
use Rattle.unwind.specs.Reasons.{checked, and_then, stop_if}
use Rattle.unwind.specs.Registers.{Registers, without}
use Rattle.unwind.specs.Start.{holds_start}
use Rattle.unwind.specs.Values.{value_by, registers_by, cfa_by, unknown_by, is_undefined}
use Rattle.unwind.specs.declared.by_entry.Return.{Return}
use Rattle.unwind.specs.declared.faults.Stop.{Stop}
use Rattle.unwind.specs.declared.faults.Stop.TheVariants.{NoEntry, Compressed, FaultyEntry, FaultyRow, Outermost, NotRising, ZeroPc}
use Rattle.unwind.specs.declared.frame.Callee.{Callee}
use Rattle.unwind.specs.declared.frame.Frame.{Frame}

-- the row of an entry at an address; a fault is that of the entry's number
abbrev pub row_or : ℕ → Result Row RowField → Result Row Stop
row_or i (Ok row) = Ok row
row_or i (Err f) = Err (FaultyRow (record { «field» = f; index = i }))

unfoldable pub row_at : EntryView → ℕ → Result Row Stop
row_at e v = row_or e.index (row_of e v)

-- The CFA is below that of the callee, or both the CFA and the pc are the same.
abbrev pub is_below : Option Callee → ℕ → ℕ → Bool
is_below None pc cfa = false
is_below (Some c) pc cfa = nat_lt cfa c.cfa || (cfa == c.cfa && pc == c.pc)

-- the return address by its rule
abbrev pub return_by : Space → Registers → ℕ → ℕ → Rule → Result ℕ Stop
return_by space rs cfa column rule = checked (value_by space rs cfa column rule) (unknown_by rule) (λ pc. Ok pc)

-- the frame that a row leads to. After a call the return column is not known, since the call wrote it. After a signal execution was at the pc, and all registers are
-- those of then.
abbrev pub led_to : Frame → ℕ → ℕ → Registers → Return → Frame
led_to f cfa pc rs r =
    if r.signal then record { pc = pc; registers = rs; exact = true; callee = None }
    else record { pc = pc; registers = without rs r.column; exact = false; callee = Some (callee_at f.pc cfa) }

-- the return address is not 0, unless a signal came
abbrev pub by_return : Space → Frame → Row → Return → ℕ → ℕ → Result Frame Stop
by_return space f row r cfa pc =
    stop_if (pc == 0 && not r.signal) ZeroPc (Ok (led_to f cfa pc (registers_by space f.registers cfa row) r))

-- the frame that a CFA leads to
unfoldable pub by_cfa : Space → Frame → Row → Return → ℕ → Result Frame Stop
by_cfa space f row r cfa =
    stop_if (is_below f.callee f.pc cfa) NotRising (
    and_then (return_by space f.registers cfa r.column (rule_of row.rules r.column)) (by_return space f row r cfa))

-- the frame that a row leads to, or the first reason why there is no such frame
unfoldable pub by_row : Space → Frame → Return → Row → Result Frame Stop
by_row space f r row =
    stop_if (is_undefined (rule_of row.rules r.column)) Outermost (
    and_then (cfa_by f.registers row.cfa) (by_cfa space f row r))

abbrev pub return_in : EntryView → Return
return_in e = record { column = e.cie.column; signal = e.cie.signal }

-- the frame that an entry leads to at an address, unless the program begins there
abbrev pub by_covering : Space → Option ℕ → Frame → ℕ → EntryView → Result Frame Stop
by_covering space start f v e = stop_if (holds_start start f v e) Outermost (and_then (row_at e v) (by_row space f (return_in e)))

-- an executable, or its debug file, has call frame information that is compressed and not read
abbrev pub is_unread : CodeView → Bool
is_unread code = have_unread_frames code.image code.debug

-- why no entry covers the code: one that is not read may
abbrev pub no_entry : CodeView → Stop
no_entry code = if is_unread code then Compressed else NoEntry

-- by the entry that covers an address; if no entry does, and no entry has a fault, it may be a stub of the procedure linkage table
abbrev pub by_found : Space → Option ℕ → Frame → CodeView → Result EntryView entries.NoEntry → Result Frame Stop
by_found space start f code (Ok e) = by_covering space start f code.address e
by_found space start f code (Err (Faulty fault)) = Err (FaultyEntry fault)
by_found space start f code (Err Uncovered) = checked (by_stub code f) (no_entry code) (λ g. Ok g)

-- by the first entry that covers the code's address
unfoldable pub by_code : Space → Option ℕ → Frame → CodeView → Result Frame Stop
by_code space start f code = by_found space start f code (entry_of code.image code.debug code.address)

unfoldable pub by_entry : ProcessView → Frame → Result Frame Stop
by_entry p f = and_then (code_of p f) (by_code p.space p.start f)
