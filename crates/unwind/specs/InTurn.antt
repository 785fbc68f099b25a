-- Rules about the results of two calls of `Frames::next`, one after the other, as statements. In each process that can have the memory, the result of
-- one call is `GivesFrame` or `HaveEnded` (`NextFrame`).
use Rattle.std.specs.Prelude.{◌≡◌, ◌<◌, ◌≤◌, ◌+◌, ◌⊎◌, ℕ, false, find, All, Contains, None, Some, Ok, Err}
use Rattle.address_space.specs.Source.{SpotView, entry_at, spot_of}
use Rattle.call_frames.specs.Entry as entries
use Rattle.call_frames.specs.Entry.{EntryView, TableView}
use Rattle.call_frames.specs.Finding.{entry_of}
use Rattle.call_frames.specs.Tables.{debug_frame_of, eh_frame_of}
use Rattle.call_frames.specs.Walk.{entries_of, spots_of}
use Rattle.call_frames.specs.declared.faults.CfiField.{CfiField}
use Rattle.call_frames.specs.declared.spots.Spot.{Spot}
use Rattle.unwind.specs.Execution.{row_of}
use Rattle.unwind.specs.Rows.{rule_of}
use Rattle.unwind.specs.declared.rows.Row.{Row}
use Rattle.unwind.specs.declared.rows.Rule.TheVariants.{Register, Same}
use Rattle.symbols.specs.Offsets.{address_of}
use Rattle.unwind.specs.ByCall.{is_no_code}
use Rattle.unwind.specs.ByEntry.{is_unread}
use Rattle.unwind.specs.ByTrampoline.{is_trampoline}
use Rattle.unwind.specs.Code.{CodeFile, CodeView, ProcessView, code_of, has_path}
use Rattle.unwind.specs.FrameWords.{GivesFrame, HaveEnded}
use Rattle.unwind.specs.Registers.{known}
use Rattle.unwind.specs.Stands.{IsReturn}
use Rattle.unwind.specs.declared.faults.Stop.{Stop}
use Rattle.unwind.specs.declared.faults.Stop.TheVariants.{NoEntry}
use Rattle.unwind.specs.declared.frame.Frame.{Frame}
use Rattle.unwind.specs.declared.frames.Frames.{Frames}

-- one call gives frame f, and the next one frame g
pub record GiveInTurn (p : ProcessView) (f g : Frame) : Type 0 where
  pub old : Frames
  pub mid : Frames
  pub new : Frames
  pub first : GivesFrame p old f mid
  pub second : GivesFrame p mid g new

-- one call gives frame f, and the next one says why it is the last
pub record GiveLast (p : ProcessView) (f : Frame) (stop : Stop) : Type 0 where
  pub old : Frames
  pub new : Frames
  pub first : GivesFrame p old f new
  pub second : HaveEnded p new stop

-- The byte at an address is one of a file that is mapped there, and the first executable of that name has it at this address of its own.
pub record IsCodeAt (p : ProcessView) (a : ℕ) (code : CodeView) : Type 0 where
  pub spot : SpotView
  pub mapped : spot_of a (entry_at p.space.files a) ≡ Some spot
  pub executable : CodeFile
  pub named : find (has_path spot.name) p.executables ≡ Some executable
  pub image : code.image ≡ executable.file.image
  pub debug : code.debug ≡ executable.debug
  pub placed : address_of executable.file.image spot.offset ≡ Some code.address

-- an FDE has that address
abbrev pub HasAddress : EntryView → ℕ → Type 0
HasAddress e v = (e.begin ≤ v) × (v < e.begin + e.range)

-- no FDE of a table has it
abbrev pub HasNone : TableView → ℕ → Type 0
HasNone t v = All (λ e. HasAddress e v → ⊥) (entries_of t)

abbrev pub IsUncovered : CodeView → Type 0
IsUncovered code = HasNone (eh_frame_of code.image) code.address × HasNone (debug_frame_of code.image code.debug) code.address

-- Frame g comes from an FDE that has the last byte of the call that f made. The pc of f is the address behind that byte.
pub record IsOfTheCall (p : ProcessView) (f g : Frame) (last : ℕ) (code : CodeView) (e : EntryView) : Type 0 where
  pub behind : f.pc ≡ last + 1
  pub at : IsCodeAt p last code
  pub has : HasAddress e code.address
  pub row : Row
  pub cfa : ℕ
  pub told : IsReturn p f g code e row cfa

-- The frame after a caller that is at no trampoline comes from an FDE that
-- has the call, and not from one that begins at the call's return address.
abbrev pub CallersAreOfTheirCalls : Type 0
CallersAreOfTheirCalls =
    (p : ProcessView) (f g : Frame) → f.exact ≡ false → is_trampoline p.space f.pc ≡ false → GiveInTurn p f g
    → (last : ℕ) × (code : CodeView) × (e : EntryView) × IsOfTheCall p f g last code e

-- no FDE has the last byte of the call, and a frame comes after the caller
abbrev pub NoNextFunctionIsACaller : Type 0
NoNextFunctionIsACaller =
    (p : ProcessView) (f g : Frame) (last : ℕ) (code : CodeView) → f.exact ≡ false → is_trampoline p.space f.pc ≡ false → f.pc ≡ last + 1
    → IsCodeAt p last code → IsUncovered code → GiveInTurn p f g → ⊥

-- an entry of a table has a fault
abbrev pub HasFault : TableView → Type 0
HasFault t = (s : Spot) × (fault : CfiField) × Contains (spots_of t.bytes) s × (entries.entry_at t s ≡ Err fault)

-- an entry has a fault, so it may be the one that is wanted; and the answer is that no FDE has the address
abbrev pub NoFaultIsHidden : Type 0
NoFaultIsHidden =
    (p : ProcessView) (f : Frame) (code : CodeView) → code_of p f ≡ Ok code → HasFault (eh_frame_of code.image) ⊎ HasFault (debug_frame_of code.image code.debug)
    → GiveLast p f NoEntry → ⊥

-- if the answer is that no FDE has the address, then no FDE has it, and all are read
abbrev pub NoEntryIsPassedOver : Type 0
NoEntryIsPassedOver =
    (p : ProcessView) (f : Frame) → GiveLast p f NoEntry → (code : CodeView) × (code_of p f ≡ Ok code) × IsUncovered code × (is_unread code ≡ false)

-- A call led from g to f, whose code an FDE covers: it wrote its return address to column c.
pub record IsWritten (p : ProcessView) (f g : Frame) (c : ℕ) : Type 0 where
  pub turn : GiveInTurn p f g
  pub returns : g.exact ≡ false
  pub has_code : is_no_code p.space f.pc ≡ false
  pub code : CodeView
  pub looked_up : code_of p f ≡ Ok code
  pub entry : EntryView
  pub covers : entry_of code.image code.debug code.address ≡ Ok entry
  pub column : entry.cie.column ≡ c

-- By the row of a frame, its return address is still in column c.
pub record IsStillThere (p : ProcessView) (g : Frame) (c : ℕ) : Type 0 where
  pub code : CodeView
  pub looked_up : code_of p g ≡ Ok code
  pub entry : EntryView
  pub covers : entry_of code.image code.debug code.address ≡ Ok entry
  pub column : entry.cie.column ≡ c
  pub row : Row
  pub executed : row_of entry code.address ≡ Ok row
  pub rule : (rule_of row.rules c ≡ Same) ⊎ (rule_of row.rules c ≡ Register c)

-- the register that a call wrote over is not known of the frame that made the call
abbrev pub ReturnAddressesAreUnknown : Type 0
ReturnAddressesAreUnknown = (p : ProcessView) (f g : Frame) (c : ℕ) → IsWritten p f g c → known g.registers c ≡ None

-- the return address of one call is taken for that of another
abbrev pub ReturnAddressesAreUsedOnce : Type 0
ReturnAddressesAreUsedOnce =
    (p : ProcessView) (f g h : Frame) (c : ℕ) → IsWritten p f g c → IsStillThere p g c → is_trampoline p.space g.pc ≡ false → GiveInTurn p g h → ⊥
