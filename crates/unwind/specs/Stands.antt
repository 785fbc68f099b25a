-- The rule by which each frame follows another: one of three.
use Rattle.std.specs.Prelude.{◌≡◌, ◌<◌, ◌≤◌, ◌⊎◌, ⊤, ℕ, true, false, List, [], ◌∷◌, None, Some, Ok, Err, IfSome}
use Rattle.call_frames.specs.Entry.{EntryView}
use Rattle.call_frames.specs.Finding.{entry_of}
use Rattle.call_frames.specs.declared.faults.NoEntry.TheVariants.{Uncovered}
use Rattle.unwind.specs.Execution.{row_of}
use Rattle.unwind.specs.Rows.{rule_of}
use Rattle.unwind.specs.declared.rows.Row.{Row}
use Rattle.unwind.specs.ByCall.{is_no_code, is_stub}
use Rattle.unwind.specs.ByTrampoline.{is_trampoline, saved_word, saved_registers}
use Rattle.unwind.specs.Code.{ProcessView, CodeView, code_of}
use Rattle.unwind.specs.Registers.{ra, sp, known, without}
use Rattle.unwind.specs.Start.{holds_start}
use Rattle.unwind.specs.Values.{cfa_by, register_by, value_by}
use Rattle.unwind.specs.declared.frame.Callee.{Callee}
use Rattle.unwind.specs.declared.frame.Frame.{Frame}

-- The frame is at a trampoline, and the other has the registers that the signal saved at the stack pointer.
pub record IsInterrupted (p : ProcessView) (f g : Frame) (s : ℕ) : Type 0 where
  pub trampoline : is_trampoline p.space f.pc ≡ true
  pub stack : known f.registers sp ≡ Some s
  pub pc : saved_word p.space s 0 ≡ Some g.pc
  pub stood : g.exact ≡ true
  pub registers : g.registers ≡ saved_registers p.space s

-- a stub of the procedure linkage table that no FDE covers, and that no FDE with a fault may cover
abbrev pub IsBareStub : CodeView → Type 0
IsBareStub code = (entry_of code.image code.debug code.address ≡ Err Uncovered) × (is_stub code ≡ true)

-- No code is at the pc, or such a stub.
abbrev pub IsBareCall : ProcessView → Frame → Type 0
IsBareCall p f = (is_no_code p.space f.pc ≡ true) ⊎ ((code : CodeView) × (code_of p f ≡ Ok code) × IsBareStub code)

-- Execution was at such a pc, and the other has the address and the registers of the call.
pub record IsCaller (p : ProcessView) (f g : Frame) : Type 0 where
  pub bare : IsBareCall p f
  pub stood : f.exact ≡ true
  pub pc : known f.registers ra ≡ Some g.pc
  pub returns : g.exact ≡ false
  pub registers : g.registers ≡ without f.registers ra

-- The pc of the other is the value of the return column by its rule, in the row of the first FDE that covers the address that is looked up
-- for the frame. Each of its registers is also given by its rule in that row, but that of the return column after a call, which wrote it. A
-- signal came there if the CIE says so. The program does not begin in the code of that FDE.
pub record IsReturn (p : ProcessView) (f g : Frame) (code : CodeView) (e : EntryView) (row : Row) (a : ℕ) : Type 0 where
  pub looked_up : code_of p f ≡ Ok code
  pub covers : entry_of code.image code.debug code.address ≡ Ok e
  pub inner : holds_start p.start f code.address e ≡ false
  pub executed : row_of e code.address ≡ Ok row
  pub cfa : cfa_by f.registers row.cfa ≡ Ok a
  pub pc : value_by p.space f.registers a e.cie.column (rule_of row.rules e.cie.column) ≡ Some g.pc
  pub stood : g.exact ≡ e.cie.signal
  pub registers : (c : ℕ) → c < 32 → (g.exact ≡ true) ⊎ (c ≡ e.cie.column → ⊥) → known g.registers c ≡ register_by p.space f.registers a row c
  pub written : g.exact ≡ false → known g.registers e.cie.column ≡ None

abbrev pub IsReturnOf : ProcessView → Frame → Frame → Type 0
IsReturnOf p f g = (code : CodeView) × (e : EntryView) × (row : Row) × (a : ℕ) × IsReturn p f g code e row a

-- one of the three
abbrev pub StandsOn : ProcessView → Frame → Frame → Type 0
StandsOn p f g = ((s : ℕ) × IsInterrupted p f g s) ⊎ (IsCaller p f g ⊎ IsReturnOf p f g)

-- each of the frames after a frame stands on one too
abbrev pub EachStands : ProcessView → Frame → List Frame → Type 0
EachStands p f [] = ⊤
EachStands p f (g ∷ gs) = StandsOn p f g × EachStands p g gs

-- The CFA of a frame is not below that of the frame that it called, and if it is the same the pcs differ: the stack continues upwards.
abbrev pub IsAbove : Callee → Callee → Type 0
IsAbove c d = (c.cfa ≤ d.cfa) × (c.cfa ≡ d.cfa → c.pc ≡ d.pc → ⊥)

abbrev pub Rises : Frame → Frame → Type 0
Rises f g = IfSome f.callee (λ c. IfSome g.callee (λ d. IsAbove c d))

abbrev pub EachRises : Frame → List Frame → Type 0
EachRises f [] = ⊤
EachRises f (g ∷ gs) = Rises f g × EachRises g gs

-- no FDE covers the code, and it is no stub
abbrev pub AreBare : CodeView → Type 0
AreBare code = ((e : EntryView) → entry_of code.image code.debug code.address ≡ Ok e → ⊥) × (is_stub code ≡ false)
