-- The code of a frame: which executable has it, and at which of its own addresses.
use Rattle.std.specs.Prelude.{ℕ, ◌-◌, ◌==◌, if◌then◌else◌, Bool, List, find, Option, None, Some, Result, Ok}
use Rattle.std.specs.Option.{option_and_then}
use Rattle.address_space.specs.Source.{Space, SpotView, ExecutableView, spot_of, entry_at, is_named}
use Rattle.symbols.specs.Offsets.{address_of}
use Rattle.unwind.specs.Reasons.{checked}
use Rattle.unwind.specs.declared.faults.Stop.{Stop}
use Rattle.unwind.specs.declared.faults.Stop.TheVariants.{NoFile, NoExecutable, OtherBuild, NoAddress}
use Rattle.unwind.specs.declared.frame.Frame.{Frame}

-- an executable that is attached for a mapped file, and the image of its debug file, if it has one
pub record CodeFile : Type 0 where
  pub file : ExecutableView
  pub debug : Option (List ℕ)

-- it is attached for the file of that name
abbrev pub has_path : List ℕ → CodeFile → Bool
has_path path x = is_named path x.file

-- a process: its memory, the executables that are attached for mapped files, those that are stored under the name of one and are not attached, since
-- they have another build, and the address at which the program begins, if it is known
pub record ProcessView : Type 0 where
  pub space : Space
  pub executables : List CodeFile
  pub others : List ExecutableView
  pub start : Option ℕ

-- the address that is looked up for a frame: its pc if execution was there; else the one before the pc, since a call is before the address that it returns to
abbrev pub looked_up : Frame → Option ℕ
looked_up f = if f.exact then Some f.pc else (if f.pc == 0 then None else Some (f.pc - 1))

-- an address in the numbering of an executable's image, and the image of its debug file, if it has one
pub record CodeView : Type 0 where
  pub image : List ℕ
  pub debug : Option (List ℕ)
  pub address : ℕ

-- why no executable is attached for a file: one of another build is stored under its name, or no executable is
abbrev pub missing_by : Option ExecutableView → Stop
missing_by None = NoExecutable
missing_by (Some other) = OtherBuild

abbrev pub missing : List ExecutableView → List ℕ → Stop
missing others name = missing_by (find (is_named name) others)

-- the address of a place in the file, in the first executable of its name
unfoldable pub code_at : List CodeFile → List ExecutableView → SpotView → Result CodeView Stop
code_at executables others spot =
    checked (find (has_path spot.name) executables) (missing others spot.name) (λ x.
    checked (address_of x.file.image spot.offset) NoAddress (λ v.
    Ok (record { image = x.file.image; debug = x.debug; address = v })))

-- the code of a frame
unfoldable pub code_of : ProcessView → Frame → Result CodeView Stop
code_of p f = checked (option_and_then (λ a. spot_of a (entry_at p.space.files a)) (looked_up f)) NoFile (code_at p.executables p.others)
