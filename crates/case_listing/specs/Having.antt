-- The cases whose images have bytes somewhere.
use Rattle.std.specs.Prelude.{◌≡◌, ℕ, Bool, List, [], ◌∷◌, ◌++◌, filter, map, if◌then◌else◌, Result, Ok, Err, IfOk, Vec}
use Rattle.std.specs.Global.{Global}
use Rattle.archive_files.specs.declared.failures.Refusal.{Refusal}
use Rattle.archive_files.specs.declared.failures.Refusal.TheVariants.{Open}
use Rattle.case_listing.specs.Containing.{SeesWhether}
use Rattle.case_queries.specs.Fronts.{HasSize}
use Rattle.case_tables.specs.Wanted.{is_wanted}
use Rattle.case_tables.specs.declared.wanted.Wanted.{Wanted}
use Rattle.disk_model.specs.declared.disk.Disk as disk
use Rattle.intake.specs.Calls.{OpenCall}
use Rattle.intake.specs.Parts.{Parts, state_of}
use Rattle.journal_layout.specs.Case.{Case}
use Rattle.journal_layout.specs.declared.faults.OpenFault.{OpenFault}

abbrev pub number_of : Case → ℕ
number_of c = c.seq

-- the numbers of the wanted cases, in their order; of how many is not asked
abbrev pub wanted_numbers : Wanted → List Case → List ℕ
wanted_numbers w cases = map number_of (filter (is_wanted w) cases)

-- it is seen whether the image of a case has the bytes
abbrev pub HasText : {D : Type 0} → disk.Ghosts D → Parts D → List ℕ → ℕ → Bool → Parts D → Type 0
HasText g old sought seq has new = (size : ℕ) × HasSize (state_of old) seq size × SeesWhether g old seq size sought has new

-- Of these cases, one after the other, those whose images have the bytes.
abbrev pub FindsAmong : {D : Type 0} → disk.Ghosts D → Parts D → List ℕ → List ℕ → List ℕ → Parts D → Type 0
FindsAmong g old sought [] found new = (found ≡ []) × (new ≡ old)
FindsAmong {D} g old sought (seq ∷ seqs) found new =
    (has : Bool) × (mid : Parts D) × HasText g old sought seq has mid
    × (rest : List ℕ) × (found ≡ (if has then seq ∷ [] else []) ++ rest) × FindsAmong g mid sought seqs rest new

-- of the wanted cases of an archive
abbrev pub FindsWanted : {D : Type 0} → disk.Ghosts D → Parts D → Wanted → List ℕ → List ℕ → Parts D → Type 0
FindsWanted g old wanted sought found new = FindsAmong g old sought (wanted_numbers wanted (state_of old).cases) found new

-- by the archive that was opened, or why it was not
abbrev pub FindsBy : {D : Type 0} → disk.Ghosts D → Wanted → List ℕ → Result (Parts D) (OpenFault × D) → Result (Vec ℕ Global) Refusal → Type 0
FindsBy {D} g wanted sought (Ok a) r = IfOk r (λ (found : Vec ℕ Global). (new : Parts D) × FindsWanted g a wanted sought found.items new)
FindsBy g wanted sought (Err (fault, d)) r = r ≡ Err (Open fault)

-- The archive on a disk is opened, and the numbers are found of the wanted cases whose images have the bytes.
abbrev pub FindsOn : {D : Type 0} → disk.Ghosts D → Wanted → List ℕ → D → Result (Vec ℕ Global) Refusal → Type 0
FindsOn {D} g wanted sought before r = (opened : Result (Parts D) (OpenFault × D)) × OpenCall g 0 before opened × FindsBy g wanted sought opened r
