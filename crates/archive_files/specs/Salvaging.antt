-- The cases of an archive whose opening is refused, copied onto a new disk, and the report.
use Rattle.std.specs.Prelude.{◌≡◌, ◌⊎◌, ℕ, Bool, true, false, List, length, Option, None, Some, Result, Ok, Err, IsTrue}
use Rattle.std.specs.Option.{unwrap_or}
use Rattle.archive_care.specs.declared.copying.CopyWish.{CopyWish}
use Rattle.archive_care.specs.declared.faults.CopyFault.{CopyFault}
use Rattle.disk_model.specs.declared.disk.Disk as disk
use Rattle.salvage.specs.Copying.{CopiesAs, found_bytes}
use Rattle.salvage.specs.Mending.{IsMend, IsSureMend, MendsArchive, restored}
use Rattle.salvage.specs.Readings.{FindsCases, SeesCases, first_fault}
use Rattle.salvage.specs.Told.{IsAll, PrintsCases}
use Rattle.salvage.specs.declared.cases_found.Found.{Found}
use Rattle.salvage.specs.declared.mending.Mended.{Mended}
use Rattle.salvage.specs.declared.mending.ShapeWish.{ShapeWish}
use Rattle.salvage.specs.declared.source.Source as source
use Rattle.inspector_cli.specs.declared.session.SessionFault.TheVariants.{WriteFailed}
use Rattle.journal_layout.specs.declared.faults.OpenFault.{OpenFault}
use Rattle.script_streams.specs.declared.streams.Output as output
use Rattle.archive_files.specs.Copying.{copy_told, larger_wish}
use Rattle.archive_files.specs.declared.failures.Failure.{Failure}
use Rattle.archive_files.specs.declared.failures.Failure.TheVariants.{Refused, Faulted, Told}
use Rattle.archive_files.specs.declared.failures.Refusal.{Refusal}

-- The cases that were found are copied onto a new disk, as a wish says, and the outcome is reported.
abbrev pub SalvagesOnto : {S N : Type 0} → source.Ghosts S → disk.Ghosts N → S → Found → CopyWish → N → Result (Unit {0}) Refusal → N → Type 0
SalvagesOnto g h s found wish onto r onto' =
    (done : Result (Unit {0}) CopyFault)
    × CopiesAs h (g.is_honest s) (found_bytes found (g.seen s)) wish onto onto' done
    × (r ≡ copy_told done)

-- The cases that were found are copied onto a new disk, as a wish says.
abbrev pub IsSalvagedBy : {S N : Type 0} → source.Ghosts S → disk.Ghosts N → S → Found → CopyWish → Type 0
IsSalvagedBy {N = N} g h s found wish = (onto onto' : N) × SalvagesOnto g h s found wish onto (Ok tt) onto'

-- The new archive has the shape that was found, except if the request says otherwise, and has version 1.
abbrev pub wish_for : Found → ShapeWish → CopyWish
wish_for f asked = record {
  shape = record {
    half_blocks = unwrap_or asked.half_blocks f.first.standing.shape.half_blocks;
    data_blocks = unwrap_or asked.data_blocks f.first.standing.shape.data_blocks;
  };
  keeps_labels = false;
}

-- It is that, or with halves of one block more.
abbrev pub IsWishFor : Found → ShapeWish → CopyWish → Type 0
IsWishFor f asked wish =
    (wish ≡ wish_for f asked) ⊎ ((refusal : Refusal) × (larger_wish asked.half_blocks (wish_for f asked) refusal ≡ Some wish))

-- The cases that were found are copied onto such a new disk.
abbrev pub IsSalvaged : {S N : Type 0} → source.Ghosts S → disk.Ghosts N → S → Found → ShapeWish → Type 0
IsSalvaged g h s found asked = (wish : CopyWish) × IsWishFor found asked wish × IsSalvagedBy g h s found wish

-- the first fault of the archive that was found, if one was found
abbrev pub fault_of : Result Found OpenFault → Option OpenFault
fault_of (Ok f) = first_fault f
fault_of (Err fault) = None

-- The first fault is that of the cases that are found in an archive.
abbrev pub IsFaultIn : {S : Type 0} → source.Ghosts S → S → Option OpenFault → Type 0
IsFaultIn g s fault =
    (found : Result Found OpenFault) × (IsTrue (g.is_honest s) → FindsCases (g.seen s) found) × (fault ≡ fault_of found)

-- The cases of an archive are found: in its bytes, or in these with their mended parts. The mending gives the length of the file, and says that
-- the shape is certainly the archive's only if that is so.
abbrev pub IsFoundIn : List ℕ → Found → Type 0
IsFoundIn b f =
    SeesCases b f
    ⊎ ((m : Mended) × MendsArchive b (Some m) × IsMend (length b) m.mend.fault m.mend × IsSureMend b m.mend × SeesCases (restored m.front.items m.length b) f
    × (f.mend ≡ Some m.mend))

-- It is refused, and the output is not touched.
abbrev pub IsRefusedAside : {O : Type 0} → O → O → Result (Unit {0}) Failure → Type 0
IsRefusedAside before after r = (refusal : Refusal) × (r ≡ Err (Refused refusal)) × (after ≡ before)

-- The end after the report on the cases: it is good if and only if all is copied.
abbrev pub IsEnd : Found → Bool → Result (Unit {0}) Failure → Type 0
IsEnd f false r = r ≡ Err (Faulted WriteFailed)
IsEnd f true r = (IsAll f × (r ≡ Ok tt)) ⊎ ((IsAll f → ⊥) × (r ≡ Err Told))

-- The cases that were found are reported.
abbrev pub PrintsFound : {O : Type 0} → output.Ghosts O → Found → O → O → Result (Unit {0}) Failure → Type 0
PrintsFound g f before after r =
    (done : Bool) × PrintsCases f (g.taken before) (g.taken after) (g.failures before) (g.failures after) done × IsEnd f done r

-- The salvage is refused, or the cases of some source are reported.
abbrev pub PrintsSalvage : {O : Type 0} → output.Ghosts O → O → O → Result (Unit {0}) Failure → Type 0
PrintsSalvage g before after r = IsRefusedAside before after r ⊎ ((f : Found) × PrintsFound g f before after r)

-- It is refused, or the cases of an archive are found and printed.
abbrev pub Salvages : {S O : Type 0} → source.Ghosts S → output.Ghosts O → S → O → O → Result (Unit {0}) Failure → Type 0
Salvages h g s before after r =
    IsRefusedAside before after r ⊎ ((f : Found) × (IsTrue (h.is_honest s) → IsFoundIn (h.seen s) f) × PrintsFound g f before after r)
