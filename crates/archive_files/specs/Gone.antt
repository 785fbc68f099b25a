-- Answers that no call gives if a case is gone at the next look, or if no case is gone, as statements.
use Rattle.std.specs.Prelude.{ℕ, List, Option, Ok, Err, IsTrue}
use Rattle.std.specs.Io.KnownBytes.{Appends}
use Rattle.disk_model.specs.declared.disk.Disk as disk
use Rattle.intake.specs.Durable.{Durable, FoundCase}
use Rattle.intake.specs.InTurn.{last_state}
use Rattle.journal_layout.specs.declared.shape.Shape.{Shape}
use Rattle.script_lines.specs.Said.{Said}
use Rattle.shared_disk.specs.declared.shared.SharedDisk as shared
use Rattle.shared_disk.specs.declared.unlocked.Unlocked.{Unlocked}
use Rattle.archive_files.specs.UnlockedAsks.{AsksUnlocked, LeavesAllThere}
use Rattle.archive_files.specs.UnlockedCopies.{CopiesUnlocked}
use Rattle.archive_files.specs.History.{HasNone, HasOne, HoldsArchive, IsNumbered, IsOneOf}
use Rattle.archive_files.specs.declared.unlocked_faults.AskFault.TheVariants as ask
use Rattle.archive_files.specs.declared.unlocked_faults.UnlockedFault.TheVariants as copy

-- one of these cases is gone, and the next look is answered as if all were there
abbrev pub GoneCasesAreNoticed : {S : Type 0} (g : shared.Ghosts S) → disk.Ghosts (Unlocked S g) → Type 0
GoneCasesAreNoticed {S} g U =
    (s : S) (numbers : List ℕ) (n : ℕ) (shape : Shape) (x : Durable) (ys : List Durable) → IsTrue (g.is_honest s) → HoldsArchive g s shape x ys
    → IsOneOf numbers n → HasNone (last_state x ys) n → LeavesAllThere g U s numbers (Ok tt) → ⊥

-- all cases are there, and a question is refused as if one were gone
abbrev pub NoCaseIsGoneAtWill : {S : Type 0} (g : shared.Ghosts S) → disk.Ghosts (Unlocked S g) → Type 0
NoCaseIsGoneAtWill {S} g U =
    (s : S) (what : Said) (taken taken' : Option (List ℕ)) (lost lost' : ℕ) (shape : Shape) (x : Durable) (ys : List Durable) → IsTrue (g.is_honest s) → HoldsArchive g s shape x ys
    → ((n : ℕ) → HasOne x n → HasOne (last_state x ys) n) → AsksUnlocked g U s what taken taken' lost lost' (Err ask.Gone) → ⊥

-- there was a case of the number, and the bytes that are copied are the image of each case that has it
abbrev pub CopiesAreOfTheCase : {S : Type 0} (g : shared.Ghosts S) → disk.Ghosts (Unlocked S g) → Type 0
CopiesAreOfTheCase {S} g U =
    (s : S) (seq : ℕ) (start taken : Option (List ℕ)) (count failures : ℕ) (shape : Shape) (x : Durable) (ys : List Durable) → IsTrue (g.is_honest s) → HoldsArchive g s shape x ys
    → CopiesUnlocked g U s seq start taken count failures (Ok tt) → HasOne x seq × ((c : FoundCase) → IsNumbered x seq c → Appends start taken c.image)

-- the case is there, and a copy is refused as if it were gone
abbrev pub NoCopyIsGoneAtWill : {S : Type 0} (g : shared.Ghosts S) → disk.Ghosts (Unlocked S g) → Type 0
NoCopyIsGoneAtWill {S} g U =
    (s : S) (seq : ℕ) (start taken : Option (List ℕ)) (count failures : ℕ) (shape : Shape) (x : Durable) (ys : List Durable) → IsTrue (g.is_honest s) → HoldsArchive g s shape x ys
    → HasOne (last_state x ys) seq → CopiesUnlocked g U s seq start taken count failures (Err copy.Gone) → ⊥
