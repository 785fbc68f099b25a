-- A question that is answered between two looks.
use Rattle.std.proofs.Common.{◌≡◌, ℕ, Bool, List, [], subst, refl, Option, Result, Ok, Err, IsTrue}
use Rattle.disk_model.specs.declared.disk.Disk as disk
use Rattle.inspector_cli.specs.Asking.{AsksAlone, line_streams}
use Rattle.inspector_cli.specs.Life.{LifeEnds}
use Rattle.inspector_cli.specs.declared.session.LifeFault.{LifeFault}
use Rattle.script_lines.specs.Said.{Said}
use Rattle.intake.specs.Durable.{Durable}
use Rattle.intake.specs.InTurn.{last_state}
use Rattle.journal_layout.specs.declared.shape.Shape.{Shape}
use Rattle.shared_disk.specs.Looks.{LooksAnew, under}
use Rattle.shared_disk.specs.declared.shared.SharedDisk as shared
use Rattle.shared_disk.specs.declared.unlocked.Unlocked.{Unlocked}
use Rattle.archive_files.specs.UnlockedAsks.{AnswersInVain, AnswersOver, AsksUnlocked, LeavesAllThere}
use Rattle.archive_files.specs.UnlockedCopies.{Meanwhile}
use Rattle.archive_files.specs.History.{HasEach, HasOne, HoldsArchive, IsOneOf}
use Rattle.archive_files.specs.UnlockedPlaces.{FindsAll, FindsCases}
use Rattle.archive_files.specs.declared.unlocked_faults.AskFault.{AskFault}
use Rattle.archive_files.specs.declared.unlocked_faults.AskFault.TheVariants as fault
use Rattle.archive_files.proofs.UnlockedCopyLemmas.{stands_for}

-- the same end, by another name of its answer
pub as_answered : {D : Type 0} (U : disk.Ghosts D) (what : Said) (taken taken' : Option (List ℕ)) (lost lost' : ℕ) (before after : D) (r r' : Result Bool LifeFault)
    → LifeEnds U 0 (line_streams [] r taken taken' lost lost') before r after (AsksAlone U what taken taken') → r ≡ r' → AnswersOver U what taken taken' lost lost' before r'
as_answered U what taken taken' lost lost' before after r r' ends is =
    (after, subst (λ (x : Result Bool LifeFault). LifeEnds U 0 (line_streams [] x taken taken' lost lost') before x after (AsksAlone U what taken taken')) is ends)

module _ {S : Type 0} (g : shared.Ghosts S) (U : disk.Ghosts (Unlocked S g)) (s : S) (what : Said) where
  pub refused_first : (taken : Option (List ℕ)) (lost : ℕ) (first : Unlocked S g) (e : AskFault) → under first ≡ s → FindsCases U first (Err e) → AsksUnlocked g U s what taken taken lost lost (Err e)
  refused_first taken lost first (fault.Open f) is finds = (refl, refl, (first, is, finds.0, finds.1))
  refused_first taken lost first (fault.Archive f) is finds = (refl, refl, finds.2)
  refused_first taken lost first _ is finds = absurd finds

  pub refused_last : (taken taken' : Option (List ℕ)) (lost lost' : ℕ) (numbers : List ℕ) (e : AskFault) → AnswersInVain g U s what taken taken' lost lost' → LeavesAllThere g U s numbers (Err e)
      → ((n : ℕ) → IsOneOf numbers n → Meanwhile g s (λ x ys. HasOne x n)) → AsksUnlocked g U s what taken taken' lost lost' (Err e)
  refused_last taken taken' lost lost' numbers (fault.Look f) told leaves there = told
  refused_last taken taken' lost lost' numbers (fault.Reopen f) told leaves there = (told, leaves)
  refused_last taken taken' lost lost' numbers fault.Gone told leaves there = (
    told,
    λ shape x ys honest holds.
        let again = leaves.2 honest in
        (leaves.0, there leaves.0 leaves.1 shape x ys honest holds, again.2 (last_state x ys) (stands_for shape again.0 (last_state x ys) (holds.last again.0 again.1))),
  )
  refused_last taken taken' lost lost' numbers _ told leaves there = absurd leaves

  -- what was told, where all cases are there at the next look
  pub answered_between : (taken taken' : Option (List ℕ)) (lost lost' : ℕ) (t : S) (d : Unlocked S g) (numbers : List ℕ) (done : Bool) (v : Unit {0}) → t ≡ s → under d ≡ s → AnswersOver U what taken taken' lost lost' d (Ok done)
      → LeavesAllThere g U t numbers (Ok v) → ((shape : Shape) (x : Durable) (ys : List Durable) → IsTrue (g.is_honest s) → HoldsArchive g s shape x ys → HasEach (last_state x ys) numbers → IsTrue (U.is_honest d))
      → AsksUnlocked g U s what taken taken' lost lost' (Ok done)
  answered_between taken taken' lost lost' t d numbers done v same is told leaves honestly = (
    d,
    is,
    told,
    λ shape x ys honest holds.
        let again = subst (λ (y : S). LeavesAllThere g U y numbers (Ok v)) same leaves honest in
        honestly shape x ys honest holds (again.2 (last_state x ys) (stands_for shape again.0 (last_state x ys) (holds.last again.0 again.1))),
  )

module _ {S : Type 0} (g : shared.Ghosts S) (U : disk.Ghosts (Unlocked S g)) (s : S) where
  -- it could not be opened again
  pub not_opened : (t : S) (second : Unlocked S g) (numbers : List ℕ) (e : AskFault) → LooksAnew g s t → under second ≡ t → FindsAll U second numbers (Err e) → LeavesAllThere g U s numbers (Err e)
  not_opened t second numbers (fault.Reopen f) looks is finds = (t, looks, (second, is, finds.0, finds.1))
  not_opened t second numbers _ looks is finds = absurd finds
