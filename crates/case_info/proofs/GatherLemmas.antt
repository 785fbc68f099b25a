-- What is told of the mapped files of cores, and what is found between two looks.
use Rattle.std.proofs.Common.{◌≡◌, ◌<◌, ◌+◌, ℕ, List, [], ◌∷◌, ◌++◌, length, map, take, get_or, Option, None, Some, Result, Ok, Err, IfErr, IfOk, IsTrue, Vec, Global, refl, ap, sym, subst, ◌∙◌}
use Rattle.std.proofs.lemmas.List.{map-append, take_more}
use Rattle.std.specs.Borrow.{Bor}
use Rattle.std.specs.Option.{option_map}
use Rattle.archive_files.specs.declared.failures.Refusal.{Refusal}
use Rattle.build_replies.specs.Builds.{BuildValue}
use Rattle.build_replies.specs.Mapped.{answers_view, build_view}
use Rattle.build_replies.specs.declared.answers.BuildAnswer.{BuildAnswer}
use Rattle.case_screens.specs.Core.{notes_in, notes_read}
use Rattle.disk_model.specs.declared.disk.Disk as disk
use Rattle.elf_view.specs.NoteList.{NoteView}
use Rattle.image_replies.specs.declared.core_image.CoreFault.{CoreFault}
use Rattle.image_replies.specs.declared.core_image.CoreImage.{CoreImage}
use Rattle.intake.specs.Durable.{Durable}
use Rattle.intake.specs.InTurn.{last_state}
use Rattle.intake.specs.Parts.{Parts}
use Rattle.journal_layout.specs.declared.shape.Shape.{Shape}
use Rattle.pruning.specs.declared.dropping.Pruning.{Pruning}
use Rattle.retention.specs.declared.Policy.{Policy}
use Rattle.shared_disk.specs.Looks.{under}
use Rattle.shared_disk.specs.declared.shared.SharedDisk as shared
use Rattle.shared_disk.specs.declared.unlocked.Unlocked.{Unlocked}
use Rattle.archive_files.specs.UnlockedAsks.{LeavesAllThere}
use Rattle.archive_files.specs.UnlockedCopies.{Meanwhile}
use Rattle.archive_files.specs.History.{HasEach, HoldsArchive}
use Rattle.archive_files.proofs.UnlockedCopyLemmas.{stands_for}
use Rattle.case_info.specs.Gathering.{AsksBuilds, CaseValue, FileValue, FilesBetween, FilesOn, FindsBuilds, Gathers, GathersBetween, GathersOn, SeesEach, SeesFilesOf, files_with, listed_view}
use Rattle.case_info.specs.Planning.{IsPlan, PlansIn}
use Rattle.case_info.specs.Unpacking.{UnpacksBetween, UnpacksOn}
use Rattle.case_info.specs.declared.gathering.Gathered.{Gathered}
use Rattle.case_info.specs.declared.gathering.ListedCase.{ListedCase}
use Rattle.case_info.specs.declared.kept_files.KeptFile.{KeptFile}
use Rattle.case_info.specs.declared.unpacking.Unpacking.{Unpacking}

-- the rows that are lent are those that were found
pub files_by : (lent : Option (Bor (List BuildAnswer))) (found : Option (Vec BuildAnswer Global)) → option_map (λ (rows : Bor (List BuildAnswer)). rows.now) lent ≡ option_map (λ (v : Vec BuildAnswer Global). v.items) found
    → files_with (option_map (λ (rows : Bor (List BuildAnswer)). map build_view rows.now) lent) ≡ files_with (answers_view found)
files_by lent found is =
    ap files_with (twice lent) ∙ ap (λ (o : Option (List BuildAnswer)). files_with (option_map (map build_view) o)) is ∙ ap files_with (sym (owned found))
  where
    twice : (o : Option (Bor (List BuildAnswer))) → option_map (λ (rows : Bor (List BuildAnswer)). map build_view rows.now) o ≡ option_map (map build_view) (option_map (λ (rows : Bor (List BuildAnswer)). rows.now) o)
    twice None = refl
    twice (Some rows) = refl

    owned : (o : Option (Vec BuildAnswer Global)) → answers_view o ≡ option_map (map build_view) (option_map (λ (v : Vec BuildAnswer Global). v.items) o)
    owned None = refl
    owned (Some v) = refl

-- what is no refusal
pub passes_ok : (q : Result (List NoteView) CoreFault) (r : Result (Vec KeptFile Global) Refusal) (v : Vec KeptFile Global) → r ≡ Ok v → IfErr q (λ (f : CoreFault). IfErr r (λ (why : Refusal). ⊥))
passes_ok (Ok notes) r v is = _
passes_ok (Err f) r v is = subst (λ (s : Result (Vec KeptFile Global) Refusal). IfErr s (λ (why : Refusal). ⊥)) (sym is) _

-- what is asked for a core that has a fault holds of one that has none
pub passes_core : (q : Result (List NoteView) CoreFault) (r : Result CoreImage CoreFault) (core : CoreImage) (P : CoreFault → Type 0) → notes_read r ≡ q → r ≡ Ok core → IfErr q P
passes_core q r core P notes is = subst (λ (ns : Result (List NoteView) CoreFault). IfErr ns P) (sym (ap notes_read is) ∙ notes) _

module _ {D : Type 0} (g : disk.Ghosts D) (old mid : Parts D) (seq : ℕ) (image : List ℕ) where
  -- nothing is told of a core that has a fault
  pub asks_fault : (r : Result CoreImage CoreFault) (f : CoreFault) → notes_read r ≡ notes_in image → r ≡ Err f → AsksBuilds g old mid seq image (notes_in image) None mid
  asks_fault r f notes is =
      subst (λ (ns : Result (List NoteView) CoreFault). AsksBuilds g old mid seq image ns None mid) (sym (ap notes_read is) ∙ notes) (refl, refl)

  pub asks_builds : (new : Parts D) (values : Option (List BuildValue)) (r : Result CoreImage CoreFault) (core : CoreImage) → notes_read r ≡ notes_in image → r ≡ Ok core → FindsBuilds g old mid seq image values new
      → AsksBuilds g old mid seq image (notes_in image) values new
  asks_builds new values r core notes is finds =
      subst (λ (ns : Result (List NoteView) CoreFault). AsksBuilds g old mid seq image ns values new) (sym (ap notes_read is) ∙ notes) finds

-- one case more
pub sees_more : {D : Type 0} (g : disk.Ghosts D) (cs : List CaseValue) (fs : List (List FileValue)) (old mid new : Parts D) (c : CaseValue) (files : List FileValue) → SeesEach g old cs fs mid → SeesFilesOf g mid c files new
    → SeesEach g old (cs ++ c ∷ []) (fs ++ files ∷ []) new
sees_more g [] [] old mid new c files is sees = (new, subst (λ a. SeesFilesOf g a c files new) is sees, refl)
sees_more g [] (f ∷ fs) old mid new c files each sees = absurd each
sees_more g (b ∷ bs) [] old mid new c files each sees = absurd each
sees_more g (b ∷ bs) (f ∷ fs) old mid new c files each sees = (each.0, each.1, sees_more g bs fs each.0 mid new c files each.2 sees)

-- the next case of a list
pub next_listed : (cs : List ListedCase) (i : ℕ) (x : ListedCase) → i < length cs → x ≡ get_or cs i x → map listed_view (take i cs) ++ listed_view x ∷ [] ≡ map listed_view (take (i + 1) cs)
next_listed cs i x within is =
    ap (λ (y : ListedCase). map listed_view (take i cs) ++ listed_view y ∷ []) is
    ∙ sym (map-append listed_view (take i cs) (get_or cs i x ∷ []))
    ∙ sym (ap (map listed_view) (take_more cs i x within))

-- what holds of an answer and the archive then, for some archive
pub with_new : {T D : Type 0} (P : T → D → Type 0) (new : D) (r : Result T Refusal) → IfOk r (λ x. P x new) → IfOk r (λ x. (n : D) × P x n)
with_new P new (Ok x) holds = (new, holds)
with_new P new (Err e) holds = holds

module _ {S : Type 0} (g : shared.Ghosts S) (U : disk.Ghosts (Unlocked S g)) (s t : S) (d : Unlocked S g) (numbers : List ℕ) (v : Unit {0}) (same : t ≡ s) (leaves : LeavesAllThere g U t numbers (Ok v))
    (honestly : (shape : Shape) (first : Durable) (ys : List Durable) → IsTrue (g.is_honest s) → HoldsArchive g s shape first ys → HasEach (last_state first ys) numbers → IsTrue (U.is_honest d)) where
  -- the disk was honest, where all cases are there at the next look
  meanwhile : Meanwhile g s (λ first ys. IsTrue (U.is_honest d))
  meanwhile = λ shape first ys honest holds.
      let again = subst (λ (y : S). LeavesAllThere g U y numbers (Ok v)) same leaves honest in
      honestly shape first ys honest holds (again.2 (last_state first ys) (stands_for shape again.0 (last_state first ys) (holds.last again.0 again.1)))

  pub gathered_between : (gathered : Gathered) → under d ≡ s → GathersOn U d (Ok gathered) → GathersBetween g U s (Ok gathered)
  gathered_between gathered is finds = (d, is, finds, meanwhile)

  pub files_between : (seq : ℕ) (files : Vec KeptFile Global) → under d ≡ s → FilesOn U seq d (Ok files) → FilesBetween g U s seq (Ok files)
  files_between seq files is finds = (d, is, finds, meanwhile)

  pub unpacked_between : (seq : ℕ) (u : Unpacking) → under d ≡ s → UnpacksOn U seq d (Ok u) → UnpacksBetween g U s seq (Ok u)
  unpacked_between seq u is finds = (d, is, finds, meanwhile)

-- what goes, by what was gathered
pub planned_by : {D : Type 0} (g : disk.Ghosts D) (policy : Policy) (old new : Parts D) (gathered : Gathered) (r : Result Pruning Refusal) → Gathers g old gathered new → IfOk r (IsPlan policy gathered) → IfOk r (λ p. PlansIn g policy old p new)
planned_by g policy old new gathered (Ok p) gathers is = (gathered, gathers, is)
planned_by g policy old new gathered (Err why) gathers is = is
