-- What is found of what is unpacked.
use Rattle.std.proofs.Common.{◌≡◌, ℕ, List, map, Option, None, Some, Result, Ok, Err, Vec, Global, refl, ap, sym, subst, ◌∙◌}
use Rattle.std.specs.Borrow.{Bor}
use Rattle.std.specs.Option.{option_map}
use Rattle.build_replies.specs.Mapped.{answers_view, build_view}
use Rattle.build_replies.specs.declared.answers.BuildAnswer.{BuildAnswer}
use Rattle.case_screens.specs.Core.{notes_in, notes_read}
use Rattle.disk_model.specs.declared.disk.Disk as disk
use Rattle.elf_view.specs.NoteList.{NoteView}
use Rattle.elf_view.specs.ViewWords.{notes_of}
use Rattle.elf_view.specs.declared.faults.Want.TheVariants.{Core}
use Rattle.image_replies.specs.CoreWords.{core_bytes}
use Rattle.image_replies.specs.declared.core_image.CoreFault.{CoreFault}
use Rattle.image_replies.specs.declared.core_image.CoreImage.{CoreImage}
use Rattle.archive_files.specs.declared.failures.Refusal.TheVariants.{Open}
use Rattle.intake.specs.Parts.{Parts}
use Rattle.intake.specs.State.{ArchiveState}
use Rattle.intake.specs.Step.{HasCase}
use Rattle.journal_layout.specs.Case.{Case}
use Rattle.journal_layout.specs.declared.entry.Kind.{Kind}
use Rattle.journal_layout.specs.declared.entry.Kind.TheVariants as kinds
use Rattle.journal_layout.specs.declared.faults.OpenFault.{OpenFault}
use Rattle.shared_disk.specs.declared.shared.SharedDisk as shared
use Rattle.shared_disk.specs.declared.unlocked.Unlocked.{Unlocked}
use Rattle.case_info.specs.Unpacking.{AsksUnpacked, FindsUnpacked, HasFiles, IsWithoutFiles, UnpackedValue, UnpacksBetween, UnpacksBy, UnpacksKind, unpacked_with}
use Rattle.case_info.specs.declared.unpacking.Unpacking.{Unpacking}

-- the rows that are lent are those that were found
pub unpacked_by : (cases : List Case) (lent : Option (Bor (List BuildAnswer))) (found : Option (Vec BuildAnswer Global)) → option_map (λ (rows : Bor (List BuildAnswer)). rows.now) lent ≡ option_map (λ (v : Vec BuildAnswer Global). v.items) found
    → unpacked_with cases (option_map (λ (rows : Bor (List BuildAnswer)). map build_view rows.now) lent) ≡ unpacked_with cases (answers_view found)
unpacked_by cases lent found is =
    ap (unpacked_with cases) (twice lent) ∙ ap (λ (o : Option (List BuildAnswer)). unpacked_with cases (option_map (map build_view) o)) is ∙ ap (unpacked_with cases) (sym (owned found))
  where
    twice : (o : Option (Bor (List BuildAnswer))) → option_map (λ (rows : Bor (List BuildAnswer)). map build_view rows.now) o ≡ option_map (map build_view) (option_map (λ (rows : Bor (List BuildAnswer)). rows.now) o)
    twice None = refl
    twice (Some rows) = refl

    owned : (o : Option (Vec BuildAnswer Global)) → answers_view o ≡ option_map (map build_view) (option_map (λ (v : Vec BuildAnswer Global). v.items) o)
    owned None = refl
    owned (Some v) = refl

-- two cases of one number are one
pub same_case : (s : ArchiveState) (seq : ℕ) (x y : Case) → HasCase s seq x → HasCase s seq y → x ≡ y
same_case s seq x y has also = inside (sym has.1 ∙ also.1)
  where
    inside : Some x ≡ Some y → x ≡ y
    inside e = cc

module _ {D : Type 0} (g : disk.Ghosts D) (old mid : Parts D) (seq : ℕ) (image : List ℕ) (u : Unpacking) (r : Result CoreImage CoreFault) (notes : notes_read r ≡ notes_in image) where
  -- that of a core that has a fault
  pub asks_faulty : (f : CoreFault) → r ≡ Err f → IsWithoutFiles seq f u → AsksUnpacked g old mid seq image (notes_in image) u mid
  asks_faulty f is without = subst (λ (ns : Result (List NoteView) CoreFault). AsksUnpacked g old mid seq image ns u mid) (sym (ap notes_read is) ∙ notes) (without, refl)

  pub asks_unpacked : (new : Parts D) (core : CoreImage) (files : List UnpackedValue) → r ≡ Ok core → FindsUnpacked g old mid seq image files new → HasFiles seq (notes_of Core (core_bytes core)) files u
      → AsksUnpacked g old mid seq image (notes_in image) u new
  asks_unpacked new core files is finds has = subst (λ (ns : Result (List NoteView) CoreFault). AsksUnpacked g old mid seq image ns u new) (sym (ap notes_read is) ∙ notes) (files, finds, has)

-- it is of the case that was asked for
asked_number : {D : Type 0} (g : disk.Ghosts D) (old mid : Parts D) (seq : ℕ) (image : List ℕ) (notes : Result (List NoteView) CoreFault) (u : Unpacking) (new : Parts D) → AsksUnpacked g old mid seq image notes u new → u.seq ≡ seq
asked_number g old mid seq image (Ok notes) u new asks = asks.2.case
asked_number g old mid seq image (Err fault) u new asks = asks.0.case

kind_number : {D : Type 0} (g : disk.Ghosts D) (old : Parts D) (c : Case) (seq : ℕ) (u : Unpacking) (new : Parts D) (kind : Kind) → UnpacksKind g old c seq u new kind → u.seq ≡ seq
kind_number g old c seq u new kinds.Core unpacks = asked_number g old unpacks.1 seq unpacks.0 (notes_in unpacks.0) u new unpacks.3
kind_number g old c seq u new kinds.Exec unpacks = unpacks.0.case

opened_number : {D : Type 0} (g : disk.Ghosts D) (seq : ℕ) (u : Unpacking) (opened : Result (Parts D) (OpenFault × D)) → UnpacksBy g seq opened (Ok u) → u.seq ≡ seq
opened_number g seq u (Ok a) unpacks = kind_number g a unpacks.0 seq u unpacks.2 unpacks.0.origin.kind unpacks.3
opened_number g seq u (Err (fault, d)) unpacks = absurd (let e : Ok u ≡ Err (Open fault) = unpacks in cc)

pub own_number : {S : Type 0} (g : shared.Ghosts S) (U : disk.Ghosts (Unlocked S g)) (s : S) (seq : ℕ) (u : Unpacking) → UnpacksBetween g U s seq (Ok u) → UnpacksBetween g U s u.seq (Ok u)
own_number g U s seq u between = subst (λ (n : ℕ). UnpacksBetween g U s n (Ok u)) (sym (opened_number U seq u between.2.0 between.2.2)) between
