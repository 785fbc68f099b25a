-- What the first bytes of an image say is what the image says.
use Rattle.std.proofs.Common.{◌≡◌, ◌≤◌, ⊎_elim, inl, inr, ℕ, List, length, min, take, None, Result, Ok, Err, IfOk, Vec, Global, ap, sym, subst, ◌∙◌, arith}
use Rattle.std.specs.Result.{result_err}
use Rattle.std.proofs.lemmas.List.{take-take, take_all, take_min}
use Rattle.case_queries.specs.Fronts.{ReadsEnough}
use Rattle.disk_model.specs.declared.disk.Disk as disk
use Rattle.elf_view.specs.Sound.{IsHeaderWhole, IsSound, first_fault}
use Rattle.elf_view.specs.ViewWords.{header_of, notes_of}
use Rattle.elf_view.specs.declared.faults.Want.{Want}
use Rattle.elf_view.specs.declared.faults.Want.TheVariants.{Core, Exec}
use Rattle.intake.specs.Parts.{Parts}
use Rattle.image_replies.specs.Core.{core_fault_of}
use Rattle.image_replies.specs.CoreWords.{core_bytes}
use Rattle.image_replies.specs.declared.core_image.CoreFault.{CoreFault}
use Rattle.image_replies.specs.declared.core_image.CoreImage.{CoreImage}
use Rattle.case_screens.specs.Core.{header_in, notes_in, notes_read, unless}
use Rattle.case_info.specs.Fronts.{IsFront, SeesFront, first_bytes}

-- a front that is all of an image is the image
all_of : (front image : List ℕ) → front ≡ take (length front) image → length front ≡ length image → front ≡ image
all_of front image begins all = begins ∙ ap (λ n. take n image) all ∙ take_all (length image) image (omega arith)

-- What a front says that is all of the image, or sound, the image says too.
pub says_same : {A : Type 0} (says : List ℕ → A) (want : Want) (front image : List ℕ) → ((b : List ℕ) (n : ℕ) → IsHeaderWhole (take n b) → IsSound want (take n b) → says (take n b) ≡ says b)
    → IsFront want front image → says front ≡ says image
says_same says want front image law is =
    ⊎_elim
    (λ all. ap says (all_of front image is.begins all))
    (λ sound. ap says is.begins ∙ law image (length front) (subst IsHeaderWhole is.begins sound.0) (subst (IsSound want) is.begins sound.1))
    is.enough

-- what a core's view gives
pub read_as : (front : List ℕ) (r : Result CoreImage CoreFault) → result_err r ≡ core_fault_of front → IfOk r (λ core. core_bytes core ≡ front) → notes_read r ≡ notes_in front
read_as front (Ok core) fault bytes = ap (λ b. Ok (notes_of Core b)) bytes ∙ ap (λ f. unless f (notes_of Core front)) fault
read_as front (Err f) fault bytes = ap (λ f. unless f (notes_of Core front)) fault

first_cut : (k : ℕ) (front image : List ℕ) → front ≡ take (length front) image → min (length image) k ≤ length front → take (min (length front) k) front ≡ take k image
first_cut k front image begins least =
    let same : min (min (length front) k) (length image) ≡ min k (length image) = omega (arith, least) in
    ap (take (min (length front) k)) begins
    ∙ take-take (min (length front) k) (length front) image (omega arith)
    ∙ sym (take_min (min (length front) k) image)
    ∙ ap (λ n. take n image) same
    ∙ take_min k image

-- the first bytes of a front are those of the image
pub first_same : (want : Want) (front image : List ℕ) → IsFront want front image → take (min (length front) 65536) front ≡ first_bytes image
unfolding first_bytes
first_same want front image is = first_cut 65536 front image is.begins is.first

pub notes_same : (front image : List ℕ) → core_fault_of front ≡ core_fault_of image → notes_of Core front ≡ notes_of Core image → notes_in front ≡ notes_in image
notes_same front image fault notes = ap (λ f. unless f (notes_of Core front)) fault ∙ ap (λ ns. unless (core_fault_of image) ns) notes

pub header_same : (front image : List ℕ) → first_fault Exec front ≡ None → first_fault Exec image ≡ None → header_of front ≡ header_of image → header_in front ≡ header_in image
header_same front image sound whole header =
    ap (λ f. unless f (header_of front)) sound ∙ ap (λ h. unless None h) header ∙ sym (ap (λ f. unless f (header_of image)) whole)

-- bytes that are enough are first bytes
pub sees_front : {D : Type 0} (g : disk.Ghosts D) (old new : Parts D) (seq size : ℕ) (want : Want) (front : Vec ℕ Global) → ReadsEnough g old seq want size (Ok front) new → SeesFront g old seq want front.items new
sees_front g old new seq size want front reads = (
  reads.0,
  reads.1,
  record {
    begins = reads.2;
    enough = ⊎_elim (λ all. inl (all ∙ sym reads.3)) (λ sound. inr sound) reads.4;
    first = subst (λ n. min n 65536 ≤ length front.items) (sym reads.3) reads.5;
  },
)
