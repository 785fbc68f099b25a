-- What a screen of a core is made of.
use Rattle.std.proofs.Common.{◌≡◌, ◌≤◌, ⊎_elim, inl, inr, ℕ, List, Option, length, min, Result, Ok, Err, IfOk, ap, refl, sym, subst, ◌∙◌, arith}
use Rattle.std.proofs.lemmas.List.{length-take}
use Rattle.address_space.specs.Source.{ExecutableView}
use Rattle.address_space.specs.Whole.{IsFrontOf}
use Rattle.build_replies.specs.Builds.{NamedId}
use Rattle.case_queries.specs.Facts.{SaysFacts}
use Rattle.case_queries.specs.Fronts.{HasSize, IsSoundFront}
use Rattle.case_queries.specs.Seeing.{SeesImage}
use Rattle.case_queries.proofs.WindowLemmas.{sized}
use Rattle.case_queries.specs.declared.facts.CoreFacts.{CoreFacts}
use Rattle.case_screens.specs.Core.{notes_in}
use Rattle.case_screens.specs.declared.answer.CoreAnswers.{CoreAnswers}
use Rattle.disk_model.specs.declared.disk.Disk as disk
use Rattle.elf_view.specs.Sound.{IsHeaderWhole, IsSound}
use Rattle.elf_view.specs.declared.faults.Want.{Want}
use Rattle.elf_view.specs.declared.faults.Want.TheVariants.{Core}
use Rattle.image_replies.specs.CoreWords.{core_bytes}
use Rattle.image_replies.specs.declared.core_image.CoreFault.{CoreFault}
use Rattle.image_replies.specs.declared.core_image.CoreImage.{CoreImage}
use Rattle.intake.specs.Parts.{Parts, state_of}
use Rattle.intake.specs.State.{ArchiveState}
use Rattle.case_info.specs.Fronts.{IsFront}
use Rattle.case_info.specs.declared.case.InfoWords.{InfoWords}
use Rattle.case_info.specs.Screens.{AsksCore, FindsFacts, shown_count}

-- the bytes of a core that was read
pub bytes_in : (r : Result CoreImage CoreFault) (core : CoreImage) (front : List ℕ) → r ≡ Ok core → IfOk r (λ c. core_bytes c ≡ front) → core_bytes core ≡ front
bytes_in r core front is bytes = subst (λ q. IfOk q (λ c. core_bytes c ≡ front)) is bytes

-- what is sound as a core, by a name of what it is wanted as
pub sound_core : (want : Want) (b front : List ℕ) → want ≡ Core → b ≡ front → IsHeaderWhole b → IsSound want b → IsSoundFront Core front
sound_core want b front is same whole sound = subst (IsSoundFront Core) same (whole, subst (λ w. IsSound w b) is sound)

-- an image of the same size that begins so has the same first bytes
pub front_again : (want : Want) (front image other : List ℕ) (size : ℕ) → length image ≡ size → IsFrontOf front size other → IsFront want front image → IsFront want front other
front_again want front image other size long begins is = record {
  begins = begins.1;
  enough = ⊎_elim (λ all. inl (all ∙ long ∙ sym begins.0)) (λ sound. inr sound) is.enough;
  first = subst (λ n. min n 65536 ≤ length front) (long ∙ sym begins.0) is.first;
}

-- the same facts, by other names of the first bytes, of the size, of the executables and of the number of threads
pub says_same : {D : Type 0} (g : disk.Ghosts D) (old new : Parts D) (seq : ℕ) (first front : List ℕ) (size long : ℕ) (told : Option (List NamedId)) (xs ys : List ExecutableView) (n m lines : ℕ) (facts : CoreFacts) → first ≡ front → size ≡ long → xs ≡ ys → n ≡ m
    → SaysFacts g old seq first size told xs n lines facts new → SaysFacts g old seq front long told ys m lines facts new
says_same g old new seq first front size long told xs ys n m lines facts begins is_long are is_many says =
    let many = subst (λ k. SaysFacts g old seq first size told xs k lines facts new) is_many says in
    let with_all = subst (λ (zs : List ExecutableView). SaysFacts g old seq first size told zs m lines facts new) are many in
    subst (λ b. SaysFacts g old seq b long told ys m lines facts new) begins (subst (λ k. SaysFacts g old seq first k told ys m lines facts new) is_long with_all)

module _ {D : Type 0} (g : disk.Ghosts D) (old mid : Parts D) (seq : ℕ) (image : List ℕ) (words : InfoWords) (a : CoreAnswers) where
  pub asks_none : (r : Result CoreImage CoreFault) (f : CoreFault) → r ≡ Err f → AsksCore g old mid seq image words r a mid
  asks_none r f is = subst (λ q. AsksCore g old mid seq image words q a mid) (sym is) refl

  pub asks_some : (r : Result CoreImage CoreFault) (core : CoreImage) (new : Parts D) → r ≡ Ok core → FindsFacts g old mid seq image (core_bytes core) (shown_count words (notes_in image)) a new → AsksCore g old mid seq image words r a new
  asks_some r core new is finds = subst (λ q. AsksCore g old mid seq image words q a new) (sym is) finds

module _ {D : Type 0} (g : disk.Ghosts D) (old mid : Parts D) (seq size : ℕ) (image : List ℕ) (has : HasSize (state_of old) seq size) (sees : SeesImage g old seq image mid) where
  pub has_still : HasSize (state_of mid) seq size
  has_still = subst (λ (s : ArchiveState). HasSize s seq size) (sym sees.state) has

  pub front_short : (front : List ℕ) → IsFront Core front image → length front ≤ size
  front_short front is =
      let same = ap length is.begins in
      let cut = length-take (length front) image in
      let long = sized g old mid seq size image has sees in
      omega (arith, same, cut, long)
