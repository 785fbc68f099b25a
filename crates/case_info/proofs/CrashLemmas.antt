-- The crashes of cores, one after the other.
use Rattle.std.proofs.Common.{◌≡◌, ◌<◌, ◌+◌, ℕ, List, [], ◌∷◌, ◌++◌, length, take, get_or, Result, Ok, Err, refl, sym, subst}
use Rattle.std.proofs.lemmas.List.{take_more}
use Rattle.core_crashes.specs.Crashes.{CrashedSaid}
use Rattle.disk_model.specs.declared.disk.Disk as disk
use Rattle.image_replies.specs.CoreWords.{core_bytes}
use Rattle.image_replies.specs.declared.core_image.CoreFault.{CoreFault}
use Rattle.image_replies.specs.declared.core_image.CoreImage.{CoreImage}
use Rattle.intake.specs.Parts.{Parts}
use Rattle.case_info.specs.Crashes.{AsksCrash, FindsCrash, IsRefusedBy, SeesCrash, SeesCrashes}

module _ {D : Type 0} (g : disk.Ghosts D) (old mid : Parts D) (seq : ℕ) (image : List ℕ) (crash : CrashedSaid) where
  pub asks_fault : (r : Result CoreImage CoreFault) (f : CoreFault) → r ≡ Err f → IsRefusedBy mid seq f crash → AsksCrash g old mid seq image r crash mid
  asks_fault r f is refused = subst (λ q. AsksCrash g old mid seq image q crash mid) (sym is) (refl, refused)

  pub asks_crash : (r : Result CoreImage CoreFault) (core : CoreImage) (new : Parts D) → r ≡ Ok core → FindsCrash g old mid seq image (core_bytes core) crash new → AsksCrash g old mid seq image r crash new
  asks_crash r core new is finds = subst (λ q. AsksCrash g old mid seq image q crash new) (sym is) finds

-- one core more
pub sees_crash_more : {D : Type 0} (g : disk.Ghosts D) (seqs : List ℕ) (crashes : List CrashedSaid) (old mid new : Parts D) (seq : ℕ) (crash : CrashedSaid) → SeesCrashes g old seqs crashes mid → SeesCrash g mid seq crash new
    → SeesCrashes g old (seqs ++ seq ∷ []) (crashes ++ crash ∷ []) new
sees_crash_more g [] [] old mid new seq crash is sees = (new, subst (λ a. SeesCrash g a seq crash new) is sees, refl)
sees_crash_more g [] (k ∷ ks) old mid new seq crash each sees = absurd each
sees_crash_more g (n ∷ ns) [] old mid new seq crash each sees = absurd each
sees_crash_more g (n ∷ ns) (k ∷ ks) old mid new seq crash each sees = (each.0, each.1, sees_crash_more g ns ks each.0 mid new seq crash each.2 sees)

-- the next number of a list
pub next_number : (ns : List ℕ) (i : ℕ) → i < length ns → take i ns ++ get_or ns i 0 ∷ [] ≡ take (i + 1) ns
next_number ns i within = sym (take_more ns i 0 within)
