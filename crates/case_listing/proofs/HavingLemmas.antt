-- One case more that is searched.
use Rattle.std.proofs.Common.{◌≡◌, ℕ, ◌<◌, ◌+◌, Bool, List, [], ◌∷◌, ◌++◌, if◌then◌else◌, take, length, get_or, Result, Ok, Err, IfOk, refl, sym, ap, subst, ◌∙◌, append_assoc}
use Rattle.std.proofs.lemmas.List.{append-nil, take_more}
use Rattle.archive_files.specs.declared.failures.Refusal.{Refusal}
use Rattle.disk_model.specs.declared.disk.Disk as disk
use Rattle.intake.specs.Parts.{Parts}
use Rattle.case_listing.specs.Having.{FindsAmong, HasText}

-- the number of a case, if it has the bytes
abbrev pub if_has : Bool → ℕ → List ℕ
if_has has seq = if has then seq ∷ [] else []

-- those that went by, and then one more
pub among_more : {D : Type 0} (g : disk.Ghosts D) (sought seqs found : List ℕ) (old mid new : Parts D) (seq : ℕ) (has : Bool)
    → FindsAmong g old sought seqs found mid → HasText g mid sought seq has new
    → FindsAmong g old sought (seqs ++ seq ∷ []) (found ++ if_has has seq) new
among_more g sought [] found old mid new seq has so_far one =
    (has, new, subst (λ m. HasText g m sought seq has new) so_far.1 one, [], ap (λ f. f ++ if_has has seq) so_far.0 ∙ sym (append-nil (if_has has seq)), (refl, refl))
among_more g sought (s ∷ seqs) found old mid new seq has so_far one = (
  so_far.0,
  so_far.1,
  so_far.2,
  so_far.3 ++ if_has has seq,
  ap (λ f. f ++ if_has has seq) so_far.4 ∙ append_assoc (if_has so_far.0 s) so_far.3 (if_has has seq),
  among_more g sought seqs so_far.3 so_far.1 mid new seq has so_far.5 one,
)

-- the first so many, and the next one
pub next_number : (ns : List ℕ) (i : ℕ) → i < length ns → take i ns ++ get_or ns i 0 ∷ [] ≡ take (i + 1) ns
next_number ns i within = sym (take_more ns i 0 within)

-- with the archive as it is afterwards
pub with_new : {T D : Type 0} (P : T → D → Type 0) (new : D) (r : Result T Refusal) → IfOk r (λ x. P x new) → IfOk r (λ x. (n : D) × P x n)
with_new P new (Ok x) holds = (new, holds)
with_new P new (Err e) holds = holds
