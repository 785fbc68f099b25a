-- Executables that are gathered one after the other.
use Rattle.std.proofs.Common.{◌≡◌, inl, inr, ℕ, zero, suc, Bool, ◌+◌, ◌<◌, ◌≤◌, List, [], ◌∷◌, ◌++◌, length, map, drop, take, get_or, Result, Ok, Err, refl, sym, ap, subst, ◌∙◌, arith, append_assoc}
use Rattle.std.proofs.Math.Seq.{drop-cons}
use Rattle.std.proofs.lemmas.List.{append-nil, map-append, take_all, take_more}
use Rattle.std.proofs.lemmas.List.Elements.{filter-append}
use Rattle.std.specs.List.{filter}
use Rattle.address_space.specs.Source.{ExecutableView}
use Rattle.disk_model.specs.declared.disk.Disk as disk
use Rattle.intake.specs.Parts.{Parts}
use Rattle.intake.specs.declared.faults.ArchiveFault.{ArchiveFault}
use Rattle.intake.specs.declared.faults.ArchiveFault.TheVariants.{OutOfMemory}
use Rattle.journal_layout.specs.Case.{case_of, Case}
use Rattle.journal_layout.specs.declared.entry.Entry.{Entry}
use Rattle.case_queries.specs.Collecting.{Collects, Wanted, wanted_case, with_executable}
use Rattle.case_queries.specs.CollectingWords.{joined, read_as, wanted_view}
use Rattle.case_queries.specs.declared.collect_executables.StoredExecutable.{StoredExecutable}
use Rattle.case_queries.specs.declared.collect_executables.WantedCase.{WantedCase}
use Rattle.case_queries.specs.Seeing.{LooksAt}

one_more : (front : List ExecutableView) (x : ExecutableView) (r : Result (List ExecutableView) ArchiveFault) → joined front (with_executable x.path x.image r) ≡ joined (front ++ x ∷ []) r
one_more front x (Ok others) = ap (λ (xs : List ExecutableView). Ok xs) (sym (append_assoc front (x ∷ []) others))
one_more front x (Err f) = refl

module _ {D : Type 0} (g : disk.Ghosts D) (old : Parts D) (all : List Wanted) where
  -- whatever comes of those that are left, it is what comes of all, behind these
  abbrev pub GoesOn : List ExecutableView → Parts D → List Wanted → Type 0
  GoesOn front now left = (r : Result (List ExecutableView) ArchiveFault) (new : Parts D) → Collects g now left r new → Collects g old all (joined front r) new

  pub read_on : (front : List ExecutableView) (now mid : Parts D) (seq : ℕ) (path image : List ℕ) (left : List Wanted) → GoesOn front now ((seq, path) ∷ left)
      → LooksAt g now seq (Ok image) mid → GoesOn (front ++ record { path = path; image = image } ∷ []) mid left
  read_on front now mid seq path image left goes looks r new collects =
      subst (λ (x : Result (List ExecutableView) ArchiveFault). Collects g old all x new) (one_more front (record { path = path; image = image }) r)
      (goes (with_executable path image r) new (Ok image, mid, looks, inr (r, collects, refl)))

  pub read_short : (front : List ExecutableView) (now mid : Parts D) (seq : ℕ) (path image : List ℕ) (left : List Wanted) → GoesOn front now ((seq, path) ∷ left)
      → LooksAt g now seq (Ok image) mid → Collects g old all (Err OutOfMemory) mid
  read_short front now mid seq path image left goes looks = goes (Err OutOfMemory) mid (Ok image, mid, looks, inl (refl, refl))

  pub read_refused : (front : List ExecutableView) (now mid : Parts D) (seq : ℕ) (path : List ℕ) (f : ArchiveFault) (left : List Wanted) → GoesOn front now ((seq, path) ∷ left)
      → LooksAt g now seq (Err f) mid → Collects g old all (Err f) mid
  read_refused front now mid seq path f left goes looks = goes (Err f) mid (Err f, mid, looks, (refl, refl))

  -- nothing is read yet
  pub read_none : (front : List ExecutableView) → front ≡ [] → GoesOn front old all
  read_none front none (Ok others) new collects = subst (λ (xs : List ExecutableView). Collects g old all (Ok (xs ++ others)) new) (sym none) collects
  read_none front none (Err f) new collects = collects

  -- all is read
  pub read_all : (front : List ExecutableView) (now : Parts D) (left : List Wanted) → GoesOn front now left → left ≡ [] → Collects g old all (Ok front) now
  read_all front now left goes none =
      subst (λ (xs : List ExecutableView). Collects g old all (Ok xs) now) (append-nil front)
      (goes (Ok []) now (subst (λ (xs : List Wanted). Collects g now xs (Ok []) now) (sym none) (refl, refl)))

drop_nil : {A : Type 0} (n : ℕ) → drop {A = A} n [] ≡ []
drop_nil zero = refl
drop_nil (suc n) = refl

-- those that are left from a place on, and from behind the last
pub left_cons : (ws : List WantedCase) (i : ℕ) (w : WantedCase) → i < length ws → w ≡ get_or ws i w → map wanted_view (drop i ws) ≡ wanted_view w ∷ map wanted_view (drop (i + 1) ws)
left_cons ws i w within is =
    let e : suc i ≡ i + 1 = omega arith in
    ap (map wanted_view) (drop-cons ws i w within)
    ∙ ap (λ (x : WantedCase). wanted_view x ∷ map wanted_view (drop (suc i) ws)) (sym is)
    ∙ ap (λ (n : ℕ). wanted_view w ∷ map wanted_view (drop n ws)) e

pub left_none : (ws : List WantedCase) (i : ℕ) → length ws ≤ i → map wanted_view (drop i ws) ≡ []
left_none [] i past = ap (map wanted_view) (drop_nil i)
left_none (w ∷ ws) zero past = absurd (omega (arith, past))
left_none (w ∷ ws) (suc i) past = left_none ws i (omega (arith, past))

-- the cases that pass a test
abbrev picked : (Case → Bool) → List Case → List Wanted
picked p cases = map wanted_case (filter p cases)

picked_both : (p : Case → Bool) (xs ys : List Case) → picked p (xs ++ ys) ≡ picked p xs ++ picked p ys
picked_both p xs ys = ap (map wanted_case) (filter-append p xs ys) ∙ map-append wanted_case (filter p xs) (filter p ys)

-- those of the cases that went by, and of the next
pub picked_more : (p : Case → Bool) (es : List Entry) (i : ℕ) (e : Entry) (old new : List Wanted) → i < length es → e ≡ get_or es i e
    → old ≡ map wanted_case (filter p (map case_of (take i es))) → new ≡ old ++ map wanted_case (filter p (case_of e ∷ []))
    → new ≡ map wanted_case (filter p (map case_of (take (i + 1) es)))
picked_more p es i e old new within is before after =
    let next : map case_of (take (i + 1) es) ≡ map case_of (take i es) ++ case_of e ∷ [] =
    ap (map case_of) (take_more es i e within)
    ∙ map-append case_of (take i es) (get_or es i e ∷ [])
    ∙ ap (λ (x : Entry). map case_of (take i es) ++ case_of x ∷ []) (sym is) in
    after ∙ ap (λ (xs : List Wanted). xs ++ picked p (case_of e ∷ [])) before
    ∙ sym (picked_both p (map case_of (take i es)) (case_of e ∷ []))
    ∙ ap (picked p) (sym next)

-- a case that is read more
pub read_more : (found more : List StoredExecutable) (ws : List WantedCase) (i : ℕ) (w : WantedCase) → i < length ws → w ≡ get_or ws i w
    → map read_as found ≡ map wanted_view (take i ws) → map read_as more ≡ map read_as found ++ wanted_view w ∷ [] → map read_as more ≡ map wanted_view (take (i + 1) ws)
read_more found more ws i w within is are after =
    after ∙ ap (λ (xs : List Wanted). xs ++ wanted_view w ∷ []) are
    ∙ ap (λ (x : WantedCase). map wanted_view (take i ws) ++ wanted_view x ∷ []) is
    ∙ sym (ap (map wanted_view) (take_more ws i w within) ∙ map-append wanted_view (take i ws) (get_or ws i w ∷ []))

pub all_read : (found : List StoredExecutable) (ws : List WantedCase) (i : ℕ) → map read_as found ≡ map wanted_view (take i ws) → length ws ≤ i → map read_as found ≡ map wanted_view ws
all_read found ws i are past = are ∙ ap (map wanted_view) (take_all i ws past)
