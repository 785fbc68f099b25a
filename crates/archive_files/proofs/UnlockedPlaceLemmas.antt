-- Several cases that are read between two looks.
use Rattle.std.proofs.Common.{◌≡◌, ◌∙◌, ◌<◌, zero, suc, cond, map, slice_index_or, arith, ◌++◌, ◌&&◌, ℕ, Bool, true, false, List, [], ◌∷◌, length, refl, sym, ap, subst, inl, inr, ⊎_elim, Ok, IsTrue, Some}
use Rattle.std.proofs.lemmas.Bool.{false≢true}
use Rattle.std.proofs.lemmas.Bool.Decides.{eqb_tells}
use Rattle.std.proofs.lemmas.Grind.{flat_map-append}
use Rattle.std.specs.List.{AllByRecursion, list_all}
use Rattle.disk_model.specs.Places.{part}
use Rattle.disk_model.specs.declared.disk.Disk as disk
use Rattle.intake.specs.Blocks.{image_in}
use Rattle.intake.specs.Calls.{OpenCall}
use Rattle.intake.specs.Durable.{Durable, FoundCase, StandsFor, found_case}
use Rattle.intake.specs.InTurn.{ACaseIsThereBetween, StandsAs, last_state}
use Rattle.intake.specs.Lasting.{NumbersAreAbove}
use Rattle.intake.specs.Lives.{IsAmong}
use Rattle.intake.specs.Parts.{Parts, state_of}
use Rattle.intake.specs.Ranges.{Locates, bytes_in}
use Rattle.intake.specs.State.{ArchiveState}
use Rattle.intake.specs.declared.ranges.ByteRange.{ByteRange}
use Rattle.journal_layout.specs.Case.{Case, case_of}
use Rattle.journal_layout.specs.Soundness.{case_numbered}
use Rattle.journal_layout.specs.Standing.{Standing}
use Rattle.journal_layout.specs.declared.entry.Entry.{Entry}
use Rattle.journal_layout.specs.declared.shape.Shape.{Shape}
use Rattle.shared_disk.specs.Meanwhile.{IsHeld}
use Rattle.shared_disk.specs.Steady.{are_steady}
use Rattle.shared_disk.specs.SteadyLaws.{both_first, both_second, steady_from}
use Rattle.shared_disk.specs.declared.shared.SharedDisk as shared
use Rattle.archive_files.specs.UnlockedFinding.{has_number}
use Rattle.archive_files.specs.History.{HasEach, HasOne, HoldsArchive, IsNumbered, IsOneOf}
use Rattle.archive_files.specs.UnlockedPlaces.{CoversCases, IsSameIn, IsThere}
use Rattle.archive_files.proofs.UnlockedCopyLemmas.{first_between, is_found, numbered_there, opened_holds, opened_stands, stands_for}

all_then : {X : Type 0} (P : X → Type 0) (xs : List X) (y : X) → AllByRecursion P xs → P y → AllByRecursion P (xs ++ y ∷ [])
all_then P [] y all here = (here, tt)
all_then P (x ∷ xs) y all here = (all.0, all_then P xs y all.1 here)

all_front : {X : Type 0} (P : X → Type 0) (xs : List X) (y : X) → AllByRecursion P (xs ++ y ∷ []) → AllByRecursion P xs × P y
all_front P [] y all = (tt, all.0)
all_front P (x ∷ xs) y all = let rest = all_front P xs y all.1 in ((all.0, rest.0), rest.1)

-- an entry of a list is found by its number, or another of that number is
pub entry_there : (es : List Entry) (k : ℕ) (e : Entry) → k < length es → e ≡ slice_index_or es k e → (c : Case) × (case_numbered e.seq (map case_of es) ≡ Some c)
entry_there [] k e below is = absurd (omega (arith, below))
entry_there (f ∷ fs) zero e below is =
    ⊎_elim
    (λ h. subst (λ (t : Bool). (c : Case) × (cond t (Some (case_of f)) (case_numbered e.seq (map case_of fs)) ≡ Some c)) (sym h.0) (case_of f, refl))
    (λ h. absurd (h.1 (sym (ap (λ (x : Entry). x.seq) is))))
    (eqb_tells f.seq e.seq)
entry_there (f ∷ fs) (suc k) e below is =
    ⊎_elim
    (λ h. subst (λ (t : Bool). (c : Case) × (cond t (Some (case_of f)) (case_numbered e.seq (map case_of fs)) ≡ Some c)) (sym h.0) (case_of f, refl))
    (λ h. subst (λ (t : Bool). (c : Case) × (cond t (Some (case_of f)) (case_numbered e.seq (map case_of fs)) ≡ Some c)) (sym h.0) (entry_there fs k e (omega (arith, below)) is))
    (eqb_tells f.seq e.seq)

pub covers_none : {D : Type 0} (g : disk.Ghosts D) (a : Parts D) → CoversCases g a [] []
covers_none g a = record { there = tt; same = λ b c long same all. refl }

-- one case more
pub covers_more : {D : Type 0} (g : disk.Ghosts D) (a : Parts D) (numbers : List ℕ) (ranges : List ByteRange) (seq : ℕ) (more : List ByteRange) → CoversCases g a numbers ranges → Locates g a seq more
    → CoversCases g a (numbers ++ seq ∷ []) (ranges ++ more)
covers_more g a numbers ranges seq more covers locates = record {
  there = all_then (IsThere (state_of a)) numbers seq covers.there (locates.found, locates.has);
  same = λ b c long same all.
      let parts = all_front (IsSameIn (state_of a) b c) numbers seq all in
      flat_map-append (λ (r : ByteRange). part b r.start r.length) ranges more
      ∙ ap (λ (l : List ℕ). l ++ bytes_in b more) (covers.same b c long same parts.0)
      ∙ ap (λ (l : List ℕ). bytes_in c ranges ++ l) (locates.places b long ∙ parts.1 locates.found locates.has ∙ sym (locates.places c same))
      ∙ sym (flat_map-append (λ (r : ByteRange). part c r.start r.length) ranges more);
}

-- each of the cases that are there is a case of what the disk holds
pub there_by_number : {D : Type 0} (U : disk.Ghosts D) (before : D) (b : List ℕ) (shape : Shape) (x : Durable) (honest : IsTrue (U.is_honest before)) (seen : U.seen before ≡ b) (stands : StandsAs shape b x) (a : Parts D) (numbers : List ℕ) (n : ℕ)
    → OpenCall U 0 before (Ok a) → AllByRecursion (IsThere (state_of a)) numbers → IsOneOf numbers n → HasOne x n
there_by_number U before b shape x honest seen stands a [] n call there among = absurd among
there_by_number U before b shape x honest seen stands a (k ∷ ks) n call there among =
    ⊎_elim
    (λ is.
    let shown = U.seen a.disk in
    let found = is_found a.journal.standing.shape shown a.journal.standing.cases k there.0.0 there.0.1.1 in
    let c = found_case a.journal.standing.shape shown there.0.0 in
    (c, (subst (λ (y : Durable). IsAmong y.cases c) (opened_holds U before b shape x honest seen stands a call) found.0, found.1 ∙ sym is)))
    (λ more. there_by_number U before b shape x honest seen stands a ks n call there.1 more)
    among

-- the first that is missing, or one of the others
one_of : (s : ArchiveState) (n : ℕ) (ns : List ℕ) (here more : Bool) → here ≡ has_number s n → more ≡ list_all (has_number s) ns → (false ≡ more → (m : ℕ) × IsOneOf ns m × (false ≡ has_number s m)) → false ≡ (here && more)
    → (m : ℕ) × IsOneOf (n ∷ ns) m × (false ≡ has_number s m)
one_of s n ns false more first rest others none = (n, inl refl, first)
one_of s n ns true more first rest others none = let m = others none in (m.0, inr m.1, m.2)

-- where not all that are looked for are there, one is not
pub one_missing : (s : ArchiveState) (numbers : List ℕ) → false ≡ list_all (has_number s) numbers → (n : ℕ) × IsOneOf numbers n × (false ≡ has_number s n)
one_missing s [] none = absurd (false≢true none)
one_missing s (n ∷ ns) none = one_of s n ns (has_number s n) (list_all (has_number s) ns) refl refl (λ rest. one_missing s ns rest) none

-- all that are looked for are there
pub each_there : {D : Type 0} (U : disk.Ghosts D) (before : D) (b : List ℕ) (x : Durable) (a : Parts D) (numbers : List ℕ) → IsTrue (U.is_honest before) → U.seen before ≡ b → OpenCall U 0 before (Ok a) → StandsFor b x
    → list_all (has_number (state_of a)) numbers ≡ true → HasEach x numbers
each_there U before b x a [] honest seen call stands all = tt
each_there U before b x a (n ∷ ns) honest seen call stands all = (
  numbered_there U before b x a n honest seen call stands (sym (both_first (has_number (state_of a) n) (list_all (has_number (state_of a)) ns) all)),
  each_there U before b x a ns honest seen call stands (both_second (has_number (state_of a) n) (list_all (has_number (state_of a)) ns) all),
)

module _ {S : Type 0} (g : shared.Ghosts S) (s : S) (whole : IsTrue (g.is_honest s) → length (g.looked s) ≡ g.size s) (lists : (c : List ℕ) → IsTrue (g.is_honest s) → IsHeld (g.meanwhile s) c → length c ≡ g.size s)
    (numbers : NumbersAreAbove) (law : ACaseIsThereBetween) {D : Type 0} (U : disk.Ghosts D) (first : D) (honest0 : IsTrue (g.is_honest s) → IsTrue (U.is_honest first)) (seen0 : U.seen first ≡ g.looked s) (size0 : U.size first ≡ g.size s)
    (a : Parts D) (call : OpenCall U 0 first (Ok a)) (shape : Shape) (x : Durable) (ys : List Durable) (honest : IsTrue (g.is_honest s)) (holds : HoldsArchive g s shape x ys) where
  -- the images of a case that is there at both looks
  one_same : (l : List ℕ) → IsHeld (g.meanwhile s) l → (n : ℕ) → (d : FoundCase) × IsNumbered (last_state x ys) n d → IsSameIn (state_of a) l (g.looked s) n
  one_same l held n later k has =
      let shown = U.seen a.disk in
      let found = is_found a.journal.standing.shape shown a.journal.standing.cases n k has.1 in
      let c = found_case a.journal.standing.shape shown k in
      let there : IsAmong x.cases c = subst (λ (y : Durable). IsAmong y.cases c) (opened_holds U first (g.looked s) shape x (honest0 honest) seen0 holds.first a call) found.0 in
      let both = law x ys c later.0 (numbers (g.looked s) x (stands_for shape (g.looked s) x holds.first)) holds.turn there later.1.0 (later.1.1 ∙ sym found.1) in
      let at = holds.each l held in
      let same : a.journal.standing.shape ≡ shape = ap (λ (z : Standing). z.shape) (opened_stands U first (g.looked s) shape x (honest0 honest) seen0 holds.first a call) ∙ holds.first.shaped in
      ap (λ (z : Shape). image_in z l k.blocks k.len) same
      ∙ (both.1 at.0 shape l at.1 at.2).image
      ∙ sym (both.1 x shape (g.looked s) (first_between x ys) holds.first).image
      ∙ sym (ap (λ (z : Shape). image_in z (g.looked s) k.blocks k.len) same)

  each_same : (l : List ℕ) → IsHeld (g.meanwhile s) l → (ns : List ℕ) → HasEach (last_state x ys) ns → AllByRecursion (IsSameIn (state_of a) l (g.looked s)) ns
  each_same l held [] later = tt
  each_same l held (n ∷ ns) later = (one_same l held n later.0, each_same l held ns later.1)

  pub all_steady : (ns : List ℕ) (ranges : List ByteRange) → CoversCases U a ns ranges → HasEach (last_state x ys) ns → are_steady ranges (g.looked s) (g.meanwhile s) ≡ true
  all_steady ns ranges covers later =
      steady_from ranges (g.looked s) (g.meanwhile s)
      (λ l held. covers.same l (g.looked s) (lists l honest held ∙ sym (call.size ∙ size0)) (whole honest ∙ sym (call.size ∙ size0)) (each_same l held ns later))
