-- Laws of the report on the cases of an archive.
use Rattle.std.proofs.Common.{◌≡◌, ◌≢◌, ◌⊎◌, inl, inr, ℕ, zero, suc, get_or, arith, ◌+◌, ◌<◌, ◌==◌, Bool, true, false, cond, List, [], ◌∷◌, ◌++◌, refl, sym, ap, ◌∙◌, subst, append_assoc, ⊎_elim, Option, None, Some}
use Rattle.std.proofs.lemmas.Bool.{eqb-true}
use Rattle.std.proofs.lemmas.List.{append-nil}
use Rattle.std.proofs.lemmas.List.Elements.{Contains-append_left, Contains-append_right, Contains-append_cases, Contains-push_cases}
use Rattle.std.specs.List.{Contains}
use Rattle.disk_model.specs.Places.{part}
use Rattle.journal_layout.specs.Case.{Case, case_of}
use Rattle.journal_layout.specs.Layout.{data_start, half_length, half_start}
use Rattle.journal_layout.specs.Soundness.{case_numbered}
use Rattle.journal_layout.specs.declared.faults.OpenFault.{OpenFault}
use Rattle.journal_layout.specs.declared.shape.Shape.{Shape}
use Rattle.salvage.specs.Alone.{IsPast, IsWithinOther, between}
use Rattle.salvage.specs.Cases.{HasCase, IsSameCase, IsSameImage}
use Rattle.salvage.specs.Contests.{Contests, IsUncontested, Knows, OfEachBehind, taken_end, taken_start}
use Rattle.salvage.specs.Doubting.{IsBound, trouble_by}
use Rattle.salvage.specs.Readings.{HasBound, IsBelow, IsWholeIn, cases_by, fault_by, first_fault}
use Rattle.salvage.specs.Reads.{IsAmong, IsFrom, IsTaken}
use Rattle.salvage.specs.Printing.{EachReadableCaseIsTold, EachSoundCaseIsWhole, IsHeardOf, NoRecordContestsWhatIsToldWhole, NoRecordDeletesWhatIsToldWhole, WhatIsToldLostIsStored, WhatIsToldWholeIsBelow, WhatIsToldWholeIsNotDeleted}
use Rattle.salvage.specs.Records.{AreIndexed, IsDeleted}
use Rattle.salvage.specs.Told.{AreCopied, AreLost, AreTold, HasDoubt, IsLost, IsMarked, IsTold, Line, copied_cases}
use Rattle.salvage.specs.declared.cases_found.Found.{Found}
use Rattle.salvage.specs.declared.cases_found.More.{More}
use Rattle.salvage.specs.declared.doubts.Doubts.{Doubts}
use Rattle.salvage.specs.declared.doubts.Trouble.{Trouble}
use Rattle.salvage.specs.declared.records.Read.{Read}
use Rattle.salvage.specs.declared.shown.Patch.{Patch}
use Rattle.salvage.specs.declared.printing.Mark.{Mark}
use Rattle.salvage.specs.declared.printing.Mark.TheVariants.{Whole, Doubtful, Cut, Lost}

itself : (c : Case) → IsSameCase c c
itself c = record { seq = refl; image = record { origin = refl; len = refl; blocks = refl } }

through : (c d e : Case) → IsSameCase c d → IsSameCase d e → IsSameCase c e
through c d e one two = record {
  seq = one.seq ∙ two.seq;
  image = record {
    origin = one.image.origin ∙ two.image.origin;
    len = one.image.len ∙ two.image.len;
    blocks = one.image.blocks ∙ two.image.blocks;
  };
}

same_some : (c d : Case) → Some c ≡ Some d → c ≡ d
same_some c d e = cc

told_more : (lines more : List Line) (c : Case) → IsTold lines c → IsTold (lines ++ more) c
told_more lines more c told = (told.0, Contains-append_left lines more told.0 told.1, told.2)

told_behind : (lines more : List Line) (c : Case) → IsTold more c → IsTold (lines ++ more) c
told_behind lines more c told = (told.0, Contains-append_right lines more told.0 told.1, told.2)

contains_cases : (x : Case) (xs : List Case) (c : Case) → Contains (x ∷ xs) c → (x ≡ c) ⊎ Contains xs c
contains_cases x xs c has = by_part (Contains-append_cases (x ∷ []) xs c has)
  where
    first : (k : ℕ) → k < 1 → get_or (x ∷ []) k c ≡ c → x ≡ c
    first zero low is = is
    first (suc k) low is = absurd (omega (arith, low))

    by_part : Contains (x ∷ []) c ⊎ Contains xs c → (x ≡ c) ⊎ Contains xs c
    by_part (inl (k, low, is)) = inl (first k low is)
    by_part (inr later) = inr later

told_first : (l : Line) (rest : List Line) → Contains (l ∷ rest) l
told_first l rest = (0, omega arith, refl)

-- of the cases that are copied, the first one or one of the others
one_told : (x : Case) (xs : List Case) (mark : Mark) (rest : List Line) (c : Case) → HasCase (x ∷ xs) c → (HasCase xs c → IsTold rest c) → IsTold (record { case = x; mark = mark } ∷ rest) c
one_told x xs mark rest c (d, found, image) others = by_number (x.seq == c.seq) refl
  where
    line : Line
    line = record { case = x; mark = mark }

    here : (x.seq == c.seq ≡ true) → IsTold (line ∷ rest) c
    here e =
        let first : x ≡ d = same_some x d (sym (ap (λ (t : Bool). cond t (Some x) (case_numbered c.seq xs)) e) ∙ found) in
        (line, told_first line rest, record { seq = eqb-true x.seq c.seq e; image = subst (IsSameImage c) (sym first) image })

    later : (x.seq == c.seq ≡ false) → IsTold (line ∷ rest) c
    later e = told_behind (line ∷ []) rest c (others (d, sym (ap (λ (t : Bool). cond t (Some x) (case_numbered c.seq xs)) e) ∙ found, image))

    by_number : (t : Bool) → x.seq == c.seq ≡ t → IsTold (line ∷ rest) c
    by_number true e = here e
    by_number false e = later e

-- each case that is copied has a line
copied_told : (f : Found) (cases : List Case) (lines : List Line) → AreCopied f cases lines → (c : Case) → HasCase cases c → IsTold lines c
copied_told f [] lines are c has = let none = has.1 in absurd (cc)
copied_told f (x ∷ xs) lines (mark, rest, marked, are, is) c has =
    subst (λ (ls : List Line). IsTold ls c) (sym is) (one_told x xs mark rest c has (copied_told f xs rest are c))

-- Each of the reads that are lost, or that have the same case as one before, is reported, if the copied cases and the reads before it are.
module _ (f : Found) (all : List Line) (copied : (c : Case) → HasCase (copied_cases f) c → IsTold all c) where
  lost_told : (before rest : List Read) (lines : List Line) → AreLost f before rest lines → ((l : Line) → Contains lines l → Contains all l)
      → ((c : Case) → IsAmong before c → IsTold all c) → (c : Case) → IsAmong (before ++ rest) c → IsTold all c
  lost_told before [] lines are within so_far c among = so_far c (subst (λ (rs : List Read). IsAmong rs c) (append-nil before) among)
  lost_told before (r ∷ rest) lines (later, one, are, lost, is) within so_far c among =
      lost_told (before ++ r ∷ []) rest later are (λ l has. within l (subst (λ (ls : List Line). Contains ls l) (sym is) (Contains-append_left later one l has))) (λ d had. by_read d had.0 had.2 (Contains-push_cases before r had.0 had.1)) c
      (subst (λ (rs : List Read). IsAmong rs c) (sym (append_assoc before (r ∷ []) rest)) among)
    where
      this_told : IsLost f before (case_of r.entry) one → IsTold all (case_of r.entry)
      this_told (inl (none, inl has)) = copied (case_of r.entry) has
      this_told (inl (none, inr again)) = so_far (case_of r.entry) again
      this_told (inr (loss, place, lost, deleted, line)) =
          let l : Line = record { case = case_of r.entry; mark = Lost loss place } in (
            l,
            within l (subst (λ (ls : List Line). Contains ls l) (sym is) (Contains-append_right later one l (subst (λ (ls : List Line). Contains ls l) (sym line) (told_first l [])))),
            itself (case_of r.entry),
          )

      by_read : (d : Case) (x : Read) → IsSameCase (case_of x.entry) d → Contains before x ⊎ (r ≡ x) → IsTold all d
      by_read d x same (inl old) = so_far d (x, old, same)
      by_read d x same (inr e) =
          let told = this_told lost in
          (told.0, told.1, through told.0.case (case_of r.entry) d told.2 (subst (λ (y : Read). IsSameCase (case_of y.entry) d) (sym e) same))

module _ (f : Found) (lines : List Line) (told : AreTold f lines) where
  copied_line : (c : Case) → HasCase (copied_cases f) c → IsTold lines c
  copied_line c has =
      subst (λ (ls : List Line). IsTold ls c) (sym told.all) (told_more told.copied told.lost c (copied_told f (copied_cases f) told.copied told.each_copied c has))

  -- each case that is copied, and each that is read, has a line
  pub each_read_has_a_line : (c : Case) → IsAmong f.scan.reads.items c → IsTold lines c
  each_read_has_a_line c among =
      lost_told f lines copied_line [] f.scan.reads.items told.lost told.each_lost
      (λ l has. subst (λ (ls : List Line). Contains ls l) (sym told.all) (Contains-append_right told.copied told.lost l has))
      (λ d none. absurd (omega (arith, none.1.1))) c among

-- Each case that a Store record of a half stores which reads by itself has a line, unless the record lies within another or past the end of
-- the records.
pub each_readable_case_is_told : EachReadableCaseIsTold
each_readable_case_is_told b f lines sees told fault half opened k place size c is before stores = heard (sees.reads fault half opened k place is before)
  where
    heard : IsTaken f.first.standing.shape.data_blocks (between (part b 0 (data_start f.first.standing.shape)) place (half_start f.first.standing.shape half + half_length f.first.standing.shape))
        place f.scan.reads.items f.scan.drops.items
        ⊎ IsWithinOther f.first.standing.shape.data_blocks (part b 0 (data_start f.first.standing.shape)) (half_start f.first.standing.shape half + half_length f.first.standing.shape) place
        ⊎ IsPast f.first.standing.shape.data_blocks (part b 0 (data_start f.first.standing.shape)) (half_start f.first.standing.shape half) (half_start f.first.standing.shape half + half_length f.first.standing.shape) place
        → IsHeardOf f.first.standing.shape (part b 0 (data_start f.first.standing.shape)) (half_start f.first.standing.shape half) (half_start f.first.standing.shape half + half_length f.first.standing.shape) place lines c
    heard (inl taken) = let at = taken.case size c stores in inl (each_read_has_a_line f lines told c (at.0, at.1, at.3))
    heard (inr other) = inr other

one_whole : (x : Case) (xs : List Case) (rest : List Line) (c : Case) → (x ≡ c) ⊎ Contains xs c → (Contains xs c → Contains rest (record { case = c; mark = Whole }))
    → Contains (record { case = x; mark = Whole } ∷ rest) (record { case = c; mark = Whole })
one_whole x xs rest c (inl e) others =
    subst (λ (y : Case). Contains (record { case = y; mark = Whole } ∷ rest) (record { case = c; mark = Whole })) (sym e) (told_first (record { case = c; mark = Whole }) rest)
one_whole x xs rest c (inr later) others = Contains-append_right (record { case = x; mark = Whole } ∷ []) rest (record { case = c; mark = Whole }) (others later)

-- lines of which none is of a case that is doubtful
whole_lines : (f : Found) → first_fault f ≡ None → f.mend ≡ None → (cases : List Case) (lines : List Line) → AreCopied f cases lines → (c : Case) → Contains cases c → Contains lines (record { case = c; mark = Whole })
whole_lines f sound own [] lines are c (k, low, is) = absurd (omega (arith, low))
whole_lines f sound own (x ∷ xs) lines (Doubtful place, rest, marked, are, is) c has = no_doubt marked.0
  where
    no_doubt : HasDoubt f → Contains lines (record { case = c; mark = Whole })
    no_doubt (inl fault) = absurd (fault sound)
    no_doubt (inr other) = absurd (other own)
whole_lines f sound own (x ∷ xs) lines (Cut, rest, marked, are, is) c has = absurd (marked own)
whole_lines f sound own (x ∷ xs) lines (Lost loss place, rest, marked, are, is) c has = absurd marked
whole_lines f sound own (x ∷ xs) lines (Whole, rest, marked, are, is) c has =
    subst (λ (ls : List Line). Contains ls (record { case = c; mark = Whole })) (sym is)
    (one_whole x xs rest c (contains_cases x xs c has) (whole_lines f sound own xs rest are c))

-- If there is no fault, each case of the archive is reported as whole.
pub each_sound_case_is_whole : EachSoundCaseIsWhole
each_sound_case_is_whole b f lines sees told sound own c has =
    subst (λ (ls : List Line). Contains ls (record { case = c; mark = Whole })) (sym told.all)
    (Contains-append_left told.copied told.lost (record { case = c; mark = Whole })
    (whole_lines f sound own (copied_cases f) told.copied told.each_copied c (subst (λ (o : Option More). Contains (cases_by o f.first.standing) c) (sym (sees.sound sound)) has)))

-- the mark of a line
abbrev IsMarkedSo : Found → Line → Type 0
IsMarkedSo f l = IsMarked f l.case l.mark

line_cases : (x : Line) (rest : List Line) (l : Line) → Contains (x ∷ rest) l → (x ≡ l) ⊎ Contains rest l
line_cases x rest l has = by_part (Contains-append_cases (x ∷ []) rest l has)
  where
    first : (k : ℕ) → k < 1 → get_or (x ∷ []) k l ≡ l → x ≡ l
    first zero low is = is
    first (suc k) low is = absurd (omega (arith, low))

    by_part : Contains (x ∷ []) l ⊎ Contains rest l → (x ≡ l) ⊎ Contains rest l
    by_part (inl (k, low, is)) = inl (first k low is)
    by_part (inr later) = inr later

marked_first : (f : Found) (x l : Line) (rest : List Line) → IsMarkedSo f x → (Contains rest l → IsMarkedSo f l) → (x ≡ l) ⊎ Contains rest l → IsMarkedSo f l
marked_first f x l rest marked others (inl e) = subst (IsMarkedSo f) e marked
marked_first f x l rest marked others (inr later) = others later

-- each line of a case that is copied is marked so
copied_marked : (f : Found) (cases : List Case) (lines : List Line) → AreCopied f cases lines → (l : Line) → Contains lines l → IsMarkedSo f l
copied_marked f [] lines are l has = let none = subst (λ (ls : List Line). Contains ls l) are has in absurd (omega (arith, none.1))
copied_marked f (x ∷ xs) lines (mark, rest, marked, are, is) l has =
    marked_first f (record { case = x; mark = mark }) l rest marked (copied_marked f xs rest are l)
    (line_cases (record { case = x; mark = mark }) rest l (subst (λ (ls : List Line). Contains ls l) is has))

-- no lost case is reported as whole
one_lost_not_whole : (f : Found) (before : List Read) (x c : Case) (one : List Line) → IsLost f before x one → Contains one (record { case = c; mark = Whole }) → ⊥
one_lost_not_whole f before x c one (inl (none, why)) has =
    let nothing = subst (λ (ls : List Line). Contains ls (record { case = c; mark = Whole })) none has in absurd (omega (arith, nothing.1))
one_lost_not_whole f before x c one (inr (loss, place, lost, deleted, line)) has =
    by_place (line_cases (record { case = x; mark = Lost loss place }) [] (record { case = c; mark = Whole }) (subst (λ (ls : List Line). Contains ls (record { case = c; mark = Whole })) line has))
  where
    mark_of : Line → Mark
    mark_of l = l.mark

    by_place : (◌≡◌ {A = Line} (record { case = x; mark = Lost loss place }) (record { case = c; mark = Whole })) ⊎ Contains {X = Line} [] (record { case = c; mark = Whole }) → ⊥
    by_place (inl e) = (let marks : Lost loss place ≡ Whole = ap mark_of e in absurd (cc))
    by_place (inr none) = absurd (omega (arith, none.1))

lost_not_whole : (f : Found) (before rest : List Read) (lines : List Line) → AreLost f before rest lines → (c : Case) → Contains lines (record { case = c; mark = Whole }) → ⊥
lost_not_whole f before [] lines are c has =
    let none = subst (λ (ls : List Line). Contains ls (record { case = c; mark = Whole })) are has in absurd (omega (arith, none.1))
lost_not_whole f before (r ∷ rest) lines (later, one, are, lost, is) c has =
    ⊎_elim (λ old. lost_not_whole f (before ++ r ∷ []) rest later are c old) (λ new. one_lost_not_whole f before (case_of r.entry) c one lost new)
    (Contains-append_cases later one (record { case = c; mark = Whole }) (subst (λ (ls : List Line). Contains ls (record { case = c; mark = Whole })) is has))

whole_is : (f : Found) (c : Case) → first_fault f ≢ None → AreIndexed f.scan.drops.items f.scan.dropped → IsWholeIn f c
    → HasCase f.first.standing.cases c × IsBelow f.doubts c.seq × (IsDeleted f.scan.drops.items c.seq → ⊥)
whole_is f c fault indexed (held, inl sound) = absurd (fault sound)
whole_is f c fault indexed (held, inr whole) = (whole.0, whole.1, whole.2 indexed)

-- each case that is reported as whole is whole
told_whole : (f : Found) (lines : List Line) → AreTold f lines → (c : Case) → Contains lines (record { case = c; mark = Whole }) → IsWholeIn f c
told_whole f lines told c has =
    ⊎_elim (λ copied. copied_marked f (copied_cases f) told.copied told.each_copied (record { case = c; mark = Whole }) copied)
    (λ lost. absurd (lost_not_whole f [] f.scan.reads.items told.lost told.each_lost c lost))
    (Contains-append_cases told.copied told.lost (record { case = c; mark = Whole }) (subst (λ (ls : List Line). Contains ls (record { case = c; mark = Whole })) told.all has))

-- no record that was read deletes a case that is reported as whole
pub what_is_told_whole_is_not_deleted : WhatIsToldWholeIsNotDeleted
what_is_told_whole_is_not_deleted b f lines sees told fault c has = whole_is f c fault sees.indexed (told_whole f lines told c has)

-- if there is trouble, there is a fault
at_fault : (fault : Option OpenFault) (patch : Option Patch) (shut : Option ℕ) (t : Trouble) → trouble_by fault patch shut ≡ Some t → fault_by fault shut ≡ None → ⊥
at_fault None patch None t some none = absurd (cc)
at_fault (Some fault) patch None t some none = absurd (cc)
at_fault fault patch (Some gate) t some none = absurd (cc)

-- a bound that a number is below
below_bound : (shape : Shape) (bytes : List ℕ) (t : Trouble) (doubts : Option Doubts) (seq : ℕ) → HasBound shape bytes t doubts → IsBelow doubts seq
    → (bound : ℕ) × IsBound shape bytes t bound × (seq < bound)
below_bound shape bytes t None seq is below = absurd below
below_bound shape bytes t (Some d) seq is below = (d.bound, is, below)

-- the first fault leaves the number of each case certain that is reported as whole
pub what_is_told_whole_is_below : WhatIsToldWholeIsBelow
what_is_told_whole_is_below b f lines sees told t some c has =
    let whole = whole_is f c (λ none. at_fault f.sight.fault f.sight.patch f.shut t some none) sees.indexed (told_whole f lines told c has) in
    below_bound f.first.standing.shape (part b 0 (data_start f.first.standing.shape)) t f.doubts c.seq (sees.bound t some) whole.1

-- of the facts of each record after the fault
known_of : (doubts : Option Doubts) (shape : Shape) (bytes : List ℕ) (gate : ℕ) (c : Case) (seq : ℕ) → IsBelow doubts seq → ((d : Doubts) → doubts ≡ Some d → OfEachBehind shape bytes gate (Knows d))
    → IsUncontested doubts c → OfEachBehind shape bytes gate (λ one. Contests one c → ⊥)
known_of None shape bytes gate c seq below behind free opened k place size one is there stores = absurd below
known_of (Some d) shape bytes gate c seq below behind free opened k place size one is there stores = heard (behind d refl opened k place size one is there stores)
  where
    heard : Knows d one ⊎ IsWithinOther shape.data_blocks bytes (taken_end shape gate) place ⊎ IsPast shape.data_blocks bytes (taken_start shape gate) (taken_end shape gate) place
        → (Contests one c → ⊥) ⊎ IsWithinOther shape.data_blocks bytes (taken_end shape gate) place ⊎ IsPast shape.data_blocks bytes (taken_start shape gate) (taken_end shape gate) place
    heard (inl knows) = inl (free d refl one knows)
    heard (inr other) = inr other

uncontested_of : (f : Found) (c : Case) → first_fault f ≢ None → IsWholeIn f c → IsBelow f.doubts c.seq × IsUncontested f.doubts c
uncontested_of f c fault (held, inl sound) = absurd (fault sound)
uncontested_of f c fault (held, inr whole) = (whole.1, whole.3)

-- no record from the fault on contests a case that is reported as whole
pub no_record_contests_what_is_told_whole : NoRecordContestsWhatIsToldWhole
no_record_contests_what_is_told_whole b f lines sees told t some c has =
    let free = uncontested_of f c (λ none. at_fault f.sight.fault f.sight.patch f.shut t some none) (told_whole f lines told c has) in
    known_of f.doubts f.first.standing.shape (part b 0 (data_start f.first.standing.shape)) t.gate c c.seq free.0 (sees.behind t some) free.1

-- nor by any that reads
pub no_record_deletes_what_is_told_whole : NoRecordDeletesWhatIsToldWhole
no_record_deletes_what_is_told_whole b f lines sees told fault c has half opened k place size index is before head body below number =
    left (sees.reads fault half opened k place is before)
  where
    deleted_not : IsDeleted f.scan.drops.items c.seq → ⊥
    deleted_not = (what_is_told_whole_is_not_deleted b f lines sees told fault c has).2

    left : IsTaken f.first.standing.shape.data_blocks (between (part b 0 (data_start f.first.standing.shape)) place (half_start f.first.standing.shape half + half_length f.first.standing.shape))
        place f.scan.reads.items f.scan.drops.items
        ⊎ IsWithinOther f.first.standing.shape.data_blocks (part b 0 (data_start f.first.standing.shape)) (half_start f.first.standing.shape half + half_length f.first.standing.shape) place
        ⊎ IsPast f.first.standing.shape.data_blocks (part b 0 (data_start f.first.standing.shape)) (half_start f.first.standing.shape half) (half_start f.first.standing.shape half + half_length f.first.standing.shape) place
        → IsWithinOther f.first.standing.shape.data_blocks (part b 0 (data_start f.first.standing.shape)) (half_start f.first.standing.shape half + half_length f.first.standing.shape) place
        ⊎ IsPast f.first.standing.shape.data_blocks (part b 0 (data_start f.first.standing.shape)) (half_start f.first.standing.shape half) (half_start f.first.standing.shape half + half_length f.first.standing.shape) place
    left (inl taken) = absurd (deleted_not (subst (IsDeleted f.scan.drops.items) number (taken.numbers size head body index below)))
    left (inr other) = other

-- each line about a lost case is of a read
lost_read : (f : Found) (before rest : List Read) (lines : List Line) → AreLost f before rest lines → (l : Line) → Contains lines l → (r : Read) × Contains rest r × (case_of r.entry ≡ l.case)
lost_read f before [] lines are l has = let none = subst (λ (ls : List Line). Contains ls l) are has in absurd (omega (arith, none.1))
lost_read f before (r ∷ rest) lines (later, one, are, lost, is) l has =
    ⊎_elim (λ old. further (lost_read f (before ++ r ∷ []) rest later are l old)) (λ new. here lost new)
    (Contains-append_cases later one l (subst (λ (ls : List Line). Contains ls l) is has))
  where
    further : (x : Read) × Contains rest x × (case_of x.entry ≡ l.case) → (x : Read) × Contains (r ∷ rest) x × (case_of x.entry ≡ l.case)
    further (x, there, same) = (x, Contains-append_right (r ∷ []) rest x there, same)

    first : (y : Line) → y.case ≡ case_of r.entry → (y ≡ l) ⊎ Contains {X = Line} [] l → (x : Read) × Contains (r ∷ rest) x × (case_of x.entry ≡ l.case)
    first y same (inl e) = (r, (0, omega arith, refl), sym same ∙ ap (λ (z : Line). z.case) e)
    first y same (inr none) = absurd (omega (arith, none.1))

    here : IsLost f before (case_of r.entry) one → Contains one l → (x : Read) × Contains (r ∷ rest) x × (case_of x.entry ≡ l.case)
    here (inl (none, why)) there = let nothing = subst (λ (ls : List Line). Contains ls l) none there in absurd (omega (arith, nothing.1))
    here (inr (loss, place, not, deleted, line)) there =
        let y : Line = record { case = case_of r.entry; mark = Lost loss place } in
        first y refl (line_cases y [] l (subst (λ (ls : List Line). Contains ls l) line there))

-- a record stores each case that is reported as lost
pub what_is_told_lost_is_stored : WhatIsToldLostIsStored
what_is_told_lost_is_stored b f lines sees told c loss place has =
    ⊎_elim (λ copied. absurd (copied_marked f (copied_cases f) told.copied told.each_copied (record { case = c; mark = Lost loss place }) copied))
    (λ lost. from (lost_read f [] f.scan.reads.items told.lost told.each_lost (record { case = c; mark = Lost loss place }) lost))
    (Contains-append_cases told.copied told.lost (record { case = c; mark = Lost loss place }) (subst (λ (ls : List Line). Contains ls (record { case = c; mark = Lost loss place })) told.all has))
  where
    from : (r : Read) × Contains f.scan.reads.items r × (case_of r.entry ≡ c)
        → (r : Read) × IsFrom f.first.standing.shape.data_blocks (part b 0 (data_start f.first.standing.shape)) r × (case_of r.entry ≡ c)
    from (r, there, same) = (r, sees.from r there, same)
