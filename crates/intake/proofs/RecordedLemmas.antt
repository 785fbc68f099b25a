-- The state without bytes after one record more, and whether the record has room.
use Rattle.std.proofs.Common.{◌≡◌, inl, inr, ⊎_elim, ℕ, ◌+◌, Bool, List, [], ◌∷◌, refl, ap, arith, Option, cond}
use Rattle.std.specs.Prelude.{sum_by}
use Rattle.std.proofs.lemmas.List.Sums.{sum_by-cons}
use Rattle.journal_layout.specs.Case.{Case}
use Rattle.journal_layout.specs.Folding.{Folded, after, sizes}
use Rattle.journal_layout.specs.Record.{Record, record_size as size_of}
use Rattle.journal_layout.specs.Rewriting.{label_records, case_records, case_bytes, fits, snapshot_size as snapshot_size_of}
use Rattle.journal_layout.specs.FitLaws.{bytes_more, snapshot_bytes}
use Rattle.journal_layout.specs.Standing.{folded_of}
use Rattle.case_journal.specs.Append.{RecordFits, RecordOverflows}
use Rattle.case_journal.specs.Journaled.{Journaled, after_append}
use Rattle.intake.specs.Parts.{Parts, StreamParts, state_of}
use Rattle.intake.specs.Step.{BytesFit, IsFull, label_bytes, case_size, recorded, snapshot_size}

-- the record of a case's label, if it has one
label_sized : (seq : ℕ) (text : List ℕ) → sizes (label_records seq text) ≡ label_bytes text
label_sized seq [] = refl
label_sized seq (b ∷ rest) = omega arith

-- the records that say cases
cases_sized : (cases : List Case) → case_bytes cases ≡ sum_by case_size cases
cases_sized [] = refl
cases_sized (c ∷ rest) =
    let more = bytes_more c rest in
    let sum = sum_by-cons case_size c rest in
    let one : sizes (case_records c) ≡ case_size c = omega (arith, label_sized c.seq c.label) in
    omega (arith, more, sum, one, cases_sized rest)

pub snapshot_is : (f : Folded) → snapshot_size_of f ≡ snapshot_size f.cases
snapshot_is f = omega (arith, snapshot_bytes f, cases_sized f.cases)

module _ {D : Type 0} (d d' : D) (j : Journaled) (r : Record) (most : ℕ) (streams : List (Option StreamParts)) (b : Bool) where
  abbrev old : Parts D
  old = record { disk = d; journal = j; limit = most; streams = streams; stopped = b }

  abbrev then : Folded
  then = after r (folded_of j.standing)

  pub record_fits : RecordFits j.standing r → BytesFit (state_of old) (size_of r) then.cases
  record_fits room = ⊎_elim (λ behind. inl behind) (λ beside. inr ((let e = snapshot_is then in let short = beside.0 in omega (arith, e, short)), beside.1)) room

  pub record_full : RecordOverflows j.standing r → IsFull (state_of old) (size_of r) then.cases
  record_full full = (full.0, ⊎_elim (λ long. inl (let e = snapshot_is then in omega (arith, e, long))) (λ last. inr last) full.1)

  -- the record was appended
  pub state_recorded : state_of (record { disk = d'; journal = after_append j r; limit = most; streams = streams; stopped = b })
      ≡ record (recorded (state_of old) (size_of r) then.cases) { next = then.next }
  state_recorded =
      ap (λ (n : ℕ). record (state_of old) {
        cases = then.cases;
        next = then.next;
        used = cond (fits j.standing r) (j.standing.used + size_of r) n;
        generation = cond (fits j.standing r) j.standing.generation (j.standing.generation + 1);
      }) (snapshot_is then)
