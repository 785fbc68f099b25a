-- The part of an archive that outlives a stop: its cases with their images, the number of the next one, and the version of its layout.
use Rattle.std.specs.Prelude.{◌≡◌, ◌⊎◌, ℕ, ◌+◌, Bool, not, List, [], ◌∷◌, ◌++◌, map, Result, Ok, Err}
use Rattle.std.specs.List.{filter}
use Rattle.journal_layout.specs.declared.faults.OpenFault.{OpenFault}
use Rattle.journal_layout.specs.declared.faults.OpenFault.TheVariants as fault
use Rattle.journal_layout.specs.declared.shape.Shape.{Shape}
use Rattle.journal_layout.specs.Case.{Case}
use Rattle.journal_layout.specs.Folding.{is_among, pinned_as, labelled_as}
use Rattle.journal_layout.specs.Standing.{Standing}
use Rattle.journal_layout.specs.Stands.{Stands}
use Rattle.intake.specs.Step.{case_from}
use Rattle.intake.specs.Blocks.{image_in}
use Rattle.intake.specs.Contents.{Contents}
use Rattle.intake.specs.Parts.{Parts}
use Rattle.intake.specs.State.{ArchiveState, StreamFacts}

-- a case with its image
pub record FoundCase : Type 0 where
  pub case : Case
  pub image : List ℕ

pub record Durable : Type 0 where
  -- in the order of their numbers
  pub cases : List FoundCase
  -- the number of the next case
  pub next : ℕ
  -- of the layout: 1, or 2, which keeps labels
  pub version : ℕ

abbrev pub found_with : Case → List ℕ → FoundCase
found_with c image = record { case = c; image = image }

-- a case with the image that its blocks hold
abbrev pub found_case : Shape → List ℕ → Case → FoundCase
found_case shape bytes c = found_with c (image_in shape bytes c.blocks c.len)

-- the durable part of an archive with these bytes and this journal
abbrev pub durable_in : List ℕ → Standing → Durable
durable_in bytes s = record { cases = map (found_case s.shape bytes) s.cases; next = s.next; version = s.version }

-- An opening of these bytes finds this.
pub record StandsFor (bytes : List ℕ) (x : Durable) : Type 0 where
  pub standing : Standing
  pub stands : Stands bytes standing
  pub is : durable_in bytes standing ≡ x

-- the durable part of an archive, on a disk that reads so
abbrev pub durable_of : {D : Type 0} → (D → List ℕ) → Parts D → Durable
durable_of seen a = durable_in (seen a.disk) a.journal.standing

-- the cases of a state, each with its image
abbrev pub with_images : List Case → List (List ℕ) → List FoundCase
with_images [] images = []
with_images (c ∷ cases) [] = []
with_images (c ∷ cases) (image ∷ images) = found_with c image ∷ with_images cases images

-- the durable part of a state and its bytes: it is left after a stop
abbrev pub durable_part : ArchiveState → Contents → Durable
durable_part s c = record { cases = with_images s.cases c.images; next = s.next; version = s.version }

-- with the image of a stream as the last case, in these blocks
abbrev pub with_case : Durable → StreamFacts → List ℕ → List ℕ → Durable
with_case x s blocks image = record x { cases = x.cases ++ found_with (case_from s x.next blocks) image ∷ []; next = x.next + 1 }

-- without the cases of these numbers
abbrev pub without : Durable → List ℕ → Durable
without x seqs = record x { cases = filter (λ (c : FoundCase). not (is_among seqs c.case.seq)) x.cases }

-- the case made another, with the same image
abbrev pub made_of : (Case → Case) → FoundCase → FoundCase
made_of f c = record c { case = f c.case }

-- with the flag of a case set
abbrev pub flagged : Durable → ℕ → Bool → Durable
flagged x seq flag = record x { cases = map (made_of (pinned_as seq flag)) x.cases }

-- with the label of a case set
abbrev pub labelled : Durable → ℕ → List ℕ → Durable
labelled x seq text = record x { cases = map (made_of (labelled_as seq text)) x.cases }

-- the same cases and next number, in version 2 of the layout
abbrev pub upgraded : Durable → Durable
upgraded x = record x { version = 2 }

-- an opening finds this, and only the disk and the memory refuse it
abbrev pub FindsAgain : {D : Type 0} → (D → List ℕ) → Result (Parts D) (OpenFault × D) → Durable → Type 0
FindsAgain seen (Ok a) x = durable_of seen a ≡ x
FindsAgain seen (Err e) x = (e.0 ≡ fault.Disk) ⊎ (e.0 ≡ fault.OutOfMemory)
