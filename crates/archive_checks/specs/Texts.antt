-- The lines that `check` prints about an archive.
use Rattle.std.specs.Prelude.{ℕ, List, [], ◌∷◌, ◌++◌, codes, decimal}
use Rattle.intake.specs.declared.space.Space.{Space}
use Rattle.journal_layout.specs.declared.shape.Half.{Half}
use Rattle.journal_layout.specs.declared.shape.Half.TheVariants.{A, B}
use Rattle.archive_checks.specs.declared.gaps.Gap.{Gap}
use Rattle.archive_checks.specs.declared.gaps.Gap.TheVariants.{Generation, Newer}
use Rattle.archive_checks.specs.declared.lines.Place.{Place}
use Rattle.archive_checks.specs.declared.lines.Place.TheVariants.{Superblock, Header, Record}

-- `version V`, `cases N` and `free F of N`
abbrev pub facts_lines : ℕ → ℕ → Space → List ℕ
facts_lines version count space =
    codes "version " ++ (decimal version ++ (10 ∷ [] ++ (codes "cases " ++ (decimal count ++ (10 ∷ [] ++ (codes "free " ++ (decimal space.free ++ (codes " of " ++ (decimal space.data_blocks ++ 10 ∷ [])))))))))

abbrev pub half_name : Half → List ℕ
half_name A = codes "A"
half_name B = codes "B"

abbrev pub place_words : Place → List ℕ
place_words Superblock = codes ", the superblock\n"
place_words (Header half) = codes ", the header of half " ++ (half_name half ++ (codes " of the journal\n"))
place_words (Record half number) = codes ", record " ++ (decimal number ++ (codes " of half " ++ (half_name half ++ (codes " of the journal\n"))))

-- the block, and in words the part that it belongs to
abbrev pub place_line : ℕ → Place → List ℕ
place_line block place = codes "damaged in block " ++ (decimal block ++ place_words place)

-- a possible cause, if no writing leaves the halves of a journal so
abbrev pub doubt : List ℕ
doubt = codes ": a header may be damaged, and the half that is not taken the right one: docs/OPERATIONS.md has a recipe for that, under 'The care of an archive'"

-- a generation that isn't the one before the other, or a next number that is greater than the taken one
abbrev pub gap_line : Gap → List ℕ
gap_line (Generation half is wants) =
    codes "the generation of half " ++ (half_name half ++ (codes " of the journal is " ++ (decimal is ++ (codes ", not " ++ (decimal wants ++ doubt)))))
gap_line (Newer half next taken) =
    codes "by half " ++ (half_name half ++ (codes " of the journal, which is not taken, the next case is " ++ (decimal next ++ (codes ", by the other " ++ (decimal taken ++ doubt)))))
