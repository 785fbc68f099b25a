-- How much is written of a journal into its other half.
use Rattle.std.proofs.Common.{◌≡◌, ◌≤◌, ◌∙◌, ◌++◌, ◌∷◌, [], ℕ, List, length, refl, arith}
use Rattle.std.proofs.lemmas.List.{length-append}
use Rattle.journal_layout.specs.declared.entry.Entry.{Entry}
use Rattle.journal_layout.specs.Layout.{half_header, number_bytes}
use Rattle.journal_layout.specs.Record.{Next, spelling}
use Rattle.journal_layout.specs.SpellLaws.{length-spelling}
use Rattle.journal_snapshot.specs.declared.change.Change.{Change}
use Rattle.journal_snapshot.specs.declared.target.Target.{Target}
use Rattle.journal_snapshot.specs.Writing.{written_entries, written_added, AreAtMost}
use Rattle.journal_snapshot.specs.Measuring.{snapshot_bytes}
use Rattle.journal_snapshot.specs.Halves.{half_bytes}

pub header_length : (version generation : ℕ) → length (half_header version generation) ≡ 31
unfolding half_header number_bytes
header_length version generation = refl

-- as much as was measured
pub half_bytes_length : (target : Target) (ch : Change) (es : List Entry) → length (half_bytes target ch es) ≡ snapshot_bytes ch es
half_bytes_length target ch es =
    let first = half_header target.version target.generation in
    let last = spelling (Next target.next) ++ 0 ∷ [] in
    length-append ((first ++ written_entries ch es) ++ written_added ch) last
    ∙ omega (
      arith,
      length-append (first ++ written_entries ch es) (written_added ch),
      length-append first (written_entries ch es),
      header_length target.version target.generation,
      length-append (spelling (Next target.next)) (0 ∷ []),
      length-spelling (Next target.next),
    )

-- entries that fit into n bytes fit into more
pub at_most_more : (n m : ℕ) (ch : Change) (es : List Entry) → n ≤ m → AreAtMost n ch es → AreAtMost m ch es
at_most_more n m ch es low most = λ k d below. omega (arith, most k d below, low)
