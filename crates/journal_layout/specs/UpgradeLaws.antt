-- Laws of an upgrade: an archive that is written anew in version 2 has the same content.
use Rattle.std.proofs.Common.{◌≡◌, ℕ, ◌+◌, ◌^◌, ◌<◌, ◌≤◌, List, slice_index, refl}
use Rattle.std.specs.List.{All}
use Rattle.disk_model.specs.Places.{SameOutside}
use Rattle.journal_layout.specs.Layout.{half_length}
use Rattle.journal_layout.specs.Standing.{Standing, folded_of}
use Rattle.journal_layout.specs.Stands.{Stands}
use Rattle.journal_layout.specs.Live.{HasNoLabel}
use Rattle.journal_layout.specs.LiveLaws.{stands_live}
use Rattle.journal_layout.specs.LabelledLaws.{labelled_two, no_labels_in_one}
use Rattle.journal_layout.specs.Rewriting.{other_start, snapshot_size, in_version_two, upgraded, HoldsSnapshot, MayRewrite}
use Rattle.journal_layout.specs.OtherHalfLaws.{an_opened_half_stands}

-- an archive may be written anew in version 2, if its snapshot has room
pub may_upgrade : (b : List ℕ) (s : Standing) → Stands b s
    → snapshot_size (in_version_two (folded_of s)) + 1 ≤ half_length s.shape → s.generation + 1 < 2 ^ 64 → MayRewrite s (in_version_two (folded_of s))
may_upgrade b s stands in_half generation = record {
  live = stands_live b s stands;
  labels = labelled_two 2 s.cases refl;
  known = refl;
  in_half = in_half;
  generation = generation;
}

-- and then the same is encoded
pub an_upgrade_says_the_same : (b c : List ℕ) (s : Standing) → Stands b s → s.version ≡ 1
    → snapshot_size (in_version_two (folded_of s)) + 1 ≤ half_length s.shape → s.generation + 1 < 2 ^ 64
    → HoldsSnapshot s (in_version_two (folded_of s)) b → SameOutside (other_start s) 1 b c → slice_index c (other_start s) ≡ 165
    → Stands c (upgraded s) × ((upgraded s).version ≡ 2) × ((upgraded s).cases ≡ s.cases) × ((upgraded s).next ≡ s.next)
    × All HasNoLabel (upgraded s).cases
an_upgrade_says_the_same b c s stands one in_half generation holds same opened = (
  an_opened_half_stands b c s (in_version_two (folded_of s)) stands (may_upgrade b s stands in_half generation) holds same opened,
  refl,
  refl,
  refl,
  no_labels_in_one b s stands one,
)
