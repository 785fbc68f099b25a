-- A look at a journal that others change meanwhile, without a lock: the places
-- that are read, their order, and the condition under which the look is taken.
use Rattle.std.specs.Prelude.{◌≡◌, ◌≢◌, ◌⊎◌, ℕ, ◌+◌, ◌<◌, ◌≤◌, List, [], ◌∷◌, length, slice_index, Ok}
use Rattle.journal_layout.specs.declared.shape.Shape.{Shape}
use Rattle.journal_layout.specs.declared.shape.Half.{Half}
use Rattle.journal_layout.specs.Layout.{field, half_start}
use Rattle.journal_layout.specs.Front.{Front, front_opening}
use Rattle.journal_layout.specs.Stands.{records_start}
use Rattle.shared_disk.specs.History.{moment}

-- A read from moment i to moment j gives this byte: it is that of one of these moments.
abbrev pub IsReadIn : List (List ℕ) → ℕ → ℕ → ℕ → ℕ → Type 0
IsReadIn moments i j p byte = (k : ℕ) × (i ≤ k) × (k ≤ j) × (byte ≡ slice_index (moment moments k) p)

-- A read of some places gives the bytes that `seen` has there. The bytes need not be of one moment.
abbrev pub GivesSeen : List (List ℕ) → ℕ → ℕ → List ℕ → (ℕ → Type 0) → Type 0
GivesSeen moments i j seen places = (p : ℕ) → places p → IsReadIn moments i j p (slice_index seen p)

-- These places are read one after the other, each by a read of its own, and each is an open gate then.
abbrev pub OpensInTurn : List (List ℕ) → ℕ → ℕ → List ℕ → Type 0
OpensInTurn moments i j [] = i ≤ j
OpensInTurn moments i j (p ∷ rest) = (k : ℕ) × (i ≤ k) × (slice_index (moment moments k) p ≡ 165) × OpensInTurn moments k j rest

-- From this place on there are records, as far as their gates and lengths show:
-- these are the places of their gates, and the gate at `behind` is not open.
abbrev pub IsChain : List ℕ → ℕ → List ℕ → ℕ → Type 0
IsChain seen at [] behind = (at ≡ behind) × (slice_index seen at ≢ 165)
IsChain seen at (p ∷ rest) behind = (p ≡ at) × (slice_index seen at ≡ 165) × (16 ≤ field seen (at + 4) 4) × IsChain seen (at + field seen (at + 4) 4) rest behind

abbrev pub IsGeneration : Shape → ℕ → Type 0
IsGeneration shape p = (h : Half) × (half_start shape h + 8 ≤ p) × (p < half_start shape h + 16)

abbrev pub IsGate : Shape → ℕ → Type 0
IsGate shape p = (h : Half) × (p ≡ half_start shape h)

-- the superblock, the headers of both halves, and the taken half up to this gate
abbrev pub IsRead : Shape → Half → ℕ → ℕ → Type 0
IsRead shape half behind p =
    (p < 24)
    ⊎ ((h : Half) × (half_start shape h ≤ p) × (p < half_start shape h + 32))
    ⊎ ((half_start shape half ≤ p) × (p ≤ behind))

-- A look that is taken. Its reads follow; each starts when the one before it has ended:
-- 1. the generations of both halves;
-- 2. the gates of both halves;
-- 3. the gates of the records of the half that is taken, in their order, each by a read of its own;
-- 4. the superblock, the headers and these records with the gate behind them, in any order;
-- 5. the gates of both halves again;
-- 6. the generations again.
-- If a place is read more than once, each reading gives the same. The seen bytes have this front.
--
-- Why it is of one moment, the one between 3 and 4:
-- - The generations are the same in 1 and 6, and they only rise. So neither half was written anew from 2 to 5, and at most one was taken meanwhile.
-- - The gate of the half was open in 2 and in 5, so it was open all that time: the bytes in use by the end of 3 stayed until the end of 5.
-- - The gates of 3 were read in their order. A gate was a gate of the journal when it was read, since the records before it were there. So all these
--   records were there by the end of 3, and 4 reads them as they were then. The gate behind them isn't open in 4, so it wasn't at the end of 3.
-- - If the other half's gate was open in 2 and 5, that half was older all the time; if it was closed, it wasn't taken.
--
-- No step can be left out, and none can change its place:
-- - Gates before generations: a half is open, is closed, and gets the next generation in between. It is taken for the next one while that is still written.
-- - Generations not read again: the half is written anew after 2, and opened again by 5.
-- - Gates not read again: the half is closed in 4, and the bytes after its gate are written while they are read, the records before the generation.
-- - Gates of records not read before them, or all in one read, even if the records are read twice: the place behind the last record has the open gate of
--   an older record, which is read the first time. The second time it is the gate of a record that came meanwhile, and its body is still the older one.
pub record IsLook (moments : List (List ℕ)) (seen : List ℕ) (f : Front) : Type 0 where
  pub begin : ℕ
  pub has_generations : ℕ
  pub has_gates : ℕ
  pub has_order : ℕ
  pub has_records : ℕ
  pub has_gates_again : ℕ
  pub finish : ℕ
  pub last : finish < length moments
  pub long : length seen ≡ length (moment moments has_order)
  pub front : front_opening seen ≡ Ok f
  pub places : List ℕ
  pub behind : ℕ
  pub chain : IsChain seen (records_start f.shape f.half) places behind
  pub generations : GivesSeen moments begin has_generations seen (IsGeneration f.shape)
  pub gates : GivesSeen moments has_generations has_gates seen (IsGate f.shape)
  pub order : OpensInTurn moments has_gates has_order places
  pub records : GivesSeen moments has_order has_records seen (IsRead f.shape f.half behind)
  pub gates_again : GivesSeen moments has_records has_gates_again seen (IsGate f.shape)
  pub generations_again : GivesSeen moments has_gates_again finish seen (IsGeneration f.shape)

-- From the start to the end of the look the journal is not written anew so often that the lowest byte of a generation repeats.
abbrev pub AreFew : (Half → ℕ → ℕ) → ℕ → ℕ → Type 0
AreFew mark i j = (h : Half) → mark h j < mark h i + 256
