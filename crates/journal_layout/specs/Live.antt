-- Invariants of the cases that a journal's records give.
use Rattle.std.specs.Prelude.{◌≡◌, ◌≢◌, ℕ, ◌^◌, ◌<◌, ◌≤◌, false, List, [], ◌∷◌, length, map}
use Rattle.std.specs.List.{All, filter}
use Rattle.journal_layout.specs.Case.{Case}
use Rattle.journal_layout.specs.Folding.{is_among, used_blocks, is_name_of}
use Rattle.journal_layout.specs.Soundness.{IsWritable, IsLabel, Rise, blocks_for, uses}

abbrev pub seq_of_case : Case → ℕ
seq_of_case c = c.seq

-- a case by itself, if the next one gets this number
pub record IsWhole (next : ℕ) (c : Case) : Type 0 where
  pub below : c.seq < next
  pub origin : IsWritable c.origin
  pub bytes : c.len < 2 ^ 64
  -- as many blocks as its bytes need
  pub enough : length c.blocks ≡ blocks_for c.len
  pub label : IsLabel c.label

-- no two cases have one name
abbrev pub AreNamedApart : List Case → Type 0
AreNamedApart [] = Unit {0}
AreNamedApart (c ∷ rest) = (is_name_of rest c.origin.name ≡ false) × AreNamedApart rest

-- The cases of an archive of `limit` data blocks, if the next one gets this number.
pub record AreLive (limit : ℕ) (cases : List Case) (next : ℕ) : Type 0 where
  pub some_next : 1 ≤ next
  pub numbers : next ≤ 2 ^ 32
  pub each : All (IsWhole next) cases
  -- the first number is 1 or greater, and each is greater than the one before it
  pub rise : Rise 0 (map seq_of_case cases)
  -- no block is used twice, and all that are used lie among the data blocks
  pub once : (k : ℕ) → uses k (used_blocks cases) ≤ 1
  pub within : (k : ℕ) → 0 < uses k (used_blocks cases) → k < limit
  pub different : AreNamedApart cases

abbrev pub HasNoLabel : Case → Type 0
HasNoLabel c = c.label ≡ []

-- Version 2 of the layout keeps labels, and no other: in a half of another version no case has one.
abbrev pub AreLabelled : ℕ → List Case → Type 0
AreLabelled version cases = version ≢ 2 → All HasNoLabel cases

-- the cases that have these numbers
abbrev pub gone : List ℕ → List Case → List Case
gone seqs cases = filter (λ (c : Case). is_among seqs c.seq) cases
