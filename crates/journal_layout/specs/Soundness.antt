-- When a record may follow others: it agrees with the cases and the next number of the records before it.
use Rattle.std.specs.Prelude.{◌≡◌, ◌≢◌, ℕ, ◌+◌, ◌/◌, ◌^◌, ◌<◌, ◌≤◌, false, List, [], ◌∷◌, length, if◌then◌else◌, ◌==◌, Option, Some, None}
use Rattle.std.specs.List.{AllByRecursion}
use Rattle.disk_model.specs.Places.{AreBytes}
use Rattle.journal_layout.specs.Case.{Case, Origin}
use Rattle.journal_layout.specs.Record.{Record, Store, Drop, Pin, Next, Label}
use Rattle.journal_layout.specs.Folding.{Folded, used_blocks, is_name_of}

-- how often a list has a number
abbrev pub uses : ℕ → List ℕ → ℕ
uses k [] = 0
uses k (b ∷ rest) = (if b == k then 1 else 0) + uses k rest

-- the blocks are among the first data ones, each is there once, and none is among these
abbrev pub AreSpare : ℕ → List ℕ → List ℕ → Type 0
AreSpare limit used blocks = (k : ℕ) → 0 < uses k blocks → (k < limit) × (uses k blocks ≡ 1) × (uses k used ≡ 0)

-- the blocks that hold n bytes
abbrev pub blocks_for : ℕ → ℕ
blocks_for n = (n + 4095) / 4096

-- 1 to 128 bytes, none of them NUL
pub record IsName (name : List ℕ) : Type 0 where
  pub some : 1 ≤ length name
  pub short : length name ≤ 128
  pub bytes : AreBytes name
  pub no_nul : AllByRecursion (λ (b : ℕ). b ≢ 0) name

-- the origin of an image, as a record gives it
pub record IsWritable (o : Origin) : Type 0 where
  pub name : IsName o.name
  pub pid : o.pid < 2 ^ 32
  pub signal : o.signal < 2 ^ 32
  pub time : o.time < 2 ^ 64

-- 0 to 64 bytes
pub record IsLabel (text : List ℕ) : Type 0 where
  pub short : length text ≤ 64
  pub bytes : AreBytes text

-- The highest byte of a kind of record in a half of this version: labels came with version 2.
abbrev pub last_kind : ℕ → ℕ
last_kind version = if version == 2 then 5 else 4

-- A case may be stored if these cases are live, on an archive of `limit` data blocks.
-- Its number isn't checked. It has no label yet: that has a record of its own.
pub record IsStorable (limit : ℕ) (cases : List Case) (c : Case) : Type 0 where
  pub origin : IsWritable c.origin
  pub new_name : is_name_of cases c.origin.name ≡ false
  pub bytes : c.len < 2 ^ 64
  -- as many blocks as its bytes need
  pub enough : length c.blocks ≡ blocks_for c.len
  pub spare : AreSpare limit (used_blocks cases) c.blocks
  pub no_label : c.label ≡ []

-- the case of this number, if there is one
abbrev pub case_numbered : ℕ → List Case → Option Case
case_numbered seq [] = None
case_numbered seq (c ∷ rest) = if c.seq == seq then Some c else case_numbered seq rest

-- one of the cases has this number
abbrev pub IsLive : List Case → ℕ → Type 0
IsLive cases seq = (c : Case) × (case_numbered seq cases ≡ Some c)

abbrev pub IsDroppable : List Case → ℕ → Type 0
IsDroppable cases seq = (c : Case) × (case_numbered seq cases ≡ Some c) × (c.pinned ≡ false)

-- each number is greater than the one before it
abbrev pub Rise : ℕ → List ℕ → Type 0
Rise last [] = Unit {0}
Rise last (seq ∷ rest) = (last < seq) × Rise seq rest

-- the record may follow if the records before it give this
abbrev pub IsSound : ℕ → Folded → Record → Type 0
IsSound limit f (Store c) = (f.next ≤ c.seq) × (c.seq < 2 ^ 32) × IsStorable limit f.cases c
IsSound limit f (Drop seqs) = (0 < length seqs) × Rise 0 seqs × AllByRecursion (λ (seq : ℕ). seq < 2 ^ 32) seqs × AllByRecursion (IsDroppable f.cases) seqs
IsSound limit f (Pin seq flag) = (seq < 2 ^ 32) × IsLive f.cases seq
IsSound limit f (Next n) = (f.next ≤ n) × (n ≤ 2 ^ 32)
IsSound limit f (Label seq text) = (f.version ≡ 2) × (seq < 2 ^ 32) × IsLive f.cases seq × IsLabel text
