-- A Store record that is the only record of a half.
use Rattle.std.proofs.Common.{◌≡◌, ◌≢◌, ℕ, Bool, cond, zero, suc, ◌+◌, ◌^◌, ◌<◌, ◌≤◌, List, [], ◌∷◌, ◌++◌, length, map, take, drop, slice_index, refl, sym, ap, ◌∙◌, subst, arith, length-append, length-drop, Option, None, Some, Ok}
use Rattle.std.proofs.lemmas.Bool.{le-leb}
use Rattle.std.proofs.lemmas.List.{get_or-take, get_or-drop, get_or_append_left, get_or_at, length-take}
use Rattle.std.specs.Option.{option_to_list}
use Rattle.journal_layout.specs.Case.{Case, case_of}
use Rattle.journal_layout.specs.Folding.{Folded, after, nothing_yet, replayed, sizes}
use Rattle.journal_layout.specs.KindLaws.{record_of}
use Rattle.journal_layout.specs.Layout.{field}
use Rattle.journal_layout.specs.Reading.{case_at, kind_at, length_at}
use Rattle.journal_layout.specs.Record.{Record, Store, record_size}
use Rattle.journal_layout.specs.RecordLaws.{opened_first, record_again}
use Rattle.journal_layout.specs.ReadingLaws.{read_or_faulty}
use Rattle.journal_layout.specs.SpellLaws.{as_spelled, prints_length}
use Rattle.journal_layout.specs.Stands.{AreFaulty, AreRead, StandInRow, StandsFirst}
use Rattle.journal_layout.specs.declared.entry.Entry.{Entry}
use Rattle.journal_layout.specs.declared.faults.OpenFault.{OpenFault}
use Rattle.journal_layout.specs.declared.faults.OpenFault.TheVariants.{Disk, OutOfMemory, NotAnArchive, UnknownVersion, Damaged}
use Rattle.journal_records.specs.Said.{SaysFaulty}
use Rattle.salvage.specs.Alone.{HasHead, StoresCase, alone}
use Rattle.salvage.specs.Finding.{not_found}
use Rattle.salvage.specs.Reads.{IsStored}
use Rattle.salvage.specs.Records.{number_of}

-- the bytes of the record alone, but for its gate
module _ (rest : List ℕ) (size : ℕ) (some : 1 ≤ size) (room : size < length rest) where
  body_long : length (take size rest) ≡ size
  body_long = omega (arith, length-take size rest)

  pub alone_long : length (alone rest size) ≡ size + 1
  alone_long = omega (arith, length-drop 1 (take size rest ++ 0 ∷ []), length-append (take size rest) (0 ∷ []), body_long)

  pub alone_place : (k : ℕ) → k + 1 < size → slice_index (alone rest size) (k + 1) ≡ slice_index rest (k + 1)
  alone_place k low =
      let e : k + 1 ≡ suc k = omega arith in
      let f : 1 + k ≡ k + 1 = omega arith in
      ap (λ (j : ℕ). slice_index (alone rest size) j) e
      ∙ get_or-drop 1 (take size rest ++ 0 ∷ []) k 0
      ∙ ap (λ (j : ℕ). slice_index (take size rest ++ 0 ∷ []) j) f
      ∙ get_or_append_left (take size rest) (0 ∷ []) 0 (k + 1) (omega (arith, low, body_long))
      ∙ get_or-take size rest (k + 1) 0 low

  pub alone_shut : slice_index (alone rest size) size ≡ 0
  alone_shut = shut_at size some refl
    where
      shut_at : (n : ℕ) → 1 ≤ n → size ≡ n → slice_index (alone rest size) n ≡ 0
      shut_at zero some e = absurd (omega (arith, some))
      shut_at (suc n) some e =
          get_or-drop 1 (take size rest ++ 0 ∷ []) n 0
          ∙ get_or_at (take size rest) 0 [] 0 (1 + n) (omega (arith, body_long, e))

module _ (blocks : ℕ) (rest : List ℕ) (size : ℕ) (head : HasHead rest size) (kind : slice_index rest 1 ≡ 1) (low : blocks ≤ 16777216) (small : size < 2 ^ 32) where
  abbrev only : List ℕ
  only = alone rest size

  abbrev first : Folded
  first = nothing_yet 2

  long : length only ≡ size + 1
  long = alone_long rest size (omega (arith, head.some)) head.room

  short : length only ≤ 2 ^ 32
  short = omega (arith, long, small)

  place : (k : ℕ) → k + 1 < size → slice_index only (k + 1) ≡ slice_index rest (k + 1)
  place k below = alone_place rest size (omega (arith, head.some)) head.room k below

  kind_is : kind_at only ≡ 1
  kind_is = place 0 (omega (arith, head.some)) ∙ kind

  four_from : (xs ys : List ℕ) → slice_index xs 4 ≡ slice_index ys 4 → slice_index xs 5 ≡ slice_index ys 5 → slice_index xs 6 ≡ slice_index ys 6 → slice_index xs 7 ≡ slice_index ys 7 → field xs 4 4 ≡ field ys 4 4
  four_from xs ys a b c d = cc

  length_is : length_at only ≡ size
  length_is =
      four_from only rest (place 3 (omega (arith, head.some))) (place 4 (omega (arith, head.some))) (place 5 (omega (arith, head.some))) (place 6 (omega (arith, head.some)))
      ∙ number_there ∙ sym head.says
    where
      number_there : field rest 4 4 ≡ number_of rest 4
      number_there =
          let room : 8 ≤ length rest = omega (arith, head.some, head.room) in
          ap (λ (t : Bool). cond t (field rest 4 4) 0) (sym (le-leb 8 (length rest) room))

  -- the first record is as long as it says
  size_is : (f : Folded) (r : Record) → StandsFirst blocks only f r → record_size r ≡ size
  size_is f r stands =
      let same = as_spelled r only stands.spelled in
      let in_half = stands.in_half in
      sym (prints_length r (drop (record_size r) only) (omega (arith, in_half, long, small))) ∙ ap length_at (sym same) ∙ length_is

  -- it is a Store record
  store_is : (f : Folded) (r : Record) → StandsFirst blocks only f r → r ≡ Store (case_at only)
  store_is f r stands = sym (record_again blocks 0 only f r low short stands).is ∙ record_of only (Store (case_at only)) kind_is

  shut : slice_index only size ≡ 0
  shut = alone_shut rest size (omega (arith, head.some)) head.room

  none_behind : (f : Folded) (n : ℕ) (r : Record) → n ≡ size → StandsFirst blocks (drop n only) f r → ⊥
  none_behind f n r e stands =
      let open_there : slice_index (drop n only) 0 ≡ 165 = opened_first blocks (drop n only) f r stands in
      let there : slice_index (drop n only) 0 ≡ slice_index only size = get_or-drop n only 0 0 ∙ ap (slice_index only) (omega (arith, e)) in
      let no : 0 ≡ 165 = sym shut ∙ sym there ∙ open_there in
      absurd (omega (arith, no))

  one_record : (records : List Record) → StandInRow blocks only first records → slice_index only (sizes records) ≢ 165 → (replayed records first).cases ≡ case_at only ∷ []
  one_record [] row closed = absurd (closed refl)
  one_record (r ∷ []) row closed = ap (λ (x : Record). (after x first).cases) (store_is first r row.0)
  one_record (r ∷ s ∷ rest) row closed = absurd (none_behind (after r first) (record_size r) s (size_is first r row.0) row.1.0)

  -- whatever is read of the record alone is the one case that its bytes say
  pub one_said : (said : Folded) (used : ℕ) → AreRead blocks only first said used → said.cases ≡ case_at only ∷ []
  one_said said used read = ap (λ (f : Folded). f.cases) (sym read.folded) ∙ one_record read.records read.row read.closed

  -- the only one of some entries
  only_entry : (left : List Entry) (e : Entry) (c : Case) → map case_of (left ++ e ∷ []) ≡ c ∷ [] → (left ++ e ∷ [] ≡ e ∷ []) × (case_of e ≡ c)
  only_entry [] e c is = (refl, (cc))
  only_entry (x ∷ []) e c is = absurd (cc)
  only_entry (x ∷ y ∷ rest) e c is = absurd (cc)

  stores : (left : List Entry) (e : Entry) (next used : ℕ) → AreRead blocks only first (record { version = 2; cases = map case_of (left ++ e ∷ []); next = next }) used
      → StoresCase blocks rest size (case_of e)
  stores left e next used read =
      let one = only_entry left e (case_at only) (one_said (record { version = 2; cases = map case_of (left ++ e ∷ []); next = next }) used read) in
      record {
        head = head;
        kind = kind;
        limit = low;
        said = (
          next,
          used,
          subst (λ (es : List Entry). AreRead blocks only first (record { version = 2; cases = map case_of es; next = next }) used) one.0 read,
        );
      }

module _ (blocks : ℕ) (rest : List ℕ) (size : ℕ) (low : blocks ≤ 16777216) (small : size < 2 ^ 32) where
  -- nothing was read of the record alone
  none_stored : (items : List Entry) (made : List ℕ) (next used : ℕ) → ((e : Entry) → 0 < length items → ⊥) → (size ≤ length rest → made ≡ alone rest size)
      → AreRead blocks made (nothing_yet 2) (record { version = 2; cases = map case_of items; next = next }) used → (c : Case) → StoresCase blocks rest size c → ⊥
  none_stored (x ∷ xs) made next used none made_is read c stored = none x (omega arith)
  none_stored [] made next used none made_is read c stored =
      let is = made_is (omega (arith, stored.head.room)) in
      let none_said = one_said blocks rest size stored.head stored.kind low small (record { version = 2; cases = []; next = next }) used
      (subst (λ (bytes : List ℕ). AreRead blocks bytes (nothing_yet 2) (record { version = 2; cases = []; next = next }) used) is read) in
      absurd (cc)

  -- the last of the entries that are read of the record alone
  pub popped_stored : (o : Option Entry) (items left : List Entry) (made : List ℕ) (next used : ℕ) → items ≡ left ++ option_to_list o
      → ((e : Entry) → 0 < length items → (k : Entry) × (o ≡ Some k))
      → (size ≤ length rest → made ≡ alone rest size)
      → AreRead blocks made (nothing_yet 2) (record { version = 2; cases = map case_of items; next = next }) used
      → IsStored blocks rest size (Ok o)
  popped_stored None items left made next used is some made_is read =
      none_stored items made next used (λ e long. (let k = some e long in absurd (cc))) made_is read
  popped_stored (Some e) items left made next used is some made_is read = λ head kind.
      let whole = made_is (omega (arith, head.room)) in
      stores blocks rest size head kind low small left e next used
      (subst (λ (es : List Entry). AreRead blocks (alone rest size) (nothing_yet 2) (record { version = 2; cases = map case_of es; next = next }) used) is
      (subst (λ (bytes : List ℕ). AreRead blocks bytes (nothing_yet 2) (record { version = 2; cases = map case_of items; next = next }) used) whole read))

  damaged_stored : (fault : OpenFault) (made : List ℕ) → (size ≤ length rest → made ≡ alone rest size) → AreFaulty blocks 0 made (nothing_yet 2) fault
      → (c : Case) → StoresCase blocks rest size c → ⊥
  damaged_stored fault made made_is faulty c stored =
      let is = made_is (omega (arith, stored.head.room)) in
      let head = stored.head in
      let room = alone_long rest size (omega (arith, head.some)) head.room in
      let said = stored.said in
      read_or_faulty blocks (alone rest size) (nothing_yet 2) low (omega (arith, room, small)) 0 said.1 (record { version = 2; cases = c ∷ []; next = said.0 }) fault said.2
      (subst (λ (bytes : List ℕ). AreFaulty blocks 0 bytes (nothing_yet 2) fault) is faulty)

  -- what an error of the reading says
  pub faulty_stored : (fault : OpenFault) (b : Bool) (made : List ℕ) → not_found fault ≡ Ok b → (size ≤ length rest → made ≡ alone rest size) → SaysFaulty blocks 2 0 made fault
      → (c : Case) → StoresCase blocks rest size c → ⊥
  faulty_stored Disk b made found made_is states c stored = absurd (cc)
  faulty_stored OutOfMemory b made found made_is states c stored = absurd (cc)
  faulty_stored NotAnArchive b made found made_is states c stored = states
  faulty_stored (UnknownVersion v) b made found made_is states c stored = states
  faulty_stored (Damaged at which) b made found made_is states c stored = damaged_stored (Damaged at which) made made_is states c stored
