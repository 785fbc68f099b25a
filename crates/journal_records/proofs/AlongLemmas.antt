-- Records in a row, as they are read.
use Rattle.std.proofs.Common.{◌≡◌, ℕ, ◌+◌, ◌-◌, List, [], ◌∷◌, ◌++◌, length, take, drop, slice_index, Option, None, Some, sym, ap, ◌∙◌, subst, arith}
use Rattle.std.proofs.lemmas.List.{get_or-drop, length-drop}
use Rattle.std.proofs.Math.Seq.{take-length}
use Rattle.disk_model.specs.Places.{AreBytes}
use Rattle.disk_model.specs.PlaceLaws.{drop_bytes}
use Rattle.journal_layout.specs.declared.faults.OpenFault.{OpenFault}
use Rattle.journal_layout.specs.declared.faults.OpenFault.TheVariants.{Damaged, OutOfMemory}
use Rattle.journal_layout.specs.Reading.{length_at, record_at}
use Rattle.journal_layout.specs.Folding.{Folded, after, nothing_yet, replayed, sizes}
use Rattle.journal_layout.specs.Checks.{record_fault}
use Rattle.journal_layout.specs.Stands.{StandsFirst, AreRead}
use Rattle.journal_layout.specs.RowLaws.{row_push, replayed_push, sizes_push, last_push}
use Rattle.journal_layout.specs.RecordLaws.{record_found, size_found}
use Rattle.journal_records.specs.Head.{SaysFault}
use Rattle.journal_records.specs.Said.{IsAlong, SaysFaulty}

-- one record more
pub along_more : (limit version at : ℕ) (bytes : List ℕ) (said next : Folded) (last : Option ℕ) (used size : ℕ) → AreBytes bytes → IsAlong limit version bytes said last used → slice_index bytes used ≡ 165
    → record_fault limit at (drop used bytes) said ≡ None → next ≡ after (record_at (drop used bytes)) said → size ≡ length_at (drop used bytes)
    → IsAlong limit version bytes next (Some used) (used + size)
along_more limit version at bytes said next last used size are along opened fine is long =
    let rest = drop used bytes in
    let r = record_at rest in
    let here : drop (sizes along.records) bytes ≡ rest = ap (λ n. drop n bytes) along.size in
    let gate : slice_index rest 0 ≡ 165 = (let e : used + 0 ≡ used = omega arith in get_or-drop used bytes 0 0 ∙ ap (slice_index bytes) e ∙ opened) in
    let found : StandsFirst limit rest said r = record_found limit at rest said (drop_bytes used bytes are) gate fine in
    let stands : StandsFirst limit (drop (sizes along.records) bytes) (replayed along.records (nothing_yet version)) r =
    subst (λ (f : Folded). StandsFirst limit (drop (sizes along.records) bytes) f r) (sym along.folded)
    (subst (λ (b : List ℕ). StandsFirst limit b said r) (sym here) found) in
    let whole = size_found limit at rest said (drop_bytes used bytes are) gate fine in
    let sum = sizes_push along.records r in
    let so_far = along.size in
    record {
      records = along.records ++ r ∷ [];
      row = row_push limit bytes (nothing_yet version) along.records r along.row stands;
      folded = replayed_push along.records r (nothing_yet version) ∙ ap (after r) along.folded ∙ sym is;
      ends = last_push along.records r 0 None ∙ ap Some (omega (arith, so_far));
      size = omega (arith, sum, whole, so_far, long);
    }

-- the record that is next is faulty
pub faulty_next : (limit version at : ℕ) (bytes : List ℕ) (said : Folded) (last : Option ℕ) (used : ℕ) (e : OpenFault) → IsAlong limit version bytes said last used → slice_index bytes used ≡ 165
    → SaysFault (record_fault limit (at + used) (drop used bytes) said) e → SaysFaulty limit version at bytes e
faulty_next limit version at bytes said last used (Damaged place which) along opened told = record {
  records = along.records;
  row = along.row;
  opened = ap (slice_index bytes) along.size ∙ opened;
  found =
      ap (λ n. record_fault limit (at + n) (drop n bytes) (replayed along.records (nothing_yet version))) along.size
      ∙ ap (record_fault limit (at + used) (drop used bytes)) along.folded ∙ told;
}
faulty_next limit version at bytes said last used OutOfMemory along opened told = tt
faulty_next limit version at bytes said last used other along opened told = absurd told

-- the reading is over
pub read_all : (limit version : ℕ) (bytes : List ℕ) (said same : Folded) (last : Option ℕ) (used : ℕ) → IsAlong limit version bytes said last used → (slice_index bytes used ≡ 165 → ⊥) → said ≡ same → AreRead limit bytes (nothing_yet version) same used
read_all limit version bytes said same last used along closed is = record {
  records = along.records;
  row = along.row;
  closed = subst (λ n. slice_index bytes n ≡ 165 → ⊥) (sym along.size) closed;
  folded = along.folded ∙ is;
  size = along.size;
}

-- the bytes from a place on
pub rest_of : (p : ℕ) (bytes : List ℕ) → take (length bytes - p) (drop p bytes) ≡ drop p bytes
rest_of p bytes = ap (λ n. take n (drop p bytes)) (sym (length-drop p bytes)) ∙ take-length (drop p bytes)
