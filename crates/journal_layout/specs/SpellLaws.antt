-- Laws of the spelling of a record: its parts and their lengths.
use Rattle.std.proofs.Common.{◌≡◌, ℕ, ◌+◌, ◌-◌, ◌*◌, ◌%◌, ◌^◌, ◌<◌, ◌≤◌, List, [], ◌∷◌, ◌++◌, length, replicate, take, drop, refl, sym, ap, ◌∙◌, arith, append_assoc, length-append, None}
use Rattle.std.specs.List.{flat_map}
use Rattle.std.proofs.lemmas.List.{take_at, drop_at, take-append-drop, length-replicate}
use Rattle.disk_model.specs.Places.{part}
use Rattle.extents.specs.declared.run_list.Run.{Run}
use Rattle.extents.specs.Runs.{runs_of}
use Rattle.journal_layout.specs.Layout.{number_bytes, field}
use Rattle.journal_layout.specs.Case.{Case, unlabelled}
use Rattle.journal_layout.specs.Record.{Record, Store, Drop, Pin, Next, Label, rounded, flag_byte, run_bytes, seq_bytes, store_facts, plain_size, record_size, record_kind, body, plain, behind_gate, spelling}
use Rattle.journal_layout.specs.Reading.{kind_at, length_at}
use Rattle.journal_layout.specs.Soundness.{last_kind}
use Rattle.journal_layout.specs.Checks.{padding_fault}
use Rattle.journal_layout.specs.ByteLaws.{length-number_bytes, number_read}
use Rattle.journal_layout.specs.CheckLaws.{HasHead, padding_passes}

-- rounding up
pub rounded_up : (n : ℕ) → n ≤ rounded n
rounded_up n = omega arith

pub rounded_whole : (n : ℕ) → rounded n % 16 ≡ 0
rounded_whole n = omega arith

-- lengths
pub length-run_bytes : (r : Run) → length (run_bytes r) ≡ 8
unfolding run_bytes
length-run_bytes r = length-append (number_bytes 4 r.start) (number_bytes 4 r.count) ∙ omega (arith, length-number_bytes 4 r.start, length-number_bytes 4 r.count)

pub length-runs : (rs : List Run) → length (flat_map run_bytes rs) ≡ 8 * length rs
length-runs [] = refl
length-runs (r ∷ rs) = length-append (run_bytes r) (flat_map run_bytes rs) ∙ omega (arith, length-run_bytes r, length-runs rs)

pub length-seq_bytes : (seq : ℕ) → length (seq_bytes seq) ≡ 4
unfolding seq_bytes
length-seq_bytes seq = length-number_bytes 4 seq

pub length-seqs : (seqs : List ℕ) → length (flat_map seq_bytes seqs) ≡ 4 * length seqs
length-seqs [] = refl
length-seqs (seq ∷ seqs) = length-append (seq_bytes seq) (flat_map seq_bytes seqs) ∙ omega (arith, length-seq_bytes seq, length-seqs seqs)

pub length-facts : (c : Case) → length (store_facts c) ≡ 40
unfolding store_facts number_bytes
length-facts c = refl

pub length-body : (r : Record) → 8 + length (body r) ≡ plain_size r
unfolding body
length-body (Store c) =
    let a = length-append (store_facts c ++ flat_map run_bytes (runs_of c.blocks)) c.origin.name in
    let b = length-append (store_facts c) (flat_map run_bytes (runs_of c.blocks)) in
    omega (arith, length-facts c, length-runs (runs_of c.blocks))
length-body (Drop seqs) =
    omega (arith, length-append (number_bytes 4 (length seqs)) (flat_map seq_bytes seqs), length-number_bytes 4 (length seqs), length-seqs seqs)
length-body (Pin seq flag) = omega (arith, length-append (number_bytes 4 seq) (flag_byte flag ∷ []), length-number_bytes 4 seq)
length-body (Next n) = omega (arith, length-number_bytes 8 n)
length-body (Label seq text) =
    let a = length-append (number_bytes 4 seq ++ number_bytes 2 (length text) ++ replicate 2 0) text in
    let b = length-append (number_bytes 4 seq ++ number_bytes 2 (length text)) (replicate 2 0) in
    let c = length-append (number_bytes 4 seq) (number_bytes 2 (length text)) in
    omega (arith, length-number_bytes 4 seq, length-number_bytes 2 (length text))

pub length-plain : (r : Record) → 1 + length (plain r) ≡ plain_size r
unfolding plain
length-plain r =
    omega (
      arith,
      length-append ((record_kind r ∷ 0 ∷ 0 ∷ []) ++ number_bytes 4 (record_size r)) (body r),
      length-append (record_kind r ∷ 0 ∷ 0 ∷ []) (number_bytes 4 (record_size r)),
      length-number_bytes 4 (record_size r),
      length-body r,
    )

pub length-spelling : (r : Record) → length (spelling r) ≡ record_size r
unfolding behind_gate
length-spelling r =
    omega (arith, length-append (plain r) (replicate (record_size r - plain_size r) 0), length-plain r, length-replicate {A = ℕ} (record_size r - plain_size r) 0)

pub plain_some : (r : Record) → 12 ≤ plain_size r
plain_some (Store c) = omega arith
plain_some (Drop seqs) = omega arith
plain_some (Pin seq flag) = omega arith
plain_some (Next n) = omega arith
plain_some (Label seq text) = omega arith

pub record_some : (r : Record) → 16 ≤ record_size r
record_some r = omega (arith, plain_some r)

pub kind_low : (r : Record) → 1 ≤ record_kind r
kind_low (Store c) = omega arith
kind_low (Drop seqs) = omega arith
kind_low (Pin seq flag) = omega arith
kind_low (Next n) = omega arith
kind_low (Label seq text) = omega arith

-- a case's label is no part of its Store record
pub spelling_unlabelled : (c : Case) → spelling (Store (unlabelled c)) ≡ spelling (Store c)
unfolding behind_gate plain body store_facts
spelling_unlabelled c = refl

-- The fields of a spelling, whatever bytes follow it.
module _ (r : Record) (tail : List ℕ) where
  abbrev spelled : List ℕ
  spelled = spelling r ++ tail

  abbrev zeros : ℕ
  zeros = record_size r - plain_size r

  pub prints_kind : kind_at (spelling r ++ tail) ≡ record_kind r
  unfolding behind_gate plain
  prints_kind = refl

  pub prints_reserved : field (spelling r ++ tail) 2 2 ≡ 0
  unfolding behind_gate plain number_bytes
  prints_reserved = refl

  pub prints_length : record_size r < 2 ^ 32 → length_at (spelling r ++ tail) ≡ record_size r
  unfolding behind_gate plain number_bytes
  prints_length small = number_read 4 (record_size r) [] small

  pub prints_body : drop 8 (spelling r ++ tail) ≡ (body r ++ replicate (record_size r - plain_size r) 0) ++ tail
  unfolding behind_gate plain number_bytes
  prints_body = refl

  pub prints_padding : part (spelling r ++ tail) (plain_size r) (record_size r - plain_size r) ≡ replicate (record_size r - plain_size r) 0
  unfolding behind_gate part
  prints_padding =
      ap (take zeros)
      (ap (drop (plain_size r)) (append_assoc (165 ∷ plain r) (replicate zeros 0) tail)
      ∙ drop_at (165 ∷ plain r) (replicate zeros 0 ++ tail) (plain_size r) (omega (arith, length-plain r)))
      ∙ take_at (replicate zeros 0) tail zeros (length-replicate zeros 0)

  -- the checks that every record begins with pass, in a half of a version that has its kind
  pub prints_head : (version : ℕ) → record_kind r ≤ last_kind version → record_size r < 2 ^ 32 → record_size r + 1 ≤ length (spelling r ++ tail)
      → HasHead version (spelling r ++ tail)
  prints_head version known small in_half = record {
    enough = omega (arith, record_some r);
    some_kind = rw prints_kind (kind_low r);
    known_kind = rw prints_kind known;
    reserved = prints_reserved;
    long = rw (prints_length small) (record_some r);
    whole = rw (prints_length small) (rounded_whole (plain_size r));
    in_half = rw (prints_length small) in_half;
  }

  pub prints_zeros : (at : ℕ) → record_size r < 2 ^ 32 → padding_fault at (spelling r ++ tail) (plain_size r) ≡ None
  prints_zeros at small =
      padding_passes at (spelling r ++ tail) (plain_size r)
      (ap (λ (n : ℕ). part (spelling r ++ tail) (plain_size r) (n - plain_size r)) (prints_length small)
      ∙ prints_padding
      ∙ ap (λ (n : ℕ). replicate (n - plain_size r) 0) (sym (prints_length small)))

-- bytes that begin with a spelling
pub as_spelled : (r : Record) (bytes : List ℕ) → take (record_size r) bytes ≡ spelling r → bytes ≡ spelling r ++ drop (record_size r) bytes
as_spelled r bytes e = sym (take-append-drop (record_size r) bytes) ∙ ap (λ (l : List ℕ). l ++ drop (record_size r) bytes) e
