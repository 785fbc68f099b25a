-- Laws of the record Label.
use Rattle.std.proofs.Common.{◌≡◌, ℕ, ◌+◌, ◌-◌, ◌^◌, ◌<◌, ◌≤◌, List, [], ◌++◌, length, replicate, take, drop, slice_index, refl, sym, ap, ◌∙◌, arith, None, append_assoc}
use Rattle.std.proofs.lemmas.Bool.{not-false, not_from_true, le-ltb, ltb-false, eq-eqb, eqb-true}
use Rattle.std.proofs.lemmas.List.{take_at}
use Rattle.disk_model.specs.Places.{AreBytes, part}
use Rattle.disk_model.specs.PartLaws.{part_split, part_length, part_bytes}
use Rattle.journal_layout.specs.Layout.{number_bytes, field}
use Rattle.journal_layout.specs.Record.{Label, rounded, plain_size, record_size, body, plain, behind_gate, spelling}
use Rattle.journal_layout.specs.Reading.{kind_at, length_at, label_length_at, label_at, record_at}
use Rattle.journal_layout.specs.Folding.{Folded}
use Rattle.journal_layout.specs.Soundness.{IsSound, IsLive, case_numbered}
use Rattle.journal_layout.specs.Checks.{first_failing, label_checks, padding_fault, body_fault, record_fault}
use Rattle.journal_layout.specs.Stands.{StandsFirst}
use Rattle.journal_layout.specs.ByteLaws.{number_read, field_spelled, field_small}
use Rattle.journal_layout.specs.CheckLaws.{HasHead, passes, passed, or_none, none_or}
use Rattle.journal_layout.specs.KindLaws.{body_of, record_of, kind_high, label_version}
use Rattle.journal_layout.specs.SpellLaws.{prints_kind, prints_length, prints_head, prints_zeros, rounded_up}
use Rattle.journal_layout.specs.FoundLaws.{record_passes, put_together, zeros_found, none_of_some, some_found}

-- the conditions that hold if the checks before the padding pass
record HasLabel (rest : List ℕ) (f : Folded) : Type 0 where
  pub live : IsLive f.cases (field rest 8 4)
  pub short : label_length_at rest ≤ 64
  pub reserved : field rest 14 2 ≡ 0
  pub long : length_at rest ≡ rounded (16 + label_length_at rest)

label_passes : (at : ℕ) (rest : List ℕ) (f : Folded) → HasLabel rest f → first_failing at (label_checks rest f) ≡ None
label_passes at rest f h =
    passes at (label_checks rest f) (
      none_of_some (case_numbered (field rest 8 4) f.cases) h.live.0 h.live.1,
      (
        le-ltb 64 (label_length_at rest) h.short,
        (
          not_from_true _ (eq-eqb (field rest 14 2) 0 h.reserved),
          (not_from_true _ (eq-eqb (rounded (16 + label_length_at rest)) (length_at rest) (sym h.long)), tt),
        ),
      ),
    )

label_passed : (at : ℕ) (rest : List ℕ) (f : Folded) → first_failing at (label_checks rest f) ≡ None → HasLabel rest f
label_passed at rest f e =
    let h = passed at (label_checks rest f) e in
    record {
      live = some_found (case_numbered (field rest 8 4) f.cases) h.0;
      short = ltb-false 64 (label_length_at rest) h.1.0;
      reserved = eqb-true (field rest 14 2) 0 (not-false _ h.1.1.0);
      long = sym (eqb-true (rounded (16 + label_length_at rest)) (length_at rest) (not-false _ h.1.1.1.0));
    }

-- The fields of the spelling of a Label, whatever bytes follow it.
module _ (seq : ℕ) (text tail : List ℕ) where
  abbrev zeros : List ℕ
  zeros = replicate (record_size (Label seq text) - plain_size (Label seq text)) 0

  prints_seq : seq < 2 ^ 32 → field (spelling (Label seq text) ++ tail) 8 4 ≡ seq
  unfolding behind_gate plain body number_bytes
  prints_seq small = number_read 4 seq [] small

  prints_label_length : length text < 65536 → label_length_at (spelling (Label seq text) ++ tail) ≡ length text
  unfolding behind_gate plain body number_bytes
  prints_label_length small = number_read 2 (length text) [] small

  prints_two_zeros : field (spelling (Label seq text) ++ tail) 14 2 ≡ 0
  unfolding behind_gate plain body number_bytes
  prints_two_zeros = refl

  text_stands : drop 16 (spelling (Label seq text) ++ tail) ≡ (text ++ zeros) ++ tail
  unfolding behind_gate plain body number_bytes
  text_stands = refl

  prints_label : length text < 65536 → label_at (spelling (Label seq text) ++ tail) ≡ text
  unfolding part
  prints_label short =
      ap (λ (n : ℕ). take n (drop 16 (spelling (Label seq text) ++ tail))) (prints_label_length short)
      ∙ ap (take (length text)) (text_stands ∙ append_assoc text zeros tail)
      ∙ take_at text (zeros ++ tail) (length text) refl

-- a Label record that is written is read back
pub label_again : (limit at seq : ℕ) (text tail : List ℕ) (f : Folded) → record_size (Label seq text) + 1 ≤ length (spelling (Label seq text) ++ tail) → IsSound limit f (Label seq text)
    → (record_fault limit at (spelling (Label seq text) ++ tail) f ≡ None) × (record_at (spelling (Label seq text) ++ tail) ≡ Label seq text)
label_again limit at seq text tail f in_half sound =
    let b = spelling (Label seq text) ++ tail in
    let short : length text ≤ 64 = sound.3.short in
    let small : record_size (Label seq text) < 2 ^ 32 = omega arith in
    let told = prints_seq seq text tail sound.1 in
    let long = prints_label_length seq text tail (omega arith) in
    let is = prints_label seq text tail (omega arith) in
    let size : rounded (16 + label_length_at b) ≡ record_size (Label seq text) = ap (λ (n : ℕ). rounded (16 + n)) long in
    let has : HasLabel b f = record {
      live = rw told sound.2;
      short = rw long short;
      reserved = prints_two_zeros seq text tail;
      long = prints_length (Label seq text) tail small ∙ sym size;
    } in
    let padded : padding_fault at b (16 + label_length_at b) ≡ None = ap (λ (n : ℕ). padding_fault at b (16 + n)) long ∙ prints_zeros (Label seq text) tail at small in (
      record_passes limit at b f (prints_head (Label seq text) tail f.version (kind_high limit f (Label seq text) sound) small in_half)
          (body_of limit at b f (Label seq text) (prints_kind (Label seq text) tail)
          ∙ none_or (first_failing at (label_checks b f)) (padding_fault at b (16 + label_length_at b)) (label_passes at b f has) padded),
      record_of b (Label seq text) (prints_kind (Label seq text) tail)
          ∙ ap (λ (m : ℕ). Label m (label_at b)) told
          ∙ ap (λ (l : List ℕ). Label seq l) is,
    )

-- The fields of bytes that pass the checks of a Label.
module _ (rest : List ℕ) (f : Folded) (are : AreBytes rest) (head : HasHead f.version rest) (has : HasLabel rest f) where
  -- the places of the record up to its padding lie in the bytes
  within : 16 + label_length_at rest ≤ length rest
  within =
      let in_half = head.in_half in
      let long = has.long in
      omega (arith, rounded_up (16 + label_length_at rest))

  label_counted : length (label_at rest) ≡ label_length_at rest
  label_counted = part_length rest 16 (label_length_at rest) within

  zero_spelled : part rest 14 2 ≡ replicate 2 0
  unfolding number_bytes
  zero_spelled = sym (field_spelled 2 14 rest are (omega (arith, within))) ∙ ap (number_bytes 2) has.reserved

  body_spelled : part rest 8 (8 + label_length_at rest) ≡ body (Label (field rest 8 4) (label_at rest))
  unfolding body
  body_spelled =
      let n = label_length_at rest in
      let a = field_spelled 4 8 rest are (omega (arith, within)) in
      let b = field_spelled 2 12 rest are (omega (arith, within)) in
      let c : number_bytes 2 (length (label_at rest)) ≡ number_bytes 2 n = ap (number_bytes 2) label_counted in
      part_split rest 8 8 n
      ∙ ap (λ (l : List ℕ). l ++ part rest 16 n) (part_split rest 8 6 2 ∙ ap (λ (l : List ℕ). l ++ part rest 14 2) (part_split rest 8 4 2))
      ∙ put_label (part rest 8 4) (part rest 12 2) (part rest 14 2) (number_bytes 4 (field rest 8 4)) (number_bytes 2 (length (label_at rest))) (replicate 2 0) (label_at rest)
      (sym a) (sym b ∙ sym c) zero_spelled
    where
      put_label : (a b c x y z l : List ℕ) → a ≡ x → b ≡ y → c ≡ z → a ++ b ++ c ++ l ≡ x ++ y ++ z ++ l
      put_label a b c x y z l e g h = cc

-- a Label record that is read is in the grammar
pub label_found : (limit at : ℕ) (rest : List ℕ) (f : Folded) → AreBytes rest → slice_index rest 0 ≡ 165 → HasHead f.version rest → kind_at rest ≡ 5
    → body_fault limit at rest f ≡ None
    → StandsFirst limit rest f (Label (field rest 8 4) (label_at rest)) × (record_size (Label (field rest 8 4) (label_at rest)) ≡ length_at rest)
label_found limit at rest f are open_gate head kind e =
    let r = Label (field rest 8 4) (label_at rest) in
    let both = or_none (first_failing at (label_checks rest f)) (padding_fault at rest (16 + label_length_at rest)) (sym (body_of limit at rest f r kind) ∙ e) in
    let has = label_passed at rest f both.0 in
    let n = label_length_at rest in
    let count = label_counted rest f are head has in
    let exact = has.long in
    let long : length_at rest ≡ record_size r = has.long ∙ ap (λ (k : ℕ). rounded (16 + k)) (sym count) in
    let in_half = head.in_half in
    let up = rounded_up (16 + n) in
    let version : f.version ≡ 2 = label_version f.version (omega (arith, head.known_kind, kind)) in (
      record {
        spelled =
            put_together f.version rest r (8 + n) are open_gate head kind long (omega (arith, count)) (body_spelled rest f are head has)
            (ap (λ (k : ℕ). part rest (16 + k) (rounded (16 + k) - (16 + k))) count
            ∙ zeros_found at rest (16 + n) (rounded (16 + n)) both.1 has.long up (omega arith)
            ∙ ap (λ (k : ℕ). replicate (rounded (16 + k) - (16 + k)) 0) (sym count));
        in_half = omega (arith, long);
        sound = (
          version,
          field_small rest 8 4 are,
          has.live,
          record { short = rw count has.short; bytes = part_bytes rest 16 n are },
        );
      },
      sym long,
    )
