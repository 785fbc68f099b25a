-- Laws of the record Pin.
use Rattle.std.proofs.Common.{◌≡◌, ℕ, ◌+◌, ◌^◌, ◌<◌, ◌≤◌, Bool, ◌==◌, List, [], ◌∷◌, ◌++◌, length, slice_index, refl, sym, ap, ◌∙◌, arith, None}
use Rattle.std.proofs.lemmas.Bool.{not-false, not_from_true, le-ltb, ltb-false, eq-eqb, eqb-true}
use Rattle.disk_model.specs.Places.{AreBytes, part}
use Rattle.disk_model.specs.PartLaws.{part_split}
use Rattle.journal_layout.specs.Layout.{number_bytes, field}
use Rattle.journal_layout.specs.Record.{Pin, flag_byte, record_size, body, plain, behind_gate, spelling}
use Rattle.journal_layout.specs.Reading.{kind_at, length_at, record_at}
use Rattle.journal_layout.specs.Folding.{Folded}
use Rattle.journal_layout.specs.Soundness.{IsSound, IsLive, case_numbered}
use Rattle.journal_layout.specs.Checks.{first_failing, pin_checks, padding_fault, body_fault, record_fault}
use Rattle.journal_layout.specs.Stands.{StandsFirst}
use Rattle.journal_layout.specs.ByteLaws.{number_read, field_spelled, field_small}
use Rattle.journal_layout.specs.CheckLaws.{HasHead, passes, passed, or_none, none_or}
use Rattle.journal_layout.specs.KindLaws.{body_of, record_of, kind_high}
use Rattle.journal_layout.specs.SpellLaws.{prints_kind, prints_length, prints_head, prints_zeros}
use Rattle.journal_layout.specs.FoundLaws.{record_passes, put_together, byte_part, zeros_found, flag_short, flag_back, flag_found, none_of_some, some_found}

-- the checks pass if and only if these conditions hold
pub pin_passes : (at : ℕ) (rest : List ℕ) (f : Folded) → length_at rest ≡ 16 → IsLive f.cases (field rest 8 4) → slice_index rest 12 ≤ 1 → first_failing at (pin_checks rest f) ≡ None
pin_passes at rest f long live flag =
    passes at (pin_checks rest f) (
      not_from_true _ (eq-eqb (length_at rest) 16 long),
      (none_of_some (case_numbered (field rest 8 4) f.cases) live.0 live.1, (le-ltb 1 (slice_index rest 12) flag, tt)),
    )

pub pin_passed : (at : ℕ) (rest : List ℕ) (f : Folded) → first_failing at (pin_checks rest f) ≡ None → (length_at rest ≡ 16) × IsLive f.cases (field rest 8 4) × (slice_index rest 12 ≤ 1)
pin_passed at rest f e =
    let h = passed at (pin_checks rest f) e in
    (eqb-true (length_at rest) 16 (not-false _ h.0), some_found (case_numbered (field rest 8 4) f.cases) h.1.0, ltb-false 1 (slice_index rest 12) h.1.1.0)

prints_seq : (seq : ℕ) (flag : Bool) (tail : List ℕ) → seq < 2 ^ 32 → field (spelling (Pin seq flag) ++ tail) 8 4 ≡ seq
unfolding behind_gate plain body number_bytes
prints_seq seq flag tail small = number_read 4 seq [] small

prints_flag : (seq : ℕ) (flag : Bool) (tail : List ℕ) → slice_index (spelling (Pin seq flag) ++ tail) 12 ≡ flag_byte flag
unfolding behind_gate plain body number_bytes
prints_flag seq flag tail = refl

-- a Pin record that is written is read back
pub pin_again : (limit at seq : ℕ) (flag : Bool) (tail : List ℕ) (f : Folded) → record_size (Pin seq flag) + 1 ≤ length (spelling (Pin seq flag) ++ tail) → IsSound limit f (Pin seq flag)
    → (record_fault limit at (spelling (Pin seq flag) ++ tail) f ≡ None) × (record_at (spelling (Pin seq flag) ++ tail) ≡ Pin seq flag)
pin_again limit at seq flag tail f in_half sound =
    let b = spelling (Pin seq flag) ++ tail in
    let told = prints_seq seq flag tail sound.0 in
    let set = prints_flag seq flag tail in
    let live : IsLive f.cases (field b 8 4) = rw told sound.1 in (
      record_passes limit at b f (prints_head (Pin seq flag) tail f.version (kind_high limit f (Pin seq flag) sound) (omega arith) in_half)
          (body_of limit at b f (Pin seq flag) (prints_kind (Pin seq flag) tail)
          ∙ none_or (first_failing at (pin_checks b f)) (padding_fault at b 13)
          (pin_passes at b f (prints_length (Pin seq flag) tail (omega arith)) live (rw set (flag_short flag)))
          (prints_zeros (Pin seq flag) tail at (omega arith))),
      record_of b (Pin seq flag) (prints_kind (Pin seq flag) tail)
          ∙ ap (λ (m : ℕ). Pin m (slice_index b 12 == 1)) told
          ∙ ap (λ (t : Bool). Pin seq t) (ap (λ (m : ℕ). m == 1) set ∙ flag_back flag),
    )

-- a Pin record that is read is in the grammar
pub pin_found : (limit at : ℕ) (rest : List ℕ) (f : Folded) → AreBytes rest → slice_index rest 0 ≡ 165 → HasHead f.version rest → kind_at rest ≡ 3
    → body_fault limit at rest f ≡ None → StandsFirst limit rest f (Pin (field rest 8 4) (slice_index rest 12 == 1)) × (record_size (Pin (field rest 8 4) (slice_index rest 12 == 1)) ≡ length_at rest)
unfolding body
pin_found limit at rest f are open_gate head kind e =
    let r = Pin (field rest 8 4) (slice_index rest 12 == 1) in
    let both = or_none (first_failing at (pin_checks rest f)) (padding_fault at rest 13) (sym (body_of limit at rest f r kind) ∙ e) in
    let h = pin_passed at rest f both.0 in
    let enough = head.enough in (
      record {
        spelled =
            put_together f.version rest r 5 are open_gate head kind h.0 refl
            (part_split rest 8 4 1
            ∙ ap (λ (l : List ℕ). l ++ part rest 12 1) (sym (field_spelled 4 8 rest are (omega arith)))
            ∙ ap (λ (l : List ℕ). number_bytes 4 (field rest 8 4) ++ l)
            (byte_part rest 12 (omega arith) ∙ ap (λ (m : ℕ). m ∷ []) (sym (flag_found (slice_index rest 12) h.2))))
            (zeros_found at rest 13 16 both.1 h.0 (omega arith) (omega arith));
        in_half = omega (arith, head.in_half);
        sound = (field_small rest 8 4 are, h.1);
      },
      sym h.0,
    )
