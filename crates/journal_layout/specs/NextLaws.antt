-- Laws of the record Next.
use Rattle.std.proofs.Common.{◌≡◌, ℕ, ◌+◌, ◌^◌, ◌≤◌, List, [], ◌++◌, length, slice_index, refl, sym, ap, ◌∙◌, arith, None}
use Rattle.std.proofs.lemmas.Bool.{or_parts, or_from, not-false, not_from_true, le-ltb, ltb-false, eq-eqb, eqb-true}
use Rattle.disk_model.specs.Places.{AreBytes, part}
use Rattle.journal_layout.specs.Layout.{number_bytes, field}
use Rattle.journal_layout.specs.Record.{Next, record_size, body, plain, behind_gate, spelling}
use Rattle.journal_layout.specs.Reading.{kind_at, length_at, record_at}
use Rattle.journal_layout.specs.Folding.{Folded}
use Rattle.journal_layout.specs.Soundness.{IsSound}
use Rattle.journal_layout.specs.Checks.{first_failing, next_checks, body_fault, record_fault}
use Rattle.journal_layout.specs.Stands.{StandsFirst}
use Rattle.journal_layout.specs.ByteLaws.{number_read, field_spelled}
use Rattle.journal_layout.specs.CheckLaws.{HasHead, passes, passed}
use Rattle.journal_layout.specs.KindLaws.{body_of, record_of, kind_high}
use Rattle.journal_layout.specs.SpellLaws.{prints_kind, prints_length, prints_head}
use Rattle.journal_layout.specs.FoundLaws.{record_passes, put_together}

-- the checks pass if and only if these conditions hold
pub next_passes : (at : ℕ) (rest : List ℕ) (f : Folded) → length_at rest ≡ 16 → f.next ≤ field rest 8 8 → field rest 8 8 ≤ 2 ^ 32 → first_failing at (next_checks rest f) ≡ None
next_passes at rest f long low high =
    passes at (next_checks rest f) (
      not_from_true _ (eq-eqb (length_at rest) 16 long),
      (or_from _ _ (le-ltb (field rest 8 8) f.next low) (le-ltb (2 ^ 32) (field rest 8 8) high), tt),
    )

pub next_passed : (at : ℕ) (rest : List ℕ) (f : Folded) → first_failing at (next_checks rest f) ≡ None → (length_at rest ≡ 16) × (f.next ≤ field rest 8 8) × (field rest 8 8 ≤ 2 ^ 32)
next_passed at rest f e =
    let h = passed at (next_checks rest f) e in
    let both = or_parts _ _ h.1.0 in
    (eqb-true (length_at rest) 16 (not-false _ h.0), ltb-false (field rest 8 8) f.next both.0, ltb-false (2 ^ 32) (field rest 8 8) both.1)

prints_next : (n : ℕ) (tail : List ℕ) → n ≤ 2 ^ 32 → field (spelling (Next n) ++ tail) 8 8 ≡ n
unfolding behind_gate plain body number_bytes
prints_next n tail high = number_read 8 n [] (omega arith)

-- a Next record that is written is read back
pub next_again : (limit at n : ℕ) (tail : List ℕ) (f : Folded) → record_size (Next n) + 1 ≤ length (spelling (Next n) ++ tail) → IsSound limit f (Next n)
    → (record_fault limit at (spelling (Next n) ++ tail) f ≡ None) × (record_at (spelling (Next n) ++ tail) ≡ Next n)
next_again limit at n tail f in_half sound =
    let b = spelling (Next n) ++ tail in
    let told = prints_next n tail sound.1 in (
      record_passes limit at b f (prints_head (Next n) tail f.version (kind_high limit f (Next n) sound) (omega arith) in_half)
          (body_of limit at b f (Next n) (prints_kind (Next n) tail)
          ∙ next_passes at b f (prints_length (Next n) tail (omega arith)) (rw told sound.0) (rw told sound.1)),
      record_of b (Next n) (prints_kind (Next n) tail) ∙ ap (λ (m : ℕ). Next m) told,
    )

-- a Next record that is read is in the grammar
pub next_found : (limit at : ℕ) (rest : List ℕ) (f : Folded) → AreBytes rest → slice_index rest 0 ≡ 165 → HasHead f.version rest → kind_at rest ≡ 4
    → body_fault limit at rest f ≡ None → StandsFirst limit rest f (Next (field rest 8 8)) × (record_size (Next (field rest 8 8)) ≡ length_at rest)
unfolding body part
next_found limit at rest f are open_gate head kind e =
    let r = Next (field rest 8 8) in
    let h = next_passed at rest f (sym (body_of limit at rest f r kind) ∙ e) in
    let enough = head.enough in (
      record {
        spelled =
            put_together f.version rest r 8 are open_gate head kind h.0 refl (sym (field_spelled 8 8 rest are (let in_half = head.in_half in let long = h.0 in omega arith))) refl;
        in_half = omega (arith, head.in_half);
        sound = (h.1, h.2);
      },
      sym h.0,
    )
