-- Laws of the record Drop.
use Rattle.std.proofs.Common.{◌≡◌, ℕ, zero, suc, ◌+◌, ◌-◌, ◌*◌, ◌^◌, ◌<◌, ◌≤◌, Bool, true, false, nat_le, ◌||◌, List, [], ◌∷◌, ◌++◌, length, replicate, take, drop, slice_index, refl, sym, ap, ◌∙◌, arith, None, Some, Option, cond, append_assoc}
use Rattle.std.proofs.Math.Seq.{take-add}
use Rattle.std.proofs.lemmas.List.{drop-drop, length-drop}
use Rattle.std.proofs.lemmas.Bool.{or_parts, or_from, not-false, not_from_true, lt-leb, leb-false, eq-eqb, eqb-true, ne_eqb, eqb-false}
use Rattle.std.specs.Option.{option_or, option_map}
use Rattle.std.specs.List.{AllByRecursion, flat_map}
use Rattle.disk_model.specs.Places.{AreBytes, part}
use Rattle.disk_model.specs.PlaceLaws.{drop_bytes}
use Rattle.journal_layout.specs.declared.faults.Field.TheVariants as named
use Rattle.journal_layout.specs.Layout.{number_bytes, field}
use Rattle.journal_layout.specs.Case.{Case}
use Rattle.journal_layout.specs.Record.{Drop, rounded, seq_bytes, plain_size, record_size, body, plain, behind_gate, spelling}
use Rattle.journal_layout.specs.Reading.{kind_at, length_at, seq_count_at, seqs_at, drop_seqs, record_at}
use Rattle.journal_layout.specs.Folding.{Folded}
use Rattle.journal_layout.specs.Soundness.{IsSound, IsDroppable, Rise, case_numbered}
use Rattle.journal_layout.specs.Checks.{damaged, first_failing, count_checks, is_kept, first_bad_seq, padding_fault, body_fault, record_fault}
use Rattle.journal_layout.specs.Stands.{StandsFirst}
use Rattle.journal_layout.specs.ByteLaws.{number_read, field_spelled, field_small}
use Rattle.journal_layout.specs.CheckLaws.{HasHead, passes, passed, or_none, none_or, map_none, none_map}
use Rattle.journal_layout.specs.KindLaws.{body_of, record_of, kind_high}
use Rattle.journal_layout.specs.SpellLaws.{prints_kind, prints_length, prints_head, prints_zeros, rounded_up}
use Rattle.journal_layout.specs.FoundLaws.{record_passes, put_together, zeros_found}

-- numbers that are written are read again, and the other way round
seqs_read : (seqs tail : List ℕ) → AllByRecursion (λ (seq : ℕ). seq < 2 ^ 32) seqs → seqs_at (flat_map seq_bytes seqs ++ tail) (length seqs) ≡ seqs
unfolding seq_bytes number_bytes
seqs_read [] tail small = refl
seqs_read (seq ∷ seqs) tail small =
    ap (λ (m : ℕ). m ∷ seqs_at (flat_map seq_bytes seqs ++ tail) (length seqs)) (number_read 4 seq [] small.0)
    ∙ ap (λ (l : List ℕ). seq ∷ l) (seqs_read seqs tail small.1)

seqs_spelled : (n : ℕ) (b : List ℕ) → AreBytes b → 4 * n ≤ length b → take (4 * n) b ≡ flat_map seq_bytes (seqs_at b n)
unfolding seq_bytes part
seqs_spelled zero b are within = refl
seqs_spelled (suc n) b are within =
    let e : 4 * suc n ≡ 4 + 4 * n = omega arith in
    ap (λ (m : ℕ). take m b) e
    ∙ take-add 4 (4 * n) b
    ∙ ap (λ (l : List ℕ). l ++ take (4 * n) (drop 4 b)) (sym (field_spelled 4 0 b are (omega arith)))
    ∙ ap (λ (l : List ℕ). number_bytes 4 (field b 0 4) ++ l) (seqs_spelled n (drop 4 b) (drop_bytes 4 b are) (omega (arith, length-drop 4 b)))

length-seqs_at : (b : List ℕ) (n : ℕ) → length (seqs_at b n) ≡ n
length-seqs_at b zero = refl
length-seqs_at b (suc n) = ap suc (length-seqs_at (drop 4 b) n)

seqs_small : (b : List ℕ) (n : ℕ) → AreBytes b → AllByRecursion (λ (seq : ℕ). seq < 2 ^ 32) (seqs_at b n)
seqs_small b zero are = tt
seqs_small b (suc n) are = (field_small b 0 4 are, seqs_small (drop 4 b) n (drop_bytes 4 b are))

-- a case that may be dropped isn't kept
kept_not : (cases : List Case) (seq : ℕ) → IsDroppable cases seq → is_kept (case_numbered seq cases) ≡ false
kept_not cases seq h = ap is_kept h.1 ∙ h.2

droppable : (cases : List Case) (seq : ℕ) → is_kept (case_numbered seq cases) ≡ false → IsDroppable cases seq
droppable cases seq e = of (case_numbered seq cases) refl e
  where
    of : (o : Option Case) → case_numbered seq cases ≡ o → is_kept o ≡ false → IsDroppable cases seq
    of None same e = cc
    of (Some c) same e = (c, same, e)

-- the checks of the numbers pass if and only if the numbers rise and each may be dropped
seqs_pass : (cases : List Case) (last place : ℕ) (seqs : List ℕ) → Rise last seqs → AllByRecursion (IsDroppable cases) seqs → first_bad_seq cases last place seqs ≡ None
seqs_pass cases last place [] rise each = refl
seqs_pass cases last place (seq ∷ seqs) rise each =
    let fine : (nat_le seq last || is_kept (case_numbered seq cases)) ≡ false = or_from _ _ (lt-leb seq last rise.0) (kept_not cases seq each.0) in
    rw fine (seqs_pass cases seq (place + 4) seqs rise.1 each.1)

seqs_passed : (cases : List Case) (last place : ℕ) (seqs : List ℕ) → first_bad_seq cases last place seqs ≡ None → Rise last seqs × AllByRecursion (IsDroppable cases) seqs
seqs_passed cases last place [] e = (tt, tt)
seqs_passed cases last place (seq ∷ seqs) e =
    let h = first (nat_le seq last || is_kept (case_numbered seq cases)) e in
    let both = or_parts _ _ h.0 in
    let rest = seqs_passed cases seq (place + 4) seqs h.1 in
    ((leb-false seq last both.0, rest.0), (droppable cases seq both.1, rest.1))
  where
    first : (t : Bool) → cond t (Some place) (first_bad_seq cases seq (place + 4) seqs) ≡ None → (t ≡ false) × (first_bad_seq cases seq (place + 4) seqs ≡ None)
    first true g = cc
    first false g = (refl, g)

-- the check of the count passes if and only if there is a number and the record has the length for its count
count_passes : (at : ℕ) (rest : List ℕ) → 0 < seq_count_at rest → length_at rest ≡ rounded (12 + 4 * seq_count_at rest) → first_failing at (count_checks rest) ≡ None
count_passes at rest some long =
    passes at (count_checks rest) (
      or_from _ _ (ne_eqb (seq_count_at rest) 0 (λ e. omega (arith, e))) (not_from_true _ (eq-eqb (rounded (12 + 4 * seq_count_at rest)) (length_at rest) (sym long))),
      tt,
    )

count_passed : (at : ℕ) (rest : List ℕ) → first_failing at (count_checks rest) ≡ None → (0 < seq_count_at rest) × (length_at rest ≡ rounded (12 + 4 * seq_count_at rest))
count_passed at rest e =
    let h = passed at (count_checks rest) e in
    let both = or_parts _ _ h.0 in
    let none : seq_count_at rest ≡ 0 → ⊥ = eqb-false (seq_count_at rest) 0 both.0 in
    (some (seq_count_at rest) none, sym (eqb-true (rounded (12 + 4 * seq_count_at rest)) (length_at rest) (not-false _ both.1)))
  where
    some : (n : ℕ) → (n ≡ 0 → ⊥) → 0 < n
    some n h = omega (arith, h)

module _ (seqs tail : List ℕ) where
  abbrev zeros : List ℕ
  zeros = replicate (record_size (Drop seqs) - plain_size (Drop seqs)) 0

  prints_count : length seqs < 2 ^ 32 → seq_count_at (spelling (Drop seqs) ++ tail) ≡ length seqs
  unfolding behind_gate plain body number_bytes
  prints_count small = number_read 4 (length seqs) [] small

  seqs_stand : drop 12 (spelling (Drop seqs) ++ tail) ≡ (flat_map seq_bytes seqs ++ zeros) ++ tail
  unfolding behind_gate plain body number_bytes
  seqs_stand = refl

  prints_seqs : length seqs < 2 ^ 32 → AllByRecursion (λ (seq : ℕ). seq < 2 ^ 32) seqs → drop_seqs (spelling (Drop seqs) ++ tail) ≡ seqs
  prints_seqs few small =
      ap (seqs_at (drop 12 (spelling (Drop seqs) ++ tail))) (prints_count few)
      ∙ ap (λ (l : List ℕ). seqs_at l (length seqs)) (seqs_stand ∙ append_assoc (flat_map seq_bytes seqs) zeros tail)
      ∙ seqs_read seqs (zeros ++ tail) small

-- a Drop record that is written is read back
pub drop_again : (limit at : ℕ) (seqs tail : List ℕ) (f : Folded) → record_size (Drop seqs) < 2 ^ 32 → record_size (Drop seqs) + 1 ≤ length (spelling (Drop seqs) ++ tail) → IsSound limit f (Drop seqs)
    → (record_fault limit at (spelling (Drop seqs) ++ tail) f ≡ None) × (record_at (spelling (Drop seqs) ++ tail) ≡ Drop seqs)
drop_again limit at seqs tail f small in_half sound =
    let b = spelling (Drop seqs) ++ tail in
    let few : length seqs < 2 ^ 32 = omega (arith, rounded_up (plain_size (Drop seqs))) in
    let count : seq_count_at b ≡ length seqs = prints_count seqs tail few in
    let same : drop_seqs b ≡ seqs = prints_seqs seqs tail few sound.2 in
    let long : length_at b ≡ rounded (12 + 4 * seq_count_at b) = prints_length (Drop seqs) tail small ∙ ap (λ (n : ℕ). rounded (12 + 4 * n)) (sym count) in
    let some : 0 < seq_count_at b = rw count sound.0 in
    let good : first_bad_seq f.cases 0 12 (drop_seqs b) ≡ None = ap (first_bad_seq f.cases 0 12) same ∙ seqs_pass f.cases 0 12 seqs sound.1 sound.3 in
    let padded : padding_fault at b (12 + 4 * seq_count_at b) ≡ None = ap (λ (n : ℕ). padding_fault at b (12 + 4 * n)) count ∙ prints_zeros (Drop seqs) tail at small in (
      record_passes limit at b f (prints_head (Drop seqs) tail f.version (kind_high limit f (Drop seqs) sound) small in_half)
          (body_of limit at b f (Drop seqs) (prints_kind (Drop seqs) tail)
          ∙ none_or (first_failing at (count_checks b)) _ (count_passes at b some long)
          (none_or (option_map (damaged at named.Seq) (first_bad_seq f.cases 0 12 (drop_seqs b))) (padding_fault at b (12 + 4 * seq_count_at b))
          (none_map (damaged at named.Seq) (first_bad_seq f.cases 0 12 (drop_seqs b)) good) padded)),
      record_of b (Drop seqs) (prints_kind (Drop seqs) tail) ∙ ap (λ (l : List ℕ). Drop l) same,
    )

-- a Drop record that is read is in the grammar
pub drop_found : (limit at : ℕ) (rest : List ℕ) (f : Folded) → AreBytes rest → slice_index rest 0 ≡ 165 → HasHead f.version rest → kind_at rest ≡ 2
    → body_fault limit at rest f ≡ None → StandsFirst limit rest f (Drop (drop_seqs rest)) × (record_size (Drop (drop_seqs rest)) ≡ length_at rest)
unfolding body part
drop_found limit at rest f are open_gate head kind e =
    let b = rest in
    let bad = option_map (damaged at named.Seq) (first_bad_seq f.cases 0 12 (drop_seqs rest)) in
    let pad = padding_fault at rest (12 + 4 * seq_count_at rest) in
    let both = or_none (first_failing at (count_checks rest)) (option_or bad pad) (sym (body_of limit at rest f (Drop (drop_seqs rest)) kind) ∙ e) in
    let behind = or_none bad pad both.1 in
    let counted = count_passed at rest both.0 in
    let good = seqs_passed f.cases 0 12 (drop_seqs rest) (map_none (damaged at named.Seq) (first_bad_seq f.cases 0 12 (drop_seqs rest)) behind.0) in
    let n = seq_count_at rest in
    let count : length (drop_seqs rest) ≡ n = length-seqs_at (drop 12 rest) n in
    let long : length_at rest ≡ record_size (Drop (drop_seqs rest)) = counted.1 ∙ ap (λ (k : ℕ). rounded (12 + 4 * k)) (sym count) in
    let in_half = head.in_half in
    let up = rounded_up (12 + 4 * n) in
    let exact = counted.1 in (
      record {
        spelled =
            put_together f.version rest (Drop (drop_seqs rest)) (4 + 4 * n) are open_gate head kind long (omega arith)
            (take-add 4 (4 * n) (drop 8 rest)
            ∙ ap (λ (l : List ℕ). l ++ take (4 * n) (drop 4 (drop 8 rest))) (sym (field_spelled 4 8 rest are (omega arith)) ∙ ap (number_bytes 4) (sym count))
            ∙ ap (λ (l : List ℕ). number_bytes 4 (length (drop_seqs rest)) ++ take (4 * n) l) (drop-drop 4 8 rest)
            ∙ ap (λ (l : List ℕ). number_bytes 4 (length (drop_seqs rest)) ++ l)
            (seqs_spelled n (drop 12 rest) (drop_bytes 12 rest are) (omega (arith, length-drop 12 rest))))
            (ap (λ (k : ℕ). part rest (12 + 4 * k) (rounded (12 + 4 * k) - (12 + 4 * k))) count
            ∙ zeros_found at rest (12 + 4 * n) (rounded (12 + 4 * n)) behind.1 counted.1 up (omega arith)
            ∙ ap (λ (k : ℕ). replicate (rounded (12 + 4 * k) - (12 + 4 * k)) 0) (sym count));
        in_half = omega (arith, long);
        sound = (rw count counted.0, good.0, seqs_small (drop 12 rest) n (drop_bytes 12 rest are), good.1);
      },
      sym long,
    )
