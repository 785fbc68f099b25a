-- The gap between the two halves of a journal is determined by the bytes.
use Rattle.std.proofs.Common.{◌≡◌, ℕ, ◌-◌, ◌^◌, ◌≤◌, List, Option, None, Some, arith, drop, length, refl, sym, ap, ◌∙◌}
use Rattle.std.proofs.lemmas.List.{length-take}
use Rattle.disk_model.specs.Places.{part}
use Rattle.journal_layout.specs.Folding.{Folded, nothing_yet}
use Rattle.journal_layout.specs.Layout.{IsWithinLimits, half_length}
use Rattle.journal_layout.specs.ReadingLaws.{read_once}
use Rattle.journal_layout.specs.Standing.{Standing}
use Rattle.journal_layout.specs.Stands.{records_area, records_start}
use Rattle.journal_layout.specs.declared.shape.Half.{Half}
use Rattle.journal_layout.specs.declared.shape.Half.TheVariants.{A, B}
use Rattle.journal_layout.specs.declared.shape.Shape.{Shape}
use Rattle.archive_checks.specs.Gaps.{IsGapOf, IsNext, IsSaid, gap_between}
use Rattle.archive_checks.specs.declared.gaps.Gap.{Gap}
use Rattle.archive_checks.specs.declared.gaps.HalfSaid.{HalfSaid}

-- the records of a half are short
pub area_short : (b : List ℕ) (s : Shape) (half : Half) → IsWithinLimits s → length (records_area b s half) ≤ 2 ^ 32
unfolding part
area_short b s half limits =
    let most = limits.half in
    omega (arith, length-take (half_length s - 32) (drop (records_start s half) b))

module _ (b : List ℕ) (s : Shape) (limits : IsWithinLimits s) where
  -- the records of a half say one next number, or none
  pub one_next : (half : Half) (gate version : ℕ) (n m : Option ℕ) → IsNext s.data_blocks (records_area b s half) gate version n → IsNext s.data_blocks (records_area b s half) gate version m → n ≡ m
  one_next half gate version None None one two = refl
  one_next half gate version None (Some m) one two = absurd (one two.0 m two.1)
  one_next half gate version (Some n) None one two = absurd (two one.0 n one.1)
  one_next half gate version (Some n) (Some m) one two =
      let x = one.1 in
      let y = two.1 in
      let same = read_once s.data_blocks (records_area b s half) (nothing_yet version) limits.all_data (area_short b s half limits) x.0 y.0 x.1 y.1 x.2 y.2 in
      ap Some (sym x.3 ∙ ap (λ (f : Folded). f.next) same.0 ∙ y.3)

  -- a half says one thing
  pub one_said : (half : Half) (x y : HalfSaid) → IsSaid b s half x → IsSaid b s half y → x ≡ y
  one_said half x y one two =
      ap (λ o. record { is_open = o; generation = x.generation; next = x.next }) (one.is_open ∙ sym two.is_open)
      ∙ ap (λ n. record { is_open = y.is_open; generation = n; next = x.next }) (one.generation ∙ sym two.generation)
      ∙ ap (λ n. record { is_open = y.is_open; generation = y.generation; next = n }) (one_next half _ _ x.next y.next one.next two.next)

-- the gap of an archive is determined by its bytes
pub one_gap : (b : List ℕ) (s : Standing) (gap told : Option Gap) → IsWithinLimits s.shape → IsGapOf b s gap → IsGapOf b s told → gap ≡ told
one_gap b s gap told limits one two =
    one.4
    ∙ ap (λ (x : HalfSaid). gap_between x one.1 s.next) (one_said b s.shape limits A one.0 two.0 one.2 two.2)
    ∙ ap (λ (y : HalfSaid). gap_between two.0 y s.next) (one_said b s.shape limits B one.1 two.1 one.3 two.3)
    ∙ sym two.4
