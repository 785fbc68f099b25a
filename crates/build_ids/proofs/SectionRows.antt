-- Sections, one after another.
use Rattle.std.proofs.Common.{◌≡◌, ◌<◌, ℕ, zero, suc, ◌+◌, ◌-◌, ◌∷◌, List, ap, ◌∙◌, arith}
use Rattle.std.specs.Prelude.{◌||◌}
use Rattle.std.specs.List.{flat_map, list_any}
use Rattle.std.specs.Option.{option_or}
use Rattle.elf_view.specs.SectionNames.{nth_section}
use Rattle.elf_view.specs.SectionTable.{SectionView}
use Rattle.build_ids.specs.BuildId.{id_among}
use Rattle.build_ids.specs.DebugFile.{is_empty_code, section_notes, sections_between}
use Rattle.build_ids.proofs.HeaderPlaces.{id_append}

section_step : (b : List ℕ) (i n : ℕ) → 0 < n → sections_between b i n ≡ nth_section b i ∷ sections_between b (i + 1) (n - 1)
section_step b i zero h = absurd (omega arith)
section_step b i (suc n) h =
    let less : n ≡ suc n - 1 = omega arith in ap (λ m. nth_section b i ∷ sections_between b (i + 1) m) less

-- those from a number on are the one of that number and the next ones
pub sections_from : (b : List ℕ) (i n : ℕ) → i < n → sections_between b i (n - i) ≡ nth_section b i ∷ sections_between b (i + 1) (n - (i + 1))
sections_from b i n h =
    let less : n - i - 1 ≡ n - (i + 1) = omega arith in
    section_step b i (n - i) (omega arith) ∙ ap (λ m. nth_section b i ∷ sections_between b (i + 1) m) less

pub any_from : (b : List ℕ) (i n : ℕ) → i < n → list_any is_empty_code (sections_between b i (n - i)) ≡ (is_empty_code (nth_section b i) || list_any is_empty_code (sections_between b (i + 1) (n - (i + 1))))
any_from b i n h = ap (list_any is_empty_code) (sections_from b i n h)

pub section_ids_from : (b : List ℕ) (i n : ℕ) → i < n → id_among (flat_map section_notes (sections_between b i (n - i))) ≡ option_or (id_among (section_notes (nth_section b i))) (id_among (flat_map section_notes (sections_between b (i + 1) (n - (i + 1)))))
section_ids_from b i n h =
    ap (λ (ss : List SectionView). id_among (flat_map section_notes ss)) (sections_from b i n h)
    ∙ id_append (section_notes (nth_section b i)) (flat_map section_notes (sections_between b (i + 1) (n - (i + 1))))
