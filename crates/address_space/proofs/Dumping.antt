-- The values that an image gives.
use Rattle.std.proofs.Common.{◌≡◌, ◌<◌, ◌≤◌, ℕ, ◌+◌, ◌-◌, leb, List, length, map, get_or, min, Option, None, Some, refl, sym, ap, ◌∙◌, arith}
use Rattle.std.specs.Option.{option_map}
use Rattle.std.proofs.lemmas.Bool.{cond-true, cond-false, le-leb, lt-leb}
use Rattle.elf_view.specs.Field.{part}
use Rattle.elf_view.specs.Front.{headed}
use Rattle.elf_view.specs.Header.{SegmentView, segments_of}
use Rattle.address_space.specs.Source.{Space, content_by, cut_off, decider, dumped, first_from, is_covering, place_at, placed, value_at, value_of}
use Rattle.address_space.specs.Ranges.{IsAlike}
use Rattle.address_space.specs.Whole.{filled}
use Rattle.address_space.proofs.Filled.{filled_too, first_in, part_long}
use Rattle.address_space.proofs.Places.{place_from}
use Rattle.address_space.proofs.Values.{byte_of_part}

-- an address whose byte the image has
there : (b : List ℕ) (space : Space) (i : ℕ) (s : SegmentView) (a size : ℕ) → length b ≡ size → a - s.vaddr < min s.filesz (size - s.offset) → decider space a ≡ Some (i, filled b s)
    → value_at space a ≡ Some (get_or b (s.offset + (a - s.vaddr)) 0)
there b space i s a size long low found =
    let all = part_long b s.offset s.filesz in
    let here : placed space a (Some (i, filled b s)) ≡ dumped i (filled b s) =
    cond-false (leb s.filesz (a - s.vaddr)) _ _ (lt-leb s.filesz (a - s.vaddr) (omega (arith, low)))
    ∙ cond-false (leb (length (part b s.offset s.filesz)) (a - s.vaddr)) _ _ (lt-leb (length (part b s.offset s.filesz)) (a - s.vaddr) (omega (arith, all, long, low))) in
    ap (λ p. value_of (content_by (λ ys k. get_or ys k 0) a p)) (place_from space a (Some (i, filled b s)) found ∙ here)
    ∙ ap Some (sym (byte_of_part b s.offset s.filesz (a - s.vaddr) (s.offset + (a - s.vaddr)) (omega (arith, low)) refl))

-- one that it was cut before
cut_before : (b : List ℕ) (space : Space) (i : ℕ) (s : SegmentView) (a size : ℕ) → length b ≡ size → min s.filesz (size - s.offset) ≤ a - s.vaddr → a - s.vaddr < s.filesz → decider space a ≡ Some (i, filled b s) → value_at space a ≡ None
cut_before b space i s a size long past file found =
    let all = part_long b s.offset s.filesz in
    let here : placed space a (Some (i, filled b s)) ≡ cut_off i =
    cond-false (leb s.filesz (a - s.vaddr)) _ _ (lt-leb s.filesz (a - s.vaddr) file)
    ∙ cond-true (leb (length (part b s.offset s.filesz)) (a - s.vaddr)) _ _ (le-leb (length (part b s.offset s.filesz)) (a - s.vaddr) (omega (arith, all, long, past))) in
    ap (λ p. value_of (content_by (λ ys k. get_or ys k 0) a p)) (place_from space a (Some (i, filled b s)) found ∙ here)

-- An image of which the first bytes have these headers.
module _ (f b : List ℕ) (same : map headed (segments_of f) ≡ map headed (segments_of b)) (space : Space) (is : space.segments ≡ segments_of b) where
  decided_as : (a : ℕ) (o : Option (ℕ × SegmentView)) → first_from (is_covering a) 0 (segments_of f) ≡ o → decider space a ≡ option_map (filled_too b) o
  unfolding decider
  decided_as a o found = ap (first_from (is_covering a) 0) is ∙ first_in f b same a ∙ ap (option_map (filled_too b)) found

  pub values_are : (a limit m n size : ℕ) (d : ℕ × SegmentView) → length b ≡ size → IsAlike (λ c. first_from (is_covering c) 0 (segments_of f)) a limit m → first_from (is_covering a) 0 (segments_of f) ≡ Some d → d.1.vaddr ≤ a
      → n ≤ m → n ≤ min d.1.filesz (size - d.1.offset) - (a - d.1.vaddr) → (k : ℕ) → k < n → value_at space (a + k) ≡ Some (get_or b (d.1.offset + (a - d.1.vaddr) + k) 0)
  values_are a limit m n size d long alike found low within few k h =
      let next : d.1.offset + (a + k - d.1.vaddr) ≡ d.1.offset + (a - d.1.vaddr) + k = omega arith in
      there b space d.0 d.1 (a + k) size long (omega (arith, low, few, h)) (decided_as (a + k) (Some d) (alike.same k (omega arith) ∙ found))
      ∙ ap (λ j. Some (get_or b j 0)) next

  pub no_value : (a : ℕ) → first_from (is_covering a) 0 (segments_of f) ≡ None → value_at space a ≡ None
  no_value a found = ap (λ p. value_of (content_by (λ ys k. get_or ys k 0) a p)) (place_from space a None (decided_as a None found))

  pub cut_value : (a size : ℕ) (d : ℕ × SegmentView) → length b ≡ size → first_from (is_covering a) 0 (segments_of f) ≡ Some d → min d.1.filesz (size - d.1.offset) ≤ a - d.1.vaddr → a - d.1.vaddr < d.1.filesz → value_at space a ≡ None
  cut_value a size d long found past file = cut_before b space d.0 d.1 a size long past file (decided_as a (Some d) found)
