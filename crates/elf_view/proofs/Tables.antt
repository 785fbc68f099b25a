-- The table of program headers as a list.
use Rattle.std.proofs.Common.{◌≡◌, ◌<◌, ◌≤◌, ◌+◌, ◌*◌, ℕ, List, Some, None, length, refl, sym, ap, ◌∙◌, arith}
use Rattle.std.specs.List.{slice_get}
use Rattle.std.proofs.lemmas.Option.{slice_get-get_or, slice_get_past}
use Rattle.std.proofs.lemmas.List.FromFn.{length-map-range_with_len, get_or-map-range_with_len}
use Rattle.elf_view.specs.Header.{e_phoff, segment_from, segment_at, segments_between}

-- n headers are n
pub segments_len : (b : List ℕ) (i n : ℕ) → length (segments_between b i n) ≡ n
segments_len b i n = length-map-range_with_len (segment_at b) i n

-- header k of those from number i on is header i + k of the table; there is none past the last
pub segments_get : (b : List ℕ) (i n k p : ℕ) → k < n → p ≡ e_phoff b + 56 * (i + k) → slice_get (segments_between b i n) k ≡ Some (segment_from b p)
segments_get b i n k p h place =
    let first = segment_at b 0 in
    let within : k < length (segments_between b i n) = omega (arith, segments_len b i n) in
    slice_get-get_or (segments_between b i n) k first within ∙ ap (λ s. Some s) (get_or-map-range_with_len (segment_at b) i n k (i + k) first h refl) ∙ ap (λ q. Some (segment_from b q)) (sym place)

pub segments_past : (b : List ℕ) (i n k : ℕ) → n ≤ k → slice_get (segments_between b i n) k ≡ None
segments_past b i n k h =
    let past : length (segments_between b i n) ≤ k = omega (arith, segments_len b i n) in slice_get_past (segments_between b i n) k past
