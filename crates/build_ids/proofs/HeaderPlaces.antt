-- The notes of program headers, one header after another.
use Rattle.std.proofs.Common.{◌≡◌, ◌<◌, ℕ, zero, suc, ◌+◌, ◌-◌, ◌++◌, List, length, find, Option, None, Some, refl, ap, ◌∙◌, arith}
use Rattle.std.specs.List.{slice_get}
use Rattle.std.specs.Option.{option_map, option_or}
use Rattle.std.proofs.lemmas.List.Folds.{find-append}
use Rattle.std.proofs.lemmas.List.FromFn.{length-map-range_with_len, get_or-map-range_with_len}
use Rattle.std.proofs.lemmas.Option.{slice_get-get_or}
use Rattle.elf_view.specs.Header.{segment_at, segment_count, segments_of}
use Rattle.build_ids.specs.BuildId.{id_among, is_build_id, notes_at, notes_between}
use Rattle.build_ids.specs.Notes.{NoteView}

-- program header k of the table
pub header_at : (b : List ℕ) (k : ℕ) → k < segment_count b → slice_get (segments_of b) k ≡ Some (segment_at b k)
header_at b k h =
    let n = segment_count b in
    let within : k < length (segments_of b) = omega (arith, h, length-map-range_with_len (segment_at b) 0 n) in
    slice_get-get_or (segments_of b) k (segment_at b 0) within ∙ ap (λ s. Some s) (get_or-map-range_with_len (segment_at b) 0 n k k (segment_at b 0) h (omega arith))

-- the notes from a header on are its own, and then those of the next ones
header_step : (b : List ℕ) (i n : ℕ) → 0 < n → notes_between b i n ≡ notes_at b i ++ notes_between b (i + 1) (n - 1)
header_step b i zero h = absurd (omega arith)
header_step b i (suc n) h =
    let less : n ≡ suc n - 1 = omega arith in ap (λ m. notes_at b i ++ notes_between b (i + 1) m) less

pub notes_from : (b : List ℕ) (i n : ℕ) → i < n → notes_between b i (n - i) ≡ notes_at b i ++ notes_between b (i + 1) (n - (i + 1))
notes_from b i n h =
    let less : n - i - 1 ≡ n - (i + 1) = omega arith in
    header_step b i (n - i) (omega arith) ∙ ap (λ m. notes_at b i ++ notes_between b (i + 1) m) less

either_desc : (a b : Option NoteView) → option_map (λ (n : NoteView). n.desc) (option_or a b) ≡ option_or (option_map (λ (n : NoteView). n.desc) a) (option_map (λ (n : NoteView). n.desc) b)
either_desc None b = refl
either_desc (Some n) b = refl

-- the build ID of notes is that of the first of them, or else that of the others
pub id_append : (ms ns : List NoteView) → id_among (ms ++ ns) ≡ option_or (id_among ms) (id_among ns)
id_append ms ns = ap (option_map (λ (n : NoteView). n.desc)) (find-append is_build_id ms ns) ∙ either_desc (find is_build_id ms) (find is_build_id ns)

-- that of headers from number i on is that of header i, or else that of the next ones
pub ids_from : (b : List ℕ) (i n : ℕ) → i < n → id_among (notes_between b i (n - i)) ≡ option_or (id_among (notes_at b i)) (id_among (notes_between b (i + 1) (n - (i + 1))))
ids_from b i n h = ap id_among (notes_from b i n h) ∙ id_append (notes_at b i) (notes_between b (i + 1) (n - (i + 1)))
