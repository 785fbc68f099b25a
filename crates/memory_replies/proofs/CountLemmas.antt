-- How many notes a core can have: no more than its program headers times its bytes.
use Rattle.std.proofs.Common.{◌<◌, ◌≤◌, ◌+◌, ◌-◌, ◌*◌, ◌^◌, ℕ, zero, suc, Bool, true, false, cond, drop, List, [], ◌∷◌, length, map, eqb, filter, sym, subst, arith, length-append}
use Rattle.std.proofs.Math.Nat.{suc-mul}
use Rattle.std.specs.List.{range_with_len}
use Rattle.std.proofs.lemmas.Nat.{mul-lt}
use Rattle.std.proofs.lemmas.List.{length-map, length-take, length-drop}
use Rattle.core_notes.specs.Typed.{is_typed, all_descs}
use Rattle.elf_view.specs.Field.{part}
use Rattle.elf_view.specs.Header.{e_phoff, segment_at, segment_from, segments_of, segment_count}
use Rattle.elf_view.specs.NoteList.{NoteView, note_at, note_len, note_rests, rests_past, segment_rests, all_rests}
use Rattle.elf_view.specs.ViewWords.{notes_of}
use Rattle.elf_view.specs.declared.faults.Want.{Want}
use Rattle.elf_view.specs.declared.faults.Want.TheVariants.{Core, Exec}

rests_few : (k : ℕ) (bytes : List ℕ) → length (rests_past k bytes) ≤ length bytes
unfolding rests_past
rests_few k [] = omega arith
rests_few zero (x ∷ xs) = let h = rests_few (note_len (x ∷ xs) - 1) xs in omega (arith, h)
rests_few (suc k) (x ∷ xs) = let h = rests_few k xs in omega (arith, h)

if_few : (t : Bool) (bytes : List ℕ) → length (cond t (note_rests bytes) []) ≤ length bytes
if_few true bytes = rests_few 0 bytes
if_few false bytes = omega arith

part_few : (b : List ℕ) (p n : ℕ) → length (part b p n) ≤ length b
part_few b p n = omega (arith, length-take n (drop p b), length-drop p b)

bytes_few : (b : List ℕ) (p : ℕ) → length (segment_from b p).bytes ≤ length b
unfolding segment_from
bytes_few b p = part_few b _ _

segment_few : (b : List ℕ) (i : ℕ) → length (segment_rests (segment_at b i)) ≤ length b
segment_few b i =
    let s = segment_at b i in
    let inner = if_few (eqb s.kind 4) s.bytes in
    let outer = bytes_few b (e_phoff b + 56 * i) in omega (arith, inner, outer)

all_few : (b : List ℕ) (numbers : List ℕ) → length (all_rests (map (segment_at b) numbers)) ≤ length numbers * length b
all_few b [] = omega arith
all_few b (i ∷ numbers) =
    let first = segment_few b i in
    let others = all_few b numbers in
    omega (arith, first, others, suc-mul (length numbers) (length b), length-append (segment_rests (segment_at b i)) (all_rests (map (segment_at b) numbers)))

numbers_few : (want : Want) (b : List ℕ) → length (notes_of want b) ≤ length (segments_of b) * length b
numbers_few Core b =
    let numbers = range_with_len 0 (segment_count b) in
    let most = subst (λ (n : ℕ). length (all_rests (segments_of b)) ≤ n * length b) (sym (length-map numbers (segment_at b))) (all_few b numbers) in
    omega (arith, most, length-map (all_rests (segments_of b)) note_at)
numbers_few Exec b = omega arith

-- notes are so few that a number of 128 bits counts them
pub notes_few : (want : Want) (b : List ℕ) → length (segments_of b) < 2 ^ 32 → length b < 2 ^ 64 → length (notes_of want b) < 2 ^ 128
notes_few want b h g =
    let most = numbers_few want b in
    let product = mul-lt (length (segments_of b)) (length b) (2 ^ 32) (2 ^ 64) h g in omega (arith, most, product)

kept_few : (t : Bool) (n : NoteView) (notes : List NoteView) → length (cond t (n ∷ notes) notes) ≤ length notes + 1
kept_few true n notes = omega arith
kept_few false n notes = omega arith

filtered_few : (p : NoteView → Bool) (notes : List NoteView) → length (filter p notes) ≤ length notes
filtered_few p [] = omega arith
filtered_few p (n ∷ notes) = let h = filtered_few p notes in let k = kept_few (p n) n (filter p notes) in omega (arith, h, k)

pub descs_few : (kind : ℕ) (notes : List NoteView) → length (all_descs kind notes) ≤ length notes
descs_few kind notes = omega (arith, length-map (filter (is_typed kind) notes) (λ (note : NoteView). note.desc), filtered_few (is_typed kind) notes)
