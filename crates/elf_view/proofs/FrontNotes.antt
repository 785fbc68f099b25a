-- The notes of a front.
use Rattle.std.proofs.Common.{◌≡◌, ℕ, zero, suc, ◌+◌, ◌*◌, ◌<◌, ◌≤◌, eqb, Bool, true, false, cond, List, [], ◌++◌, take, length, refl, ap, ◌∙◌, subst, arith}
use Rattle.std.proofs.lemmas.Bool.{eqb-true}
use Rattle.elf_view.specs.Field.{field, part}
use Rattle.elf_view.specs.Header.{SegmentView, e_phoff, segment_count, segment_from, segment_at, segments_between, segments_of}
use Rattle.elf_view.specs.NoteList.{note_rests, segment_rests, all_rests}
use Rattle.elf_view.specs.Sound.{IsHeaderWhole}
use Rattle.elf_view.proofs.FrontFields.{field_in, part_in}
use Rattle.elf_view.proofs.FrontHeaders.{of_header, count_same, table_in}

rests_if : (t : Bool) (x y : List ℕ) → (t ≡ true → x ≡ y) → cond t (note_rests x) [] ≡ cond t (note_rests y) []
rests_if true x y h = ap note_rests (h refl)
rests_if false x y h = refl

-- the bytes of a PT_NOTE lie in the front
abbrev pub NotesLie : List ℕ → SegmentView → Type 0
NotesLie f s = s.kind ≡ 4 → s.offset + s.filesz ≤ length f

rests_from : (n : ℕ) (b : List ℕ) (p : ℕ) → p + 56 ≤ length (take n b) → NotesLie (take n b) (segment_from (take n b) p) → segment_rests (segment_from (take n b) p) ≡ segment_rests (segment_from b p)
unfolding segment_from
rests_from n b p room lie =
    let f = take n b in
    let kind = field_in n b p 4 (omega arith) in
    let offset = field_in n b (p + 8) 8 (omega arith) in
    let filesz = field_in n b (p + 32) 8 (omega arith) in
    let same : eqb (field b p 4) 4 ≡ true → part f (field f (p + 8) 8) (field f (p + 32) 8) ≡ part b (field b (p + 8) 8) (field b (p + 32) 8) =
    λ is. part_in n b (field f (p + 8) 8) (field f (p + 32) 8) (lie (kind ∙ eqb-true (field b p 4) 4 is))
    ∙ ap (λ o. part b o (field f (p + 32) 8)) offset ∙ ap (λ z. part b (field b (p + 8) 8) z) filesz in
    ap (λ k. cond (eqb k 4) (note_rests (part f (field f (p + 8) 8) (field f (p + 32) 8))) []) kind
    ∙ rests_if (eqb (field b p 4) 4) (part f (field f (p + 8) 8) (field f (p + 32) 8)) (part b (field b (p + 8) 8) (field b (p + 32) 8)) same

rests_at : (n : ℕ) (b : List ℕ) (i : ℕ) → IsHeaderWhole (take n b) → e_phoff b + 56 * i + 56 ≤ length (take n b) → NotesLie (take n b) (segment_at (take n b) i) → segment_rests (segment_at (take n b) i) ≡ segment_rests (segment_at b i)
rests_at n b i whole room lie =
    let phoff = of_header n b whole 32 8 (omega arith) in
    let P : ℕ → Type 0 = λ k. NotesLie (take n b) (segment_from (take n b) (k + 56 * i)) in
    ap (λ k. segment_rests (segment_from (take n b) (k + 56 * i))) phoff ∙ rests_from n b (e_phoff b + 56 * i) room (subst P phoff lie)

rests_between : (n : ℕ) (b : List ℕ) (i k : ℕ) → IsHeaderWhole (take n b) → e_phoff b + 56 * (i + k) ≤ length (take n b) → ((j : ℕ) → j < i + k → NotesLie (take n b) (segment_at (take n b) j)) → all_rests (segments_between (take n b) i k) ≡ all_rests (segments_between b i k)
rests_between n b i zero whole room lie = refl
rests_between n b i (suc k) whole room lie =
    let later : (j : ℕ) → j < i + 1 + k → NotesLie (take n b) (segment_at (take n b) j) = λ j h. lie j (omega arith) in
    ap (λ s. s ++ all_rests (segments_between (take n b) (i + 1) k)) (rests_at n b i whole (omega arith) (lie i (omega arith)))
    ∙ ap (λ ss. segment_rests (segment_at b i) ++ ss) (rests_between n b (i + 1) k whole (omega arith) later)

all_between : (n : ℕ) (b : List ℕ) (k : ℕ) → IsHeaderWhole (take n b) → (0 < k → e_phoff b + 56 * k ≤ length (take n b)) → ((j : ℕ) → j < k → NotesLie (take n b) (segment_at (take n b) j)) → all_rests (segments_between (take n b) 0 k) ≡ all_rests (segments_between b 0 k)
all_between n b zero whole room lie = refl
all_between n b (suc k) whole room lie =
    let fits = room (omega arith) in
    let each : (j : ℕ) → j < 0 + suc k → NotesLie (take n b) (segment_at (take n b) j) = λ j h. lie j (omega arith) in
    rests_between n b 0 (suc k) whole (omega arith) each

pub rests_same : (n : ℕ) (b : List ℕ) → IsHeaderWhole (take n b) → ((j : ℕ) → j < segment_count (take n b) → NotesLie (take n b) (segment_at (take n b) j)) → all_rests (segments_of (take n b)) ≡ all_rests (segments_of b)
rests_same n b whole lie =
    let count = count_same n b whole in
    let P : ℕ → Type 0 = λ k. (j : ℕ) → j < k → NotesLie (take n b) (segment_at (take n b) j) in
    ap (λ k. all_rests (segments_between (take n b) 0 k)) count
    ∙ all_between n b (segment_count b) whole (table_in n b whole) (subst P count lie)
