-- The build ID of an image that begins with some bytes.
use Rattle.std.proofs.Common.{◌≡◌, ◌≤◌, ◌<◌, ℕ, zero, suc, ◌+◌, ◌*◌, ◌&&◌, leb, eqb, ltb, cond, Bool, true, false, List, [], ◌++◌, take, length, None, refl, ap, sym, subst, ◌∙◌, arith}
use Rattle.std.specs.Prelude.{nat_eq}
use Rattle.std.specs.Cmp.Lexicographic.{pointwise}
use Rattle.std.specs.List.{starts_with}
use Rattle.std.proofs.lemmas.Bool.{eqb-true, le-leb, leb-true, leb-false, lt-leb}
use Rattle.std.proofs.lemmas.List.{take-take}
use Rattle.elf_view.specs.Field.{field, part}
use Rattle.elf_view.specs.Header.{SegmentView, e_phoff, segment_at, segment_count, segment_from}
use Rattle.elf_view.specs.Sound.{IsHeaderWhole, elf_magic, first_fault}
use Rattle.elf_view.specs.declared.faults.Want.TheVariants.{Exec}
use Rattle.elf_view.proofs.FrontFields.{field_in, front_short, part_in}
use Rattle.elf_view.proofs.FrontHeaders.{count_same, headed_at, of_header, table_in}
use Rattle.build_ids.specs.BuildId.{build_id_of, id_among, notes_at, notes_between, notes_of, padding_of}
use Rattle.build_ids.specs.Fronts.{HasNotesBefore}
use Rattle.build_ids.specs.Notes.{NoteView, notes_in, padding_by}
use Rattle.build_ids.specs.declared.padding.Padding.{Padding}

-- bytes that are no ELF file have no build ID
no_magic : (b : List ℕ) → starts_with nat_eq b elf_magic ≡ false → None ≡ build_id_of b
unfolding build_id_of first_fault
no_magic b missing = by (ltb (length b) 64) refl
  where
    by : (t : Bool) → ltb (length b) 64 ≡ t → None ≡ build_id_of b
    by true is = rw is refl
    by false is = rw (is, missing) refl

pub other_file : (front b : List ℕ) → front ≡ take (length front) b → 4 ≤ length front → starts_with nat_eq front elf_magic ≡ false → None ≡ build_id_of b
other_file front b cut long missing =
    let same : take 4 front ≡ take 4 b = ap (take 4) cut ∙ take-take 4 (length front) b long in
    no_magic b (ap (pointwise nat_eq elf_magic) (sym same) ∙ missing)

-- the notes of a program header, by its numbers
notes_by : List ℕ → ℕ → ℕ → ℕ → Padding → List NoteView
notes_by b kind offset filesz p = cond (eqb kind 4 && leb (offset + filesz) (length b)) (notes_in p (part b offset filesz)) []

notes_are : (b : List ℕ) (i : ℕ) → notes_at b i ≡ notes_by b (segment_at b i).kind (segment_at b i).offset (segment_at b i).filesz (padding_of b i)
unfolding notes_at notes_by segment_from
notes_are b i = refl

by_same : (n : ℕ) (b : List ℕ) (kind offset filesz : ℕ) (p : Padding) → (kind ≡ 4 → offset + filesz ≤ length b → offset + filesz ≤ length (take n b)) → notes_by (take n b) kind offset filesz p ≡ notes_by b kind offset filesz p
unfolding notes_by
by_same n b kind offset filesz p lie = of_kind (eqb kind 4) refl
  where
    inside : (t : Bool) → leb (offset + filesz) (length b) ≡ t → kind ≡ 4 → cond (leb (offset + filesz) (length (take n b))) (notes_in p (part (take n b) offset filesz)) [] ≡ cond (leb (offset + filesz) (length b)) (notes_in p (part b offset filesz)) []
    inside true is note =
        let low = lie note (leb-true (offset + filesz) (length b) is) in
        let too : leb (offset + filesz) (length (take n b)) ≡ true = le-leb (offset + filesz) (length (take n b)) low in
        rw (is, too) (ap (notes_in p) (part_in n b offset filesz low))
    inside false is note =
        let short = front_short n b in
        let past = leb-false (offset + filesz) (length b) is in
        let too : leb (offset + filesz) (length (take n b)) ≡ false = lt-leb (offset + filesz) (length (take n b)) (omega (arith, past, short)) in
        rw (is, too) refl

    of_kind : (t : Bool) → eqb kind 4 ≡ t → notes_by (take n b) kind offset filesz p ≡ notes_by b kind offset filesz p
    of_kind true is = rw is (inside (leb (offset + filesz) (length b)) refl (eqb-true kind 4 is))
    of_kind false is = rw is refl

module _ (n : ℕ) (b : List ℕ) (whole : IsHeaderWhole (take n b)) where
  padding_same : (i : ℕ) → e_phoff b + 56 * i + 56 ≤ length (take n b) → padding_of (take n b) i ≡ padding_of b i
  padding_same i room =
      let phoff = of_header n b whole 32 8 (omega arith) in
      ap (λ k. padding_by (field (take n b) (k + 56 * i + 48) 8)) phoff ∙ ap padding_by (field_in n b (e_phoff b + 56 * i + 48) 8 (omega (arith, room)))

  at_same : (i : ℕ) → e_phoff b + 56 * i + 56 ≤ length (take n b) → HasNotesBefore (length b) (length (take n b)) (segment_at (take n b) i) → notes_at (take n b) i ≡ notes_at b i
  at_same i room lie =
      let f = take n b in
      let s = segment_at f i in
      let t = segment_at b i in
      let same = headed_at n b i whole room in
      let kind : s.kind ≡ t.kind = ap (λ (h : SegmentView). h.kind) same in
      let offset : s.offset ≡ t.offset = ap (λ (h : SegmentView). h.offset) same in
      let filesz : s.filesz ≡ t.filesz = ap (λ (h : SegmentView). h.filesz) same in
      notes_are f i ∙ by_same n b s.kind s.offset s.filesz (padding_of f i) lie
      ∙ ap (λ k. notes_by b k s.offset s.filesz (padding_of f i)) kind
      ∙ ap (λ o. notes_by b t.kind o s.filesz (padding_of f i)) offset
      ∙ ap (λ z. notes_by b t.kind t.offset z (padding_of f i)) filesz
      ∙ ap (λ p. notes_by b t.kind t.offset t.filesz p) (padding_same i room)
      ∙ sym (notes_are b i)

  between : (i k : ℕ) → e_phoff b + 56 * (i + k) ≤ length (take n b) → ((j : ℕ) → j < i + k → HasNotesBefore (length b) (length (take n b)) (segment_at (take n b) j)) → notes_between (take n b) i k ≡ notes_between b i k
  between i zero room lie = refl
  between i (suc k) room lie =
      ap (λ (ns : List NoteView). ns ++ notes_between (take n b) (i + 1) k) (at_same i (omega (arith, room)) (lie i (omega arith)))
      ∙ ap (λ (ns : List NoteView). notes_at b i ++ ns) (between (i + 1) k (omega (arith, room)) (λ j h. lie j (omega (arith, h))))

  all_between : (k : ℕ) → (0 < k → e_phoff b + 56 * k ≤ length (take n b)) → ((j : ℕ) → j < k → HasNotesBefore (length b) (length (take n b)) (segment_at (take n b) j)) → notes_between (take n b) 0 k ≡ notes_between b 0 k
  all_between zero room lie = refl
  all_between (suc k) room lie = between 0 (suc k) (let fits = room (omega arith) in omega (arith, fits)) (λ j h. lie j (omega (arith, h)))

  notes_same : ((j : ℕ) → j < segment_count (take n b) → HasNotesBefore (length b) (length (take n b)) (segment_at (take n b) j)) → notes_of (take n b) ≡ notes_of b
  notes_same lie =
      let count = count_same n b whole in
      ap (λ k. notes_between (take n b) 0 k) count
      ∙ all_between (segment_count b) (table_in n b whole) (subst (λ k. (j : ℕ) → j < k → HasNotesBefore (length b) (length (take n b)) (segment_at (take n b) j)) count lie)

  id_same : first_fault Exec b ≡ None → ((j : ℕ) → j < segment_count (take n b) → HasNotesBefore (length b) (length (take n b)) (segment_at (take n b) j)) → id_among (notes_of (take n b)) ≡ build_id_of b
  unfolding build_id_of
  id_same sound lie = rw sound (ap id_among (notes_same lie))

-- sound bytes that have all its notes have its build ID
pub id_by_front : (front b : List ℕ) (size end : ℕ) → length b ≡ size → front ≡ take (length front) b → end ≤ length front → IsHeaderWhole front → first_fault Exec b ≡ None
    → ((j : ℕ) → j < segment_count front → HasNotesBefore size end (segment_at front j)) → id_among (notes_of front) ≡ build_id_of b
id_by_front front b size end long cut before whole sound lie =
    let n = length front in
    let far : (j : ℕ) → j < segment_count front → HasNotesBefore (length b) (length front) (segment_at front j) = λ j h note inside. (let last = lie j h note (omega (arith, inside, long)) in omega (arith, last, before)) in
    ap (λ f. id_among (notes_of f)) cut
    ∙ id_same n b (subst IsHeaderWhole cut whole) sound (subst (λ f. (j : ℕ) → j < segment_count f → HasNotesBefore (length b) (length f) (segment_at f j)) cut far)
