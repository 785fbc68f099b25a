-- What is written into a half is a snapshot of what the journal says then.
use Rattle.std.proofs.Common.{◌≡◌, ◌+◌, ◌≤◌, ◌++◌, ◌∷◌, [], ℕ, List, length, map, take, slice_index, refl, ap, sym, ◌∙◌, subst, arith}
use Rattle.std.proofs.lemmas.Grind.{flat_map-append}
use Rattle.std.proofs.lemmas.List.{append-nil, append_assoc, length-append, take_at, drop_at}
use Rattle.std.specs.List.{flat_map}
use Rattle.disk_model.specs.Places.{part}
use Rattle.disk_model.specs.PartLaws.{part_is, part_part}
use Rattle.journal_layout.specs.declared.entry.Entry.{Entry}
use Rattle.journal_layout.specs.Layout.{half_header, half_length}
use Rattle.journal_layout.specs.Case.{Case, case_of}
use Rattle.journal_layout.specs.Record.{Next, spelling}
use Rattle.journal_layout.specs.Folding.{Folded, sizes}
use Rattle.journal_layout.specs.Standing.{Standing}
use Rattle.journal_layout.specs.Rewriting.{case_records, snapshot, snapshot_size, other_start, HoldsSnapshot}
use Rattle.journal_snapshot.specs.declared.change.Change.{Change}
use Rattle.journal_snapshot.specs.declared.target.Target.{Target}
use Rattle.journal_snapshot.specs.Changing.{staying, added}
use Rattle.journal_snapshot.specs.Writing.{written_entries, written_added}
use Rattle.journal_snapshot.specs.Halves.{half_bytes, IsWrittenAs}
use Rattle.journal_snapshot.specs.HalfLaws.{header_length}
use Rattle.journal_snapshot.specs.HoldLaws.{read_place}
use Rattle.journal_snapshot.specs.ChangeLaws.{spelled, spelled_both, spelled_staying, spelled_added, sizes_spelled}

-- the front of a part, and what follows it
part_front : (b : List ℕ) (p : ℕ) (xs ys : List ℕ) → part b p (length (xs ++ ys)) ≡ xs ++ ys → part b p (length xs) ≡ xs
part_front b p xs ys is =
    let e : p + 0 ≡ p = omega arith in
    ap (λ (k : ℕ). part b k (length xs)) (sym e)
    ∙ sym (part_part b p (length (xs ++ ys)) 0 (length xs) (omega (arith, length-append xs ys)))
    ∙ ap (λ (l : List ℕ). part l 0 (length xs)) is
    ∙ part_is (xs ++ ys) 0 (length xs) ∙ take_at xs ys (length xs) refl

part_behind : (b : List ℕ) (p : ℕ) (xs ys : List ℕ) → part b p (length (xs ++ ys)) ≡ xs ++ ys → part b (p + length xs) (length ys) ≡ ys
part_behind b p xs ys is =
    sym (part_part b p (length (xs ++ ys)) (length xs) (length ys) (omega (arith, length-append xs ys)))
    ∙ ap (λ (l : List ℕ). part l (length xs) (length ys)) is
    ∙ part_is (xs ++ ys) (length xs) (length ys)
    ∙ ap (take (length ys)) (drop_at xs ys (length xs) refl)
    ∙ ap (take (length ys)) (sym (append-nil ys)) ∙ take_at ys [] (length ys) refl

zero_is_closed : ◌≡◌ {A = ℕ} 0 165 → ⊥
zero_is_closed e = omega (arith, e)

module _ (s : Standing) (f : Folded) (target : Target) (ch : Change) (es : List Entry) (is : IsWrittenAs s f target ch es) where
  abbrev head : List ℕ
  head = half_header target.version target.generation

  abbrev rest : List ℕ
  rest = (written_entries ch es ++ written_added ch) ++ spelling (Next target.next)

  rest_is : rest ≡ flat_map spelling (snapshot f)
  rest_is =
      sym (flat_map-append spelling (flat_map case_records f.cases) (Next f.next ∷ [])
      ∙ ap (λ (l : List ℕ). spelled f.cases ++ l) (append-nil (spelling (Next f.next)))
      ∙ ap (λ (l : List Case). spelled l ++ spelling (Next f.next)) is.cases
      ∙ ap (λ (l : List ℕ). l ++ spelling (Next f.next)) (spelled_both (staying ch (map case_of es)) (added ch))
      ∙ ap (λ (l : List ℕ). (l ++ spelled (added ch)) ++ spelling (Next f.next)) (spelled_staying ch es)
      ∙ ap (λ (l : List ℕ). (written_entries ch es ++ l) ++ spelling (Next f.next)) (spelled_added ch)
      ∙ ap (λ (n : ℕ). (written_entries ch es ++ written_added ch) ++ spelling (Next n)) (sym is.next))

  bytes_are : half_bytes target ch es ≡ head ++ (rest ++ 0 ∷ [])
  bytes_are =
      let next = spelling (Next target.next) in
      ap (λ (l : List ℕ). l ++ (next ++ 0 ∷ [])) (append_assoc head (written_entries ch es) (written_added ch))
      ∙ append_assoc head (written_entries ch es ++ written_added ch) (next ++ 0 ∷ [])
      ∙ ap (λ (l : List ℕ). head ++ l) (sym (append_assoc (written_entries ch es ++ written_added ch) next (0 ∷ [])))

  rest_length : length rest ≡ sizes (snapshot f)
  rest_length = ap length rest_is ∙ sizes_spelled (snapshot f)

  -- they go into the half
  pub bytes_length : length (half_bytes target ch es) ≡ 31 + sizes (snapshot f) + 1
  bytes_length =
      ap length bytes_are ∙ length-append head (rest ++ 0 ∷ [])
      ∙ omega (arith, header_length target.version target.generation, length-append rest (0 ∷ []), rest_length)

  pub bytes_within : 1 + length (half_bytes target ch es) ≤ half_length s.shape
  bytes_within = let in_half = is.may.in_half in omega (arith, bytes_length)

  pub holds_snapshot : (b : List ℕ) → part b (target.start + 1) (length (half_bytes target ch es)) ≡ half_bytes target ch es → HoldsSnapshot s f b
  holds_snapshot b there =
      let whole : part b (target.start + 1) (length (head ++ (rest ++ 0 ∷ []))) ≡ head ++ (rest ++ 0 ∷ []) = subst (λ (l : List ℕ). part b (target.start + 1) (length l) ≡ l) bytes_are there in
      let behind : part b (target.start + 1 + length head) (length (rest ++ 0 ∷ [])) ≡ rest ++ 0 ∷ [] = part_behind b (target.start + 1) head (rest ++ 0 ∷ []) whole in
      let at : target.start + 1 + length head ≡ other_start s + 32 = omega (arith, header_length target.version target.generation, is.place) in
      let moved : part b (other_start s + 32) (length (rest ++ 0 ∷ [])) ≡ rest ++ 0 ∷ [] = subst (λ (p : ℕ). part b p (length (rest ++ 0 ∷ [])) ≡ rest ++ 0 ∷ []) at behind in
      let last : other_start s + 32 + length rest ≡ other_start s + snapshot_size f = omega (arith, rest_length) in
      record {
        header =
            ap (λ (p : ℕ). part b (p + 1) 31) (sym is.place)
            ∙ ap (part b (target.start + 1)) (sym (header_length target.version target.generation))
            ∙ part_front b (target.start + 1) head (rest ++ 0 ∷ []) whole
            ∙ ap (λ (v : ℕ). half_header v target.generation) is.version ∙ ap (half_header f.version) is.generation;
        records = ap (part b (other_start s + 32)) (sym rest_length) ∙ part_front b (other_start s + 32) rest (0 ∷ []) moved ∙ rest_is;
        closed = λ opened. zero_is_closed (read_place b (other_start s + 32 + length rest) (0 ∷ []) (sym (part_behind b (other_start s + 32) rest (0 ∷ []) moved)) ∙ ap (slice_index b) last ∙ opened);
      }

-- the first parts of what is written are no longer than all of it
module _ (target : Target) (ch : Change) (es : List Entry) (head : List ℕ) (is : head ≡ half_header target.version target.generation) where
  abbrev first : List ℕ
  first = half_header target.version target.generation

  abbrev last : List ℕ
  last = spelling (Next target.next) ++ 0 ∷ []

  all_length : length (half_bytes target ch es) ≡ length first + length (written_entries ch es) + length (written_added ch) + length last
  all_length =
      length-append ((first ++ written_entries ch es) ++ written_added ch) last
      ∙ omega (arith, length-append (first ++ written_entries ch es) (written_added ch), length-append first (written_entries ch es))

  same : length head ≡ length first
  same = ap length is

  pub half_low : length head ≤ length (half_bytes target ch es)
  half_low = omega (arith, all_length, same)

  pub half_low-2 : length (head ++ written_entries ch es) ≤ length (half_bytes target ch es)
  half_low-2 = omega (arith, all_length, same, length-append head (written_entries ch es))

  pub half_low-3 : length ((head ++ written_entries ch es) ++ written_added ch) ≤ length (half_bytes target ch es)
  half_low-3 = omega (arith, all_length, same, length-append head (written_entries ch es), length-append (head ++ written_entries ch es) (written_added ch))
