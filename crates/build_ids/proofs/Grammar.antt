-- The notes in bytes are those that the bytes spell, one after another.
use Rattle.std.proofs.Common.{◌≡◌, ◌<◌, ◌≤◌, inl, inr, ℕ, zero, suc, ◌+◌, ◌-◌, ◌*◌, List, [], ◌∷◌, ◌++◌, length, take, drop, get_or, true, false, nat_le, refl, sym, ap, subst, ◌∙◌, arith, lit≤}
use Rattle.std.proofs.lemmas.Bool.{and_parts, and_from, cases_Bool, true≢false, leb-true, le-leb}
use Rattle.std.proofs.lemmas.List.{append_assoc, length-take-le, length-append, length-drop, take-append-drop, take_at, drop_at, drop-take, take-take, get_or-take, get_or_append_left}
use Rattle.elf_view.specs.Field.{field, part}
use Rattle.build_ids.specs.Notes.{NoteView, padded, n_namesz, n_descsz, n_type, desc_at, desc_past, note_len, is_whole, note_at, notes_in}
use Rattle.build_ids.specs.NoteGrammar.{SpellsNote, IsNoteRun}
use Rattle.build_ids.specs.declared.padding.Padding.{Padding}
use Rattle.build_ids.proofs.NotePlaces.{padded_above, note_len_above, notes_step, notes_end, whole_len}

-- a number that lies in the front is a number of the whole
field-append : (xs ys : List ℕ) (p w : ℕ) → p + w ≤ length xs → field (xs ++ ys) p w ≡ field xs p w
unfolding field
field-append xs ys p zero h = refl
field-append xs ys p (suc w) h =
    let within : p < length xs = omega arith in
    ap (λ x. x + 256 * field (xs ++ ys) (p + 1) w) (get_or_append_left xs ys 0 p within)
    ∙ ap (λ y. get_or xs p 0 + 256 * y) (field-append xs ys (p + 1) w (omega arith))

-- and a number of the front
field-take : (xs : List ℕ) (n p w : ℕ) → p + w ≤ n → field (take n xs) p w ≡ field xs p w
unfolding field
field-take xs n p zero h = refl
field-take xs n p (suc w) h =
    let within : p < n = omega arith in
    ap (λ x. x + 256 * field (take n xs) (p + 1) w) (get_or-take n xs p 0 within)
    ∙ ap (λ y. get_or xs p 0 + 256 * y) (field-take xs n (p + 1) w (omega arith))

length_part : (a b : ℕ) (xs : List ℕ) → a + b ≤ length xs → length (part xs a b) ≡ b
length_part a b xs h = length-take-le b (drop a xs) (omega (arith, length-drop a xs))

-- what comes after a front of known length
part_at : (xs ys zs : List ℕ) (a b : ℕ) → length xs ≡ a → length ys ≡ b → part (xs ++ (ys ++ zs)) a b ≡ ys
part_at xs ys zs a b ha hb = ap (take b) (drop_at xs (ys ++ zs) a ha) ∙ take_at ys zs b hb

take-add : (a b : ℕ) (xs : List ℕ) → take (a + b) xs ≡ take a xs ++ part xs a b
take-add a b xs =
    let le : a ≤ a + b = omega arith in
    sym (take-append-drop a (take (a + b) xs)) ∙ ap (λ front. front ++ drop a (take (a + b) xs)) (take-take a (a + b) xs le) ∙ ap (λ back. take a xs ++ back) (drop-take a b xs)

-- sizes and type, name, padding and descriptor, one after the other
four_parts : (bytes : List ℕ) (n g at d : ℕ) → at ≡ 12 + n + g → take (at + d) bytes ≡ take 12 bytes ++ (part bytes 12 n ++ (part bytes (12 + n) g ++ part bytes at d))
four_parts bytes n g at d e =
    take-add at d bytes
    ∙ ap (λ front. front ++ part bytes at d) (ap (λ k. take k bytes) e ∙ take-add (12 + n) g bytes ∙ ap (λ front. front ++ part bytes (12 + n) g) (take-add 12 n bytes))
    ∙ simp append_assoc

whole_past : (p : Padding) (bytes : List ℕ) → is_whole p bytes ≡ true → desc_past p bytes ≤ length bytes
unfolding is_whole
whole_past p bytes whole = leb-true (desc_past p bytes) (length bytes) (and_parts (nat_le 12 (length bytes)) _ whole).1

is_whole_by : (p : Padding) (bytes : List ℕ) → 12 ≤ length bytes → desc_past p bytes ≤ length bytes → is_whole p bytes ≡ true
unfolding is_whole
is_whole_by p bytes some past = and_from (nat_le 12 (length bytes)) (nat_le (desc_past p bytes) (length bytes)) (le-leb 12 (length bytes) some) (le-leb (desc_past p bytes) (length bytes) past)

-- the text of a note that is whole
spells_first : (p : Padding) (bytes : List ℕ) → is_whole p bytes ≡ true → SpellsNote p (take (desc_past p bytes) bytes) (note_at p bytes)
unfolding note_at
spells_first p bytes whole =
    let n = n_namesz bytes in
    let at = desc_at p bytes in
    let g = at - (12 + n) in
    let past = whole_past p bytes whole in
    let above = padded_above p (12 + n) in
    let is : at ≡ 12 + n + g = omega (arith, above) in
    let name_len = length_part 12 n bytes (omega (arith, past, above)) in
    let gap_len = length_part (12 + n) g bytes (omega (arith, past, is)) in
    record {
      head = take 12 bytes;
      gap = part bytes (12 + n) g;
      whole = four_parts bytes n g at (n_descsz bytes) is;
      head_len = length-take-le 12 bytes (whole_len p bytes whole);
      namesz = field-take bytes 12 0 4 (lit≤ tt) ∙ sym name_len;
      descsz = field-take bytes 12 4 4 (lit≤ tt) ∙ sym (length_part at (n_descsz bytes) bytes past);
      kind = field-take bytes 12 8 4 (lit≤ tt);
      gap_len = (let same = ap (λ k. padded p (12 + k)) name_len in omega (arith, name_len, gap_len, is, same));
    }

same_note : (a b : NoteView) → a.name ≡ b.name → a.kind ≡ b.kind → a.desc ≡ b.desc → a ≡ b
same_note a b name kind desc =
    let by_name : a ≡ record { name = b.name; kind = a.kind; desc = a.desc } = ap (λ n. record { name = n; kind = a.kind; desc = a.desc }) name in
    let by_kind : (let r : NoteView = record { name = b.name; kind = a.kind; desc = a.desc } in r) ≡ record { name = b.name; kind = b.kind; desc = a.desc } = ap (λ n. record { name = b.name; kind = n; desc = a.desc }) kind in
    let by_desc : (let r : NoteView = record { name = b.name; kind = b.kind; desc = a.desc } in r) ≡ b = ap (λ n. record { name = b.name; kind = b.kind; desc = n }) desc in
    by_name ∙ by_kind ∙ by_desc

-- what is at the front of bytes that begin with the text of a note
record BeginsWith (p : Padding) (bytes text : List ℕ) (note : NoteView) : Type 0 where
  pub whole : is_whole p bytes ≡ true
  pub len : length text ≡ desc_past p bytes
  pub note_is : note_at p bytes ≡ note

head_field : (head back : List ℕ) (p : ℕ) → length head ≡ 12 → p + 4 ≤ 12 → field (head ++ back) p 4 ≡ field head p 4
head_field head back p h le = field-append head back p 4 (omega arith)

begins : (p : Padding) (head gap more : List ℕ) (note : NoteView) → length head ≡ 12 → field head 0 4 ≡ length note.name → field head 4 4 ≡ length note.desc → field head 8 4 ≡ note.kind
    → 12 + length note.name + length gap ≡ padded p (12 + length note.name)
    → BeginsWith p (head ++ (note.name ++ (gap ++ (note.desc ++ more)))) (head ++ (note.name ++ (gap ++ note.desc))) note
unfolding note_at
begins p head gap more note head_len namesz descsz kind gap_len =
    let back = note.name ++ (gap ++ (note.desc ++ more)) in
    let bytes = head ++ back in
    let n : n_namesz bytes ≡ length note.name = head_field head back 0 head_len (lit≤ tt) ∙ namesz in
    let d : n_descsz bytes ≡ length note.desc = head_field head back 4 head_len (lit≤ tt) ∙ descsz in
    let k : n_type bytes ≡ note.kind = head_field head back 8 head_len (lit≤ tt) ∙ kind in
    let at : desc_at p bytes ≡ 12 + length note.name + length gap = ap (λ m. padded p (12 + m)) n ∙ sym gap_len in
    let front_len : length (head ++ (note.name ++ gap)) ≡ desc_at p bytes =
    (let l = length-append head (note.name ++ gap) in let m = length-append note.name gap in omega (arith, l, m, at, head_len)) in
    let grouped : bytes ≡ (head ++ (note.name ++ gap)) ++ (note.desc ++ more) = simp append_assoc in
    let size : length bytes ≡ length (head ++ (note.name ++ gap)) + (length note.desc + length more) =
    ap length grouped ∙ length-append (head ++ (note.name ++ gap)) (note.desc ++ more) ∙ ap (λ m. length (head ++ (note.name ++ gap)) + m) (length-append note.desc more) in
    let text_len : length (head ++ (note.name ++ (gap ++ note.desc))) ≡ length (head ++ (note.name ++ gap)) + length note.desc = simp length-append (omega arith) in
    record {
      whole = is_whole_by p bytes (omega (arith, size, front_len, at)) (omega (arith, size, front_len, d));
      len = text_len ∙ omega (arith, front_len, d);
      note_is = same_note (note_at p bytes) note
          (part_at head note.name (gap ++ (note.desc ++ more)) 12 (n_namesz bytes) head_len (sym n))
          k
          (ap (λ b. part b (desc_at p bytes) (n_descsz bytes)) grouped ∙ part_at (head ++ (note.name ++ gap)) note.desc more (desc_at p bytes) (n_descsz bytes) front_len (sym d));
    }

begins_with : (p : Padding) (bytes text more : List ℕ) (note : NoteView) → bytes ≡ text ++ more → SpellsNote p text note → BeginsWith p bytes text note
begins_with p bytes text more note is s =
    let b = begins p s.head s.gap more note s.head_len s.namesz s.descsz s.kind s.gap_len in
    let regrouped : s.head ++ (note.name ++ (s.gap ++ (note.desc ++ more))) ≡ (s.head ++ (note.name ++ (s.gap ++ note.desc))) ++ more = simp append_assoc in
    let whole : bytes ≡ s.head ++ (note.name ++ (s.gap ++ (note.desc ++ more))) = is ∙ ap (λ t. t ++ more) s.whole ∙ sym regrouped in
    subst (λ t. BeginsWith p bytes t note) (sym s.whole) (subst (λ t. BeginsWith p t (s.head ++ (note.name ++ (s.gap ++ note.desc))) note) (sym whole) b)

note_len_is : (p : Padding) (bytes : List ℕ) → note_len p bytes ≡ padded p (desc_past p bytes)
unfolding note_len
note_len_is p bytes = refl

-- bytes that begin with no whole note have none
found_none : (p : Padding) (bytes : List ℕ) → is_whole p bytes ≡ false → IsNoteRun p bytes (notes_in p bytes)
found_none p bytes part =
    subst (IsNoteRun p bytes) (sym (notes_end p bytes part)) (λ text more note is spells. true≢false (sym (begins_with p bytes text more note is spells).whole ∙ part))

-- the notes of n bytes or fewer are spelled by them
found_within : (n : ℕ) (p : Padding) (bytes : List ℕ) → length bytes ≤ n → IsNoteRun p bytes (notes_in p bytes)
found_within zero p bytes bound =
    elim (cases_Bool (is_whole p bytes)) [
      | inl whole ↦ absurd (omega (arith, whole_len p bytes whole, bound))
      | inr part ↦ found_none p bytes part
    ]
found_within (suc n) p bytes bound =
    elim (cases_Bool (is_whole p bytes)) [
      | inl whole ↦
          let text = take (desc_past p bytes) bytes in
          let above = note_len_above p bytes in
          let some = whole_len p bytes whole in
          let shorter : length (drop (note_len p bytes) bytes) ≤ n = omega (arith, length-drop (note_len p bytes) bytes, above, some, bound) in
          let behind = found_within n p (drop (note_len p bytes) bytes) shorter in
          let len = length-take-le (desc_past p bytes) bytes (whole_past p bytes whole) in
          subst (IsNoteRun p bytes) (sym (notes_step p bytes whole)) (
            text,
            drop (desc_past p bytes) bytes,
            spells_first p bytes whole,
            sym (take-append-drop (desc_past p bytes) bytes),
            subst (λ k. IsNoteRun p (drop k bytes) (notes_in p (drop (note_len p bytes) bytes))) (note_len_is p bytes ∙ ap (padded p) (sym len)) behind,
          )
      | inr part ↦ found_none p bytes part
    ]

pub found : (p : Padding) (bytes : List ℕ) → IsNoteRun p bytes (notes_in p bytes)
found p bytes = found_within (length bytes) p bytes (omega arith)

-- and no other notes are
pub only : (p : Padding) (bytes : List ℕ) (notes : List NoteView) → IsNoteRun p bytes notes → notes_in p bytes ≡ notes
only p bytes [] none =
    elim (cases_Bool (is_whole p bytes)) [
      | inl whole ↦ absurd (none (take (desc_past p bytes) bytes) (drop (desc_past p bytes) bytes) (note_at p bytes) (sym (take-append-drop (desc_past p bytes) bytes)) (spells_first p bytes whole))
      | inr part ↦ notes_end p bytes part
    ]
only p bytes (note ∷ notes) run =
    let begins = begins_with p bytes run.0 run.1 note run.3 run.2 in
    let next = note_len_is p bytes ∙ ap (padded p) (sym begins.len) in
    notes_step p bytes begins.whole
    ∙ ap (λ n. n ∷ notes_in p (drop (note_len p bytes) bytes)) begins.note_is
    ∙ ap (λ k. note ∷ notes_in p (drop k bytes)) next
    ∙ ap (λ (ns : List NoteView). note ∷ ns) (only p (drop (padded p (length run.0)) bytes) notes run.4)
