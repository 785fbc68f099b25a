-- The notes in a segment's bytes are the one note list that the bytes spell.
use Rattle.std.proofs.Common.{◌≡◌, ◌<◌, ◌≤◌, ℕ, Bool, zero, suc, ◌+◌, ◌-◌, ◌*◌, List, [], ◌∷◌, ◌++◌, length, map, take, drop, get_or, true, false, cond, eqb, refl, sym, ap, subst, ◌∙◌, inl, inr, min, eq-eqb, arith, lit≤}
use Rattle.std.specs.List.{AllByRecursion, flat_map, list_all}
use Rattle.std.proofs.lemmas.List.{append_assoc, length-take-le, length-append, length-take, length-drop, take-append-drop, take_at, drop_at, drop-drop, drop-take, take-take, drop_all, map-append, get_or-take, get_or_append_left}
use Rattle.std.proofs.lemmas.Bool.{and_parts, and_from, cases_lt, eqb-true}
use Rattle.std.proofs.lemmas.List.Folds.{list_all-append}
use Rattle.elf_view.specs.Field.{field, part}
use Rattle.elf_view.specs.Header.{SegmentView}
use Rattle.elf_view.specs.NoteList.{NoteView, padded, without_closing_nul, n_namesz, n_descsz, n_type, desc_at, note_len, note_at, rests_past, note_rests, notes_in, segment_rests, all_rests}
use Rattle.elf_view.specs.NoteGrammar.{SpellsNote, IsNoteList, segment_notes}
use Rattle.elf_view.specs.Sound.{is_note_whole, AreNotesWhole}
use Rattle.elf_view.proofs.NotePlaces.{rests_step, rests_none, note_len_above, whole_parts, whole_from_parts}

-- a number that lies in the front is a number of the whole
field-append : (xs ys : List ℕ) (p w : ℕ) → p + w ≤ length xs → field (xs ++ ys) p w ≡ field xs p w
unfolding field
field-append xs ys p zero h = refl
field-append xs ys p (suc w) h =
    let within : p < length xs = omega arith in
    ap (λ x. x + 256 * field (xs ++ ys) (p + 1) w) (get_or_append_left xs ys 0 p within)
    ∙ ap (λ y. get_or xs p 0 + 256 * y) (field-append xs ys (p + 1) w (omega arith))

-- a number that lies in the front is a number of the front
field-take : (xs : List ℕ) (n p w : ℕ) → p + w ≤ n → field (take n xs) p w ≡ field xs p w
unfolding field
field-take xs n p zero h = refl
field-take xs n p (suc w) h =
    let within : p < n = omega arith in
    ap (λ x. x + 256 * field (take n xs) (p + 1) w) (get_or-take n xs p 0 within)
    ∙ ap (λ y. get_or xs p 0 + 256 * y) (field-take xs n (p + 1) w (omega arith))

-- the first a bytes, then the next b, then what is left
cut : (a b : ℕ) (xs : List ℕ) → drop a xs ≡ part xs a b ++ drop (a + b) xs
cut a b xs = sym (take-append-drop b (drop a xs)) ∙ ap (λ rest. part xs a b ++ rest) (drop-drop b a xs)

length_part : (a b : ℕ) (xs : List ℕ) → a + b ≤ length xs → length (part xs a b) ≡ b
length_part a b xs h = length-take-le b (drop a xs) (omega (arith, length-drop a xs))

-- what follows a front of known length
part_at : (xs ys zs : List ℕ) (a b : ℕ) → length xs ≡ a → length ys ≡ b → part (xs ++ (ys ++ zs)) a b ≡ ys
part_at xs ys zs a b ha hb = ap (take b) (drop_at xs (ys ++ zs) a ha) ∙ take_at ys zs b hb

take-add : (a b : ℕ) (xs : List ℕ) → take (a + b) xs ≡ take a xs ++ part xs a b
take-add a b xs =
    let le : a ≤ a + b = omega arith in
    sym (take-append-drop a (take (a + b) xs)) ∙ ap (λ front. front ++ drop a (take (a + b) xs)) (take-take a (a + b) xs le) ∙ ap (λ back. take a xs ++ back) (drop-take a b xs)

-- sizes and type, name, padding and descriptor, one after the other
four_parts : (bytes : List ℕ) (n g at d : ℕ) → at ≡ 12 + n + g → take (at + d) bytes ≡ take 12 bytes ++ (part bytes 12 n ++ (part bytes (12 + n) g ++ part bytes at d))
four_parts bytes n g at d e =
    take-add at d bytes
    ∙ ap (λ front. front ++ part bytes at d) (ap (λ k. take k bytes) e ∙ take-add (12 + n) g bytes ∙ ap (λ front. front ++ part bytes (12 + n) g) (take-add 12 n bytes))
    ∙ simp append_assoc

padded_above : (n : ℕ) → n ≤ padded n
padded_above n = omega arith

-- the text of a note that passes its checks
pub spells_first : (bytes : List ℕ) → is_note_whole bytes ≡ true → SpellsNote (take (desc_at bytes + n_descsz bytes) bytes) (note_at bytes)
unfolding note_at
spells_first bytes whole =
    let parts = whole_parts bytes whole in
    let n = n_namesz bytes in
    let above = padded_above n in
    let room : 12 + n + (padded n - n) ≤ length bytes = omega (arith, parts.1) in
    let name_room : 12 + n ≤ length bytes = omega arith in
    let is : desc_at bytes ≡ 12 + n + (padded n - n) = omega arith in
    record {
      head = take 12 bytes;
      name = part bytes 12 n;
      gap = part bytes (12 + n) (padded n - n);
      whole = four_parts bytes n (padded n - n) (desc_at bytes) (n_descsz bytes) is;
      head_len = length-take-le 12 bytes parts.0;
      namesz = field-take bytes 12 0 4 (lit≤ tt) ∙ sym (length_part 12 n bytes name_room);
      descsz = field-take bytes 12 4 4 (lit≤ tt) ∙ sym (length_part (desc_at bytes) (n_descsz bytes) bytes parts.2);
      kind = field-take bytes 12 8 4 (lit≤ tt);
      gap_len =
          let a = length_part 12 n bytes name_room in
          let b = length_part (12 + n) (padded n - n) bytes room in
          let c = ap padded a in omega (arith, a, b, c);
      shown = refl;
    }

-- A note that passes its checks, and then a note list of what is left after it.
note_then : (bytes : List ℕ) (notes : List NoteView) → is_note_whole bytes ≡ true → IsNoteList (drop (note_len bytes) bytes) notes → (drop (note_len bytes) bytes ≡ [] → notes ≡ []) → IsNoteList bytes (note_at bytes ∷ notes)
unfolding note_len note_at
note_then bytes notes whole rest ends =
    let parts = whole_parts bytes whole in
    let at = desc_at bytes + n_descsz bytes in
    let d = n_descsz bytes in
    let q = padded d - d in
    let above = padded_above d in
    let is : at + q ≡ note_len bytes = omega arith in
    let desc_len = length_part (desc_at bytes) d bytes parts.2 in
    let pad_len : length (part bytes at q) ≡ min q (length bytes - at) = length-take q (drop at bytes) ∙ ap (min q) (length-drop at bytes) in
    let same = ap padded desc_len in
    let split : bytes ≡ take at bytes ++ (part bytes at q ++ drop (note_len bytes) bytes) =
    sym (take-append-drop at bytes) ∙ ap (λ back. take at bytes ++ back) (cut at q bytes ∙ ap (λ k. part bytes at q ++ drop k bytes) is) in (
      take at bytes,
      part bytes at q,
      drop (note_len bytes) bytes,
      spells_first bytes whole,
      split,
      elim (cases_lt (length bytes) (note_len bytes)) [
        | inl short ↦
            let none : drop (note_len bytes) bytes ≡ [] = drop_all (note_len bytes) bytes (omega arith) in
            inr (omega (arith, desc_len, pad_len, same, is, parts.2), none, ends none)
        | inr long ↦ inl (omega (arith, desc_len, pad_len, same, is, parts.2), rest)
      ],
    )

nothing_left : (bytes : List ℕ) → bytes ≡ [] → notes_in bytes ≡ []
nothing_left bytes none = ap (map note_at) (rests_none bytes (ap length none))

-- the notes of n bytes or fewer, where each passes its checks, are a note list of them
found_within : (n : ℕ) (bytes : List ℕ) → length bytes ≤ n → AreNotesWhole (note_rests bytes) → IsNoteList bytes (notes_in bytes)
unfolding rests_past
found_within n [] bound whole = refl
found_within zero (x ∷ xs) bound whole = absurd (omega arith)
found_within (suc n) (x ∷ xs) bound whole =
    let some : 0 < length (x ∷ xs) = omega arith in
    let step = rests_step (x ∷ xs) some in
    let each : AreNotesWhole ((x ∷ xs) ∷ note_rests (drop (note_len (x ∷ xs)) (x ∷ xs))) = subst AreNotesWhole step whole in
    let parts = and_parts (is_note_whole (x ∷ xs)) (list_all is_note_whole (note_rests (drop (note_len (x ∷ xs)) (x ∷ xs)))) each in
    let above = note_len_above (x ∷ xs) in
    let shorter : length (drop (note_len (x ∷ xs)) (x ∷ xs)) ≤ n = omega (arith, length-drop (note_len (x ∷ xs)) (x ∷ xs)) in
    let behind = found_within n (drop (note_len (x ∷ xs)) (x ∷ xs)) shorter parts.1 in
    subst (IsNoteList (x ∷ xs)) (sym (ap (map note_at) step)) (note_then (x ∷ xs) (notes_in (drop (note_len (x ∷ xs)) (x ∷ xs))) parts.0 behind (nothing_left _))

pub found : (bytes : List ℕ) → AreNotesWhole (note_rests bytes) → IsNoteList bytes (notes_in bytes)
found bytes whole = found_within (length bytes) bytes (omega arith) whole

same_note : (a b : NoteView) → a.name ≡ b.name → a.kind ≡ b.kind → a.desc ≡ b.desc → a ≡ b
same_note a b name kind desc =
    let by_name : a ≡ record { name = b.name; kind = a.kind; desc = a.desc } = ap (λ n. record { name = n; kind = a.kind; desc = a.desc }) name in
    let by_kind : (let r : NoteView = record { name = b.name; kind = a.kind; desc = a.desc } in r) ≡ record { name = b.name; kind = b.kind; desc = a.desc } = ap (λ n. record { name = b.name; kind = n; desc = a.desc }) kind in
    let by_desc : (let r : NoteView = record { name = b.name; kind = b.kind; desc = a.desc } in r) ≡ b = ap (λ n. record { name = b.name; kind = b.kind; desc = n }) desc in
    by_name ∙ by_kind ∙ by_desc

-- what is at the front of bytes that begin with the text of a note
pub record BeginsWith (bytes text : List ℕ) (note : NoteView) : Type 0 where
  pub len : length text ≡ desc_at bytes + n_descsz bytes
  pub desc_len : length note.desc ≡ n_descsz bytes
  pub note_is : note_at bytes ≡ note

-- the 12 bytes of a text are those of what begins with it
head_field : (head back : List ℕ) (p : ℕ) → length head ≡ 12 → p + 4 ≤ 12 → field (head ++ back) p 4 ≡ field head p 4
head_field head back p h le = field-append head back p 4 (omega arith)

begins : (head name gap desc more : List ℕ) (note : NoteView) → length head ≡ 12 → field head 0 4 ≡ length name → field head 4 4 ≡ length desc → field head 8 4 ≡ note.kind → length name + length gap ≡ padded (length name) → without_closing_nul name ≡ note.name → desc ≡ note.desc → BeginsWith (head ++ (name ++ (gap ++ (desc ++ more)))) (head ++ (name ++ (gap ++ desc))) note
unfolding note_at
begins head name gap desc more note head_len namesz descsz kind gap_len shown same =
    let back = name ++ (gap ++ (desc ++ more)) in
    let bytes = head ++ back in
    let n : n_namesz bytes ≡ length name = head_field head back 0 head_len (lit≤ tt) ∙ namesz in
    let d : n_descsz bytes ≡ length desc = head_field head back 4 head_len (lit≤ tt) ∙ descsz in
    let k : n_type bytes ≡ note.kind = head_field head back 8 head_len (lit≤ tt) ∙ kind in
    let pad : padded (n_namesz bytes) ≡ padded (length name) = ap padded n in
    let front_len : length (head ++ (name ++ gap)) ≡ desc_at bytes = simp length-append (omega arith) in
    let grouped : bytes ≡ (head ++ (name ++ gap)) ++ (desc ++ more) = simp append_assoc in
    record {
      len = simp length-append (omega arith);
      desc_len = ap length (sym same) ∙ sym d;
      note_is = same_note (note_at bytes) note
          (ap without_closing_nul (part_at head name (gap ++ (desc ++ more)) 12 (n_namesz bytes) head_len (sym n)) ∙ shown)
          k
          (ap (λ b. part b (desc_at bytes) (n_descsz bytes)) grouped ∙ part_at (head ++ (name ++ gap)) desc more (desc_at bytes) (n_descsz bytes) front_len (sym d) ∙ same);
    }

begins_with : (text more : List ℕ) (note : NoteView) → SpellsNote text note → BeginsWith (text ++ more) text note
begins_with text more note s =
    let b = begins s.head s.name s.gap note.desc more note s.head_len s.namesz s.descsz s.kind s.gap_len s.shown refl in
    let regrouped : s.head ++ (s.name ++ (s.gap ++ (note.desc ++ more))) ≡ (s.head ++ (s.name ++ (s.gap ++ note.desc))) ++ more = simp append_assoc in
    subst (λ t. BeginsWith (t ++ more) t note) (sym s.whole) (subst (λ bytes. BeginsWith bytes (s.head ++ (s.name ++ (s.gap ++ note.desc))) note) regrouped b)

-- The notes of bytes that begin with a note's text are that note, and then those of what is left.
first_again : (bytes text : List ℕ) (note : NoteView) (more : List ℕ) → bytes ≡ text ++ more → SpellsNote text note → AreNotesWhole (note_rests (drop (note_len bytes) bytes)) → AreNotesWhole (note_rests bytes) × (notes_in bytes ≡ note ∷ notes_in (drop (note_len bytes) bytes))
first_again bytes text note more is spells rest =
    let at = subst (λ b. BeginsWith b text note) (sym is) (begins_with text more note spells) in
    let len : length text + length more ≡ length bytes = sym (ap length is ∙ length-append text more) in
    let size = at.len in
    let whole = whole_from_parts bytes (omega arith) (omega arith) in
    let some : 0 < length bytes = omega arith in
    let step = rests_step bytes some in
    let each : AreNotesWhole (bytes ∷ note_rests (drop (note_len bytes) bytes)) = and_from _ _ whole rest in
    (subst AreNotesWhole (sym step) each, ap (map note_at) step ∙ ap (λ n. n ∷ notes_in (drop (note_len bytes) bytes)) at.note_is)

-- how far the next note is
next_at : (bytes text : List ℕ) (note : NoteView) (more : List ℕ) → bytes ≡ text ++ more → SpellsNote text note → length text + padded (length note.desc) ≡ note_len bytes + length note.desc
unfolding note_len
next_at bytes text note more is spells =
    let at = subst (λ b. BeginsWith b text note) (sym is) (begins_with text more note spells) in
    let size = at.len in
    let desc = at.desc_len in
    let pad = ap padded desc in
    omega (arith, size, desc, pad)

-- what is after a note with all its padding, and after one with less
behind_whole : (bytes text gap rest : List ℕ) (note : NoteView) → bytes ≡ text ++ (gap ++ rest) → SpellsNote text note → length note.desc + length gap ≡ padded (length note.desc) → drop (note_len bytes) bytes ≡ rest
behind_whole bytes text gap rest note is spells full =
    let next = next_at bytes text note (gap ++ rest) is spells in
    let len : length (text ++ gap) ≡ note_len bytes = omega (arith, length-append text gap) in
    ap (drop (note_len bytes)) (is ∙ sym (append_assoc text gap rest)) ∙ drop_at (text ++ gap) rest (note_len bytes) len

behind_short : (bytes text gap rest : List ℕ) (note : NoteView) → bytes ≡ text ++ (gap ++ rest) → SpellsNote text note → length note.desc + length gap < padded (length note.desc) → rest ≡ [] → drop (note_len bytes) bytes ≡ []
behind_short bytes text gap rest note is spells less none =
    let next = next_at bytes text note (gap ++ rest) is spells in
    let empty = ap length none in
    let len : length bytes ≡ length text + (length gap + length rest) = ap length is ∙ simp length-append in
    drop_all (note_len bytes) bytes (omega (arith, empty))

no_notes : (bytes : List ℕ) → bytes ≡ [] → AreNotesWhole (note_rests bytes)
no_notes bytes none = subst AreNotesWhole (sym (rests_none bytes (ap length none))) refl

-- a note list of the bytes is the notes in them, which pass their checks
pub again : (bytes : List ℕ) (notes : List NoteView) → IsNoteList bytes notes → AreNotesWhole (note_rests bytes) × (notes_in bytes ≡ notes)
again bytes [] none = (no_notes bytes none, nothing_left bytes none)
again bytes (note ∷ notes) h =
    let text = h.0 in
    let gap = h.1 in
    let rest = h.2 in
    elim h.5 [
      | inl full ↦
          let behind = behind_whole bytes text gap rest note h.4 h.3 full.0 in
          let others = again rest notes full.1 in
          let one = first_again bytes text note (gap ++ rest) h.4 h.3 (subst (λ b. AreNotesWhole (note_rests b)) (sym behind) others.0) in
          (one.0, one.1 ∙ ap (λ b. note ∷ notes_in b) behind ∙ ap (λ ns. note ∷ ns) others.1)
      | inr short ↦
          let behind = behind_short bytes text gap rest note h.4 h.3 short.0 short.1 in
          let one = first_again bytes text note (gap ++ rest) h.4 h.3 (no_notes _ behind) in
          (one.0, one.1 ∙ ap (λ ns. note ∷ ns) (nothing_left _ behind ∙ sym short.2))
    ]

one_segment : (s : SegmentView) → map note_at (segment_rests s) ≡ segment_notes s
one_segment s = elim (eqb s.kind 4) as (λ t. map note_at (cond t (note_rests s.bytes) []) ≡ cond t (notes_in s.bytes) []) [ true ↦ refl | false ↦ refl ]

-- the notes of all segments are those of the first, and so on
pub by_segment : (segments : List SegmentView) → map note_at (all_rests segments) ≡ flat_map segment_notes segments
by_segment [] = refl
by_segment (s ∷ segments) =
    map-append note_at (segment_rests s) (all_rests segments) ∙ ap (λ front. front ++ map note_at (all_rests segments)) (one_segment s) ∙ ap (λ back. segment_notes s ++ back) (by_segment segments)

whole_of_both : (xs ys : List (List ℕ)) → AreNotesWhole (xs ++ ys) → AreNotesWhole xs × AreNotesWhole ys
whole_of_both [] ys h = (refl, h)
whole_of_both (x ∷ xs) ys h =
    let both = and_parts (is_note_whole x) (list_all is_note_whole (xs ++ ys)) h in
    let rest = whole_of_both xs ys both.1 in
    (and_from (is_note_whole x) (list_all is_note_whole xs) both.0 rest.0, rest.1)

notes_of_kind : (s : SegmentView) → s.kind ≡ 4 → segment_rests s ≡ note_rests s.bytes
notes_of_kind s h = ap (λ t. cond t (note_rests s.bytes) []) (eq-eqb s.kind 4 h)

-- each segment of notes has a note list
pub each_found : (segments : List SegmentView) → AreNotesWhole (all_rests segments) → AllByRecursion (λ (s : SegmentView). s.kind ≡ 4 → IsNoteList s.bytes (notes_in s.bytes)) segments
each_found [] whole = tt
each_found (s ∷ segments) whole =
    let both = whole_of_both (segment_rests s) (all_rests segments) whole in
    (λ h. found s.bytes (subst AreNotesWhole (notes_of_kind s h) both.0), each_found segments both.1)

rests_whole : (s : SegmentView) (t : Bool) → (t ≡ true → AreNotesWhole (note_rests s.bytes)) → AreNotesWhole (cond t (note_rests s.bytes) [])
rests_whole s true h = h refl
rests_whole s false h = refl

-- segments whose bytes have a note list have notes that pass
pub each_whole : (segments : List SegmentView) → AllByRecursion (λ (s : SegmentView). s.kind ≡ 4 → (notes : List NoteView) × IsNoteList s.bytes notes) segments → AreNotesWhole (all_rests segments)
each_whole [] h = refl
each_whole (s ∷ segments) h =
    list_all-append is_note_whole (segment_rests s) (all_rests segments)
    ∙ and_from _ _ (rests_whole s (eqb s.kind 4) (λ is. let list = h.0 (eqb-true s.kind 4 is) in (again s.bytes list.0 list.1).0)) (each_whole segments h.1)
