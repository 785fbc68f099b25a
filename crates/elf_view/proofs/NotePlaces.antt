-- What is left of a segment from each of its notes on.
use Rattle.std.proofs.Common.{◌≡◌, ℕ, zero, suc, ◌+◌, ◌-◌, ◌<◌, ◌≤◌, List, [], ◌∷◌, ◌++◌, length, drop, true, refl, ap, ◌∙◌, sym, subst, arith}
use Rattle.elf_view.specs.NoteList.{n_descsz, desc_at, rests_past, note_rests, note_len, segment_rests, all_rests, rests_left}
use Rattle.elf_view.specs.Sound.{is_note_whole, AreNotesWhole}
use Rattle.std.proofs.lemmas.Bool.{ltb-false, le-ltb, or_from, or_parts, and_parts}
use Rattle.elf_view.proofs.FirstFault.{passed}
use Rattle.elf_view.specs.Header.{SegmentView}

-- k places on, the notes are those of what is left there
rests_at : (k : ℕ) (xs : List ℕ) → rests_past k xs ≡ rests_past 0 (drop k xs)
unfolding rests_past
rests_at zero [] = refl
rests_at zero (x ∷ xs) = refl
rests_at (suc k) [] = refl
rests_at (suc k) (x ∷ xs) = rests_at k xs

-- no note takes no bytes
pub note_len_above : (bytes : List ℕ) → 12 ≤ note_len bytes
unfolding note_len
note_len_above bytes = omega arith

-- after the first note come those of the rest
pub rests_step : (bytes : List ℕ) → 0 < length bytes → note_rests bytes ≡ bytes ∷ note_rests (drop (note_len bytes) bytes)
unfolding rests_past
rests_step [] h = absurd (omega arith)
rests_step (x ∷ xs) h =
    let above = note_len_above (x ∷ xs) in
    let count : suc (note_len (x ∷ xs) - 1) ≡ note_len (x ∷ xs) = omega arith in
    ap (λ rests. (x ∷ xs) ∷ rests) (rests_at (note_len (x ∷ xs) - 1) xs ∙ ap (λ n. rests_past 0 (drop n (x ∷ xs))) count)

pub rests_none : (bytes : List ℕ) → length bytes ≡ 0 → note_rests bytes ≡ []
unfolding rests_past
rests_none [] h = refl
rests_none (x ∷ xs) h = absurd (omega arith)

-- the first of some segments has these notes, and the others have theirs
pub rests_first : (segments others : List SegmentView) (s : SegmentView) (bytes : List ℕ) → segments ≡ s ∷ others → note_rests bytes ≡ segment_rests s → all_rests segments ≡ rests_left bytes others
rests_first segments others s bytes is same = ap all_rests is ∙ ap (λ rests. rests ++ all_rests others) (sym same)

-- where it has no bytes, they have all
pub rests_pass : (segments others : List SegmentView) (s : SegmentView) (bytes : List ℕ) → segments ≡ s ∷ others → note_rests bytes ≡ segment_rests s → length bytes ≡ 0 → all_rests segments ≡ all_rests others
rests_pass segments others s bytes is same empty = rests_first segments others s bytes is same ∙ ap (λ rests. rests ++ all_rests others) (rests_none bytes empty)

-- where no bytes are left of one segment, the other segments have all
pub left_none : (rest : List ℕ) (segments : List SegmentView) → length rest ≡ 0 → rests_left rest segments ≡ all_rests segments
left_none rest segments empty = ap (λ rests. rests ++ all_rests segments) (rests_none rest empty)

-- the first note that is left, and those after it
pub left_step : (bytes : List ℕ) (segments : List SegmentView) → 0 < length bytes → rests_left bytes segments ≡ bytes ∷ rests_left (drop (note_len bytes) bytes) segments
left_step bytes segments h = ap (λ rests. rests ++ all_rests segments) (rests_step bytes h)

-- a note that passes its checks has its 12 bytes
pub whole_head : (bytes : List ℕ) → is_note_whole bytes ≡ true → 12 ≤ length bytes
whole_head bytes h =
    let p = passed _ _ _ h in
    let q = or_parts _ _ p.0 in
    ltb-false _ _ q.0

-- what is left, where the notes are whole: the first has its 12 bytes, and those after it are whole
pub left_head : (bytes : List ℕ) (segments : List SegmentView) (rests : List (List ℕ)) → rests ≡ rests_left bytes segments → 0 < length bytes → AreNotesWhole rests → 12 ≤ length bytes
left_head bytes segments rests is h whole =
    let all : AreNotesWhole (bytes ∷ rests_left (drop (note_len bytes) bytes) segments) = subst AreNotesWhole (is ∙ left_step bytes segments h) whole in
    whole_head bytes (and_parts _ _ all).0

pub left_behind : (bytes : List ℕ) (segments : List SegmentView) (rests : List (List ℕ)) → rests ≡ rests_left bytes segments → 0 < length bytes → AreNotesWhole rests → AreNotesWhole (rests_left (drop (note_len bytes) bytes) segments)
left_behind bytes segments rests is h whole =
    let all : AreNotesWhole (bytes ∷ rests_left (drop (note_len bytes) bytes) segments) = subst AreNotesWhole (is ∙ left_step bytes segments h) whole in
    (and_parts _ _ all).1

-- a note that passes its checks has room for its name with the padding, and for its descriptor
pub whole_parts : (bytes : List ℕ) → is_note_whole bytes ≡ true → (12 ≤ length bytes) × (desc_at bytes ≤ length bytes) × (desc_at bytes + n_descsz bytes ≤ length bytes)
whole_parts bytes h =
    let p = passed _ _ _ h in
    let q = or_parts _ _ p.0 in
    let r = passed _ _ _ p.1 in (ltb-false _ _ q.0, ltb-false _ _ q.1, ltb-false _ _ r.0)

-- and the other way
pub whole_from_parts : (bytes : List ℕ) → 12 ≤ length bytes → desc_at bytes + n_descsz bytes ≤ length bytes → is_note_whole bytes ≡ true
whole_from_parts bytes head desc =
    let name : desc_at bytes ≤ length bytes = omega arith in
    rw (or_from _ _ (le-ltb (length bytes) 12 head) (le-ltb (length bytes) (desc_at bytes) name), le-ltb (length bytes) (desc_at bytes + n_descsz bytes) desc)
