-- A sound front belongs to a sound image.
use Rattle.std.proofs.Common.{◌≡◌, ℕ, zero, suc, ◌+◌, ◌-◌, ◌*◌, ◌<◌, ◌≤◌, eqb, Bool, true, false, cond, not, ◌&&◌, ◌||◌, List, [], ◌∷◌, take, length, Option, None, Some, refl, ap, sym, ◌∙◌, subst, arith}
use Rattle.std.specs.Prelude.{is_none, nat_eq}
use Rattle.std.specs.List.{starts_with}
use Rattle.std.specs.Option.{option_or, option_map}
use Rattle.std.proofs.lemmas.Bool.{false≢true, le-ltb, le-leb, leb-true}
use Rattle.std.proofs.lemmas.List.{get_or-take}
use Rattle.elf_view.specs.Header.{SegmentView, e_phoff, e_phentsize, e_phnum, e_shoff, segment_count, segment_at, segments_between}
use Rattle.elf_view.specs.Sound.{Check, first_failing, first_fault_among, first_fault, header_fault, segment_fault, note_fault, fault_at, next_index, header_checks, segment_checks, note_checks, is_core, is_within, is_other_type, elf_magic, IsHeaderWhole, IsSound}
use Rattle.elf_view.specs.declared.faults.Want.{Want}
use Rattle.elf_view.specs.declared.faults.Want.TheVariants.{Core, Exec}
use Rattle.elf_view.specs.declared.faults.ElfField.{ElfField}
use Rattle.elf_view.proofs.FirstFault.{passed}
use Rattle.elf_view.proofs.Rows.{no_fault, none_is_sound}
use Rattle.elf_view.specs.Front.{headed}
use Rattle.elf_view.proofs.FrontFields.{front_most, front_short}
use Rattle.elf_view.proofs.FrontHeaders.{of_header, count_same, headed_at, table_in}
use Rattle.elf_view.proofs.FrontNotes.{rests_same}
use Rattle.elf_view.proofs.FrontWhole.{each_lies}

-- of two lists of checks each check of the second passes where that of the first does
abbrev pub Eases : List Check → List Check → Type 0
Eases [] [] = Unit {0}
Eases [] (y ∷ ys) = ⊥
Eases (x ∷ xs) [] = ⊥
Eases (x ∷ xs) (y ∷ ys) = (x.0 ≡ false → y.0 ≡ false) × Eases xs ys

still : (t : Bool) (f : ElfField) (o : Option ElfField) → t ≡ false → is_none o ≡ true → is_none (cond t (Some f) o) ≡ true
still true f o h none = absurd (false≢true (sym h))
still false f o h none = none

eased : (xs ys : List Check) → Eases xs ys → is_none (first_failing xs) ≡ true → is_none (first_failing ys) ≡ true
eased [] [] e h = refl
eased [] (y ∷ ys) e h = absurd e
eased (x ∷ xs) [] e h = absurd e
eased (x ∷ xs) (y ∷ ys) e h =
    let p = passed x.0 x.1 (first_failing xs) h in still y.0 y.1 (first_failing ys) (e.0 p.0) (eased xs ys e.1 p.1)

same : (x y : Bool) → x ≡ y → x ≡ false → y ≡ false
same x y e h = sym e ∙ h

within_more : (n : ℕ) (b : List ℕ) (p m : ℕ) → is_within (take n b) p m ≡ true → is_within b p m ≡ true
within_more n b p m h = let short = front_short n b in let room = leb-true (p + m) (length (take n b)) h in le-leb (p + m) (length b) (omega arith)

-- a test that holds less often makes a check pass more often
looser : (a u v : Bool) → (u ≡ true → v ≡ true) → (a && not u) ≡ false → (a && not v) ≡ false
looser false u v m h = refl
looser true true true m h = refl
looser true true false m h = absurd (false≢true (m refl))
looser true false v m h = absurd (false≢true (sym h))

looser_or : (a c u v : Bool) → (u ≡ true → v ≡ true) → (a && (c || not u)) ≡ false → (a && (c || not v)) ≡ false
looser_or false c u v m h = refl
looser_or true true u v m h = h
looser_or true false u v m h = looser true u v m h

magic_from : (m : ℕ) (b : List ℕ) → starts_with nat_eq (take (suc (suc (suc (suc m)))) b) elf_magic ≡ starts_with nat_eq b elf_magic
magic_from m [] = refl
magic_from m (x ∷ []) = refl
magic_from m (x ∷ y ∷ []) = refl
magic_from m (x ∷ y ∷ z ∷ []) = refl
magic_from m (x ∷ y ∷ z ∷ w ∷ b) = refl

magic_same : (n : ℕ) (b : List ℕ) → 4 ≤ n → starts_with nat_eq (take n b) elf_magic ≡ starts_with nat_eq b elf_magic
magic_same n b h =
    let is : n ≡ suc (suc (suc (suc (n - 4)))) = omega arith in
    ap (λ k. starts_with nat_eq (take k b) elf_magic) is ∙ magic_from (n - 4) b

header_eases : (want : Want) (n : ℕ) (b : List ℕ) → IsHeaderWhole (take n b) → Eases (header_checks want (take n b)) (header_checks want b)
header_eases want n b whole =
    let f = take n b in
    let room = whole.header in
    let most = front_most n b in
    let short = front_short n b in
    let phnum = of_header n b whole 56 2 (omega arith) in
    let shoff = of_header n b whole 40 8 (omega arith) in
    let phoff = of_header n b whole 32 8 (omega arith) in
    let phentsize = of_header n b whole 54 2 (omega arith) in
    let count = count_same n b whole in (
      (λ h. le-ltb (length b) 64 (omega arith)),
      (
        same _ _ (ap not (magic_same n b (omega arith))),
        (
          same _ _ (ap (λ x. not (eqb x 2)) (get_or-take n b 4 0 (omega arith))),
          (
            same _ _ (ap (λ x. not (eqb x 1)) (get_or-take n b 5 0 (omega arith))),
            (
              same _ _ (ap (λ x. not (eqb x 1)) (get_or-take n b 6 0 (omega arith))),
              (
                same _ _ (ap (is_other_type want) (of_header n b whole 16 2 (omega arith))),
                (
                  same _ _ (ap (λ x. not (eqb x 243)) (of_header n b whole 18 2 (omega arith))),
                  (
                    same _ _ (ap (λ x. not (eqb x 1)) (of_header n b whole 20 4 (omega arith))),
                    (
                      same _ _ (ap (λ x. not (eqb x 0) && not (eqb (e_phentsize f) 56)) phnum ∙ ap (λ x. not (eqb (e_phnum b) 0) && not (eqb x 56)) phentsize),
                      (
                        (λ h. looser_or (eqb (e_phnum b) 65535) (eqb (e_shoff b) 0) (is_within f (e_shoff b) 64) (is_within b (e_shoff b) 64) (within_more n b (e_shoff b) 64)
                            (sym (ap (λ x. eqb x 65535 && (eqb (e_shoff f) 0 || not (is_within f (e_shoff f) 64))) phnum
                            ∙ ap (λ x. eqb (e_phnum b) 65535 && (eqb x 0 || not (is_within f x 64))) shoff) ∙ h)),
                        (
                          (λ h. looser (not (eqb (segment_count b) 0)) (is_within f (e_phoff b) (56 * segment_count b)) (is_within b (e_phoff b) (56 * segment_count b)) (within_more n b (e_phoff b) (56 * segment_count b))
                              (sym (ap (λ x. not (eqb x 0) && not (is_within f (e_phoff f) (56 * x))) count
                              ∙ ap (λ x. not (eqb (segment_count b) 0) && not (is_within f x (56 * segment_count b))) phoff) ∙ h)),
                          tt,
                        ),
                      ),
                    ),
                  ),
                ),
              ),
            ),
          ),
        ),
      ),
    )

segment_eases : (want : Want) (n : ℕ) (b : List ℕ) (s : SegmentView) → Eases (segment_checks want (take n b) s) (segment_checks want b s)
segment_eases want n b s =
    ((λ h. h), ((λ h. h), ((λ h. looser (is_core want && eqb s.kind 4) (is_within (take n b) s.offset s.filesz) (is_within b s.offset s.filesz) (within_more n b s.offset s.filesz) h), tt)))

both_none : {A B : Type 0} → (g : A → B) (o : Option A) (r : Option B) → is_none (option_or (option_map g o) r) ≡ true → (is_none o ≡ true) × (is_none r ≡ true)
both_none g None r h = (refl, h)
both_none g (Some x) r h = absurd (false≢true h)

none_both : {A B : Type 0} → (g : A → B) (o : Option A) (r : Option B) → is_none o ≡ true → is_none r ≡ true → is_none (option_or (option_map g o) r) ≡ true
none_both g None r h k = k
none_both g (Some x) r h k = absurd (false≢true h)

between_none : (want : Want) (n : ℕ) (b : List ℕ) (i j k : ℕ) → IsHeaderWhole (take n b) → e_phoff b + 56 * (j + k) ≤ length (take n b) → is_none (first_fault_among (segment_checks want (take n b)) i (segments_between (take n b) j k)) ≡ true → is_none (first_fault_among (segment_checks want b) i (segments_between b j k)) ≡ true
unfolding first_fault_among
between_none want n b i j zero whole room h = refl
between_none want n b i j (suc k) whole room h =
    let f = take n b in
    let p = both_none (fault_at i) (first_failing (segment_checks want f (segment_at f j))) (first_fault_among (segment_checks want f) (next_index i) (segments_between f (j + 1) k)) h in
    let is : headed (segment_at f j) ≡ headed (segment_at b j) = headed_at n b j whole (omega arith) in
    let P : SegmentView → Type 0 = λ s. is_none (first_failing (segment_checks want f s)) ≡ true in
    let here : is_none (first_failing (segment_checks want f (headed (segment_at b j)))) ≡ true = subst P is p.0 in
    none_both (fault_at i) (first_failing (segment_checks want b (segment_at b j))) (first_fault_among (segment_checks want b) (next_index i) (segments_between b (j + 1) k))
    (eased (segment_checks want f (headed (segment_at b j))) (segment_checks want b (headed (segment_at b j))) (segment_eases want n b (headed (segment_at b j))) here)
    (between_none want n b (next_index i) (j + 1) k whole (omega arith) p.1)

all_none : (want : Want) (n : ℕ) (b : List ℕ) (k : ℕ) → IsHeaderWhole (take n b) → (0 < k → e_phoff b + 56 * k ≤ length (take n b)) → is_none (first_fault_among (segment_checks want (take n b)) 0 (segments_between (take n b) 0 k)) ≡ true → is_none (first_fault_among (segment_checks want b) 0 (segments_between b 0 k)) ≡ true
unfolding first_fault_among
all_none want n b zero whole room h = refl
all_none want n b (suc k) whole room h = let fits = room (omega arith) in between_none want n b 0 0 (suc k) whole (omega arith) h

segments_none : (want : Want) (n : ℕ) (b : List ℕ) → IsHeaderWhole (take n b) → is_none (segment_fault want (take n b)) ≡ true → is_none (segment_fault want b) ≡ true
segments_none want n b whole h =
    let P : ℕ → Type 0 = λ k. is_none (first_fault_among (segment_checks want (take n b)) 0 (segments_between (take n b) 0 k)) ≡ true in
    all_none want n b (segment_count b) whole (table_in n b whole) (subst P (count_same n b whole) h)

notes_none : (want : Want) (n : ℕ) (b : List ℕ) → IsHeaderWhole (take n b) → IsSound want (take n b) → is_none (note_fault want (take n b)) ≡ true → is_none (note_fault want b) ≡ true
notes_none Core n b whole sound h = sym (ap (λ r. is_none (first_fault_among note_checks 0 r)) (rests_same n b whole (each_lies n b sound))) ∙ h
notes_none Exec n b whole sound h = refl

either_none : {B : Type 0} → (o r : Option B) → is_none (option_or o r) ≡ true → (is_none o ≡ true) × (is_none r ≡ true)
either_none None r h = (refl, h)
either_none (Some x) r h = absurd (false≢true h)

none_either : {B : Type 0} → (o r : Option B) → is_none o ≡ true → is_none r ≡ true → is_none (option_or o r) ≡ true
none_either None r h k = k
none_either (Some x) r h k = absurd (false≢true h)

mapped_none : {A B : Type 0} → (g : A → B) (o : Option A) → is_none (option_map g o) ≡ is_none o
mapped_none g None = refl
mapped_none g (Some x) = refl

whole_none : (want : Want) (n : ℕ) (b : List ℕ) → IsHeaderWhole (take n b) → IsSound want (take n b) → is_none (first_fault want (take n b)) ≡ true → is_none (first_fault want b) ≡ true
unfolding first_fault
whole_none want n b whole sound h =
    let f = take n b in
    let p = either_none (header_fault want f) (option_or (segment_fault want f) (note_fault want f)) h in
    let q = either_none (segment_fault want f) (note_fault want f) p.1 in
    let head = eased (header_checks want f) (header_checks want b) (header_eases want n b whole) (sym (mapped_none (fault_at 0) (first_failing (header_checks want f))) ∙ p.0) in
    none_either (header_fault want b) (option_or (segment_fault want b) (note_fault want b))
    (mapped_none (fault_at 0) (first_failing (header_checks want b)) ∙ head)
    (none_either (segment_fault want b) (note_fault want b) (segments_none want n b whole q.0) (notes_none want n b whole sound q.1))

pub sound_whole : (want : Want) (n : ℕ) (b : List ℕ) → IsHeaderWhole (take n b) → IsSound want (take n b) → IsSound want b
sound_whole want n b whole sound = sym (none_is_sound want b) ∙ whole_none want n b whole sound (no_fault want (take n b) sound)
