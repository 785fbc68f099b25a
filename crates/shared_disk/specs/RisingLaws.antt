-- Generations that are written rising have marks.
use Rattle.std.proofs.Common.{◌≡◌, ⊎_elim, ℕ, zero, suc, ◌+◌, ◌%◌, ◌<◌, ◌≤◌, Bool, true, false, cond, ◌==◌, List, length, slice_index, refl, sym, ap, ◌∙◌, subst, arith}
use Rattle.std.proofs.lemmas.Bool.{cases_eq, eqb-true, eqb-false, false≢true}
use Rattle.journal_layout.specs.declared.shape.Shape.{Shape}
use Rattle.journal_layout.specs.declared.shape.Half.{Half}
use Rattle.journal_layout.specs.declared.shape.Half.TheVariants.{A, B}
use Rattle.journal_layout.specs.Layout.{field, half_start, half_length}
use Rattle.journal_layout.specs.Rewriting.{other_half}
use Rattle.journal_layout.specs.Standing.{Standing}
use Rattle.journal_layout.specs.Stands.{front_of}
use Rattle.shared_disk.specs.Course.{IsCourse}
use Rattle.shared_disk.specs.CourseLaws.{along, other_twice}
use Rattle.shared_disk.specs.FrontFacts.{generation_there}
use Rattle.shared_disk.specs.History.{moment, AreMoments, AreMarked}
use Rattle.shared_disk.specs.HistoryLaws.{course, shape_at, stands_at}
use Rattle.shared_disk.specs.Rising.{AreWrittenRising, lowest_byte}
use Rattle.shared_disk.specs.RowsLaws.{field_by_places}
use Rattle.shared_disk.specs.StillLaws.{lowest_of}

abbrev is_half : Half → Half → Bool
is_half A A = true
is_half A B = false
is_half B A = false
is_half B B = true

half_yes : (g h : Half) → is_half g h ≡ true → g ≡ h
half_yes A A e = refl
half_yes A B e = absurd (false≢true e)
half_yes B A e = absurd (false≢true e)
half_yes B B e = refl

half_no : (g h : Half) → is_half g h ≡ false → h ≡ other_half g
half_no A A e = cc
half_no A B e = refl
half_no B A e = refl
half_no B B e = cc

half_apart : (h : Half) → h ≡ other_half h → ⊥
half_apart A e = cc
half_apart B e = cc

module _ (moments : List (List ℕ)) (standing : ℕ → Standing) (are : AreMoments moments standing) (rising : AreWrittenRising moments standing) where
  abbrev start : Half → ℕ
  start h = half_start (standing 0).shape h

  abbrev low : Half → ℕ → ℕ
  low h k = lowest_byte moments standing h k

  abbrev number : Half → ℕ → ℕ
  number h k = field (moment moments k) (start h + 8) 8

  -- the next mark of a half
  abbrev next_mark : Half → ℕ → ℕ → ℕ → ℕ
  next_mark h k n was = cond (is_half (standing n).half h) (standing n).generation (cond (low h n == low h k) was ((standing k).generation + 1))

  abbrev mark : Half → ℕ → ℕ
  mark h zero = cond (is_half (standing 0).half h) (standing 0).generation rising.first
  mark h (suc k) = next_mark h k (suc k) (mark h k)

  record Fits (h : Half) (k m : ℕ) : Type 0 where
    byte : low h k ≡ m % 256
    bound : m ≤ (standing k).generation + 1
    taken : (standing k).half ≡ h → m ≡ (standing k).generation
    whole : slice_index (moment moments k) (start h) ≡ 165 → m ≡ number h k

  taken_number : (k : ℕ) (h : Half) → k < length moments → (standing k).half ≡ h → number h k ≡ (standing k).generation
  taken_number k h within is =
      subst (λ (x : Half). number x k ≡ (standing k).generation) is
      (subst (λ (x : Shape). field (moment moments k) (half_start x (standing k).half + 8) 8 ≡ (standing k).generation) (shape_at moments standing are k within)
      (generation_there (moment moments k) (front_of (standing k)) (stands_at moments standing are k within).front))

  fits_taken : (k : ℕ) (h : Half) → k < length moments → (standing k).half ≡ h → Fits h k (standing k).generation
  fits_taken k h within is =
      let n = taken_number k h within is in
      record {
        byte = lowest_of (moment moments k) (start h + 8) (rising.bytes k within) ∙ ap (λ (x : ℕ). x % 256) n;
        bound = omega arith;
        taken = λ same. refl;
        whole = λ opened. sym n;
      }

  same_number : (h : Half) (i j : ℕ) → ((p : ℕ) → start h + 8 ≤ p → p < start h + 16 → slice_index (moment moments j) p ≡ slice_index (moment moments i) p) → number h j ≡ number h i
  same_number h i j same = field_by_places (moment moments j) (moment moments i) (start h + 8) (start h + 8) 8 (λ k below. same (start h + 8 + k) (omega arith) (omega (arith, below)))

  abbrev byte : ℕ → ℕ → ℕ
  byte k p = slice_index (moment moments k) p

  abbrev half : ℕ → Half
  half k = (standing k).half

  some_size : 32 ≤ half_length (standing 0).shape
  some_size = (course moments standing are).size_some

  -- the half that isn't taken has the same bytes after a step that opens no gate, if its gate is open then
  other_stays : (k p : ℕ) (h : Half) → k + 1 < length moments → h ≡ other_half (half k) → half (k + 1) ≡ half k → (standing (k + 1)).generation ≡ (standing k).generation → byte (k + 1) (start h) ≡ 165
      → start h ≤ p → p < start h + half_length (standing 0).shape → (byte k (start h) ≡ 165) × (byte (k + 1) p ≡ byte k p)
  other_stays k p h within is same_half same_generation opened from below =
      let crs = course moments standing are in
      let place : start h ≡ start (other_half (half k)) = ap start is in
      ⊎_elim
      (λ was. (
        was,
        ⊎_elim
            (λ closed. absurd (closed (ap (byte (k + 1)) (sym place) ∙ opened)))
            (λ same. same)
            (crs.other k p within (ap (byte k) (sym place) ∙ was) (omega (arith, place, from)) (omega (arith, place, below))),
      ))
      (λ closed. absurd (crs.shut k within (λ g. closed (ap (byte k) place ∙ g)) same_generation (ap (byte (k + 1)) (sym place) ∙ opened)))
      (cases_eq (byte k (start h)) 165)

  -- one step of a half that is not taken then
  fits_other : (k m : ℕ) (h : Half) → k + 1 < length moments → h ≡ other_half (half (k + 1)) → Fits h k m → Fits h (k + 1) (cond (low h (k + 1) == low h k) m ((standing k).generation + 1))
  fits_other k m h within is fits = of (low h (k + 1) == low h k) refl
    where
      crs : IsCourse (length moments) (half_length (standing 0).shape) start byte half (λ n. (standing n).generation) (λ n. (standing n).used)
      crs = course moments standing are

      rose : (standing k).generation ≤ (standing (k + 1)).generation
      rose = ⊎_elim (λ still. let e = still.1 in omega (arith, e)) (λ moved. let e = moved.1 in omega (arith, e)) (crs.moves k within)

      not_taken : half (k + 1) ≡ h → ⊥
      not_taken e = half_apart h (is ∙ ap other_half e)

      bound : m ≤ (standing k).generation + 1
      bound = fits.bound

      of : (t : Bool) → (low h (k + 1) == low h k) ≡ t → Fits h (k + 1) (cond t m ((standing k).generation + 1))
      of true e = record {
        byte = eqb-true (low h (k + 1)) (low h k) e ∙ fits.byte;
        bound = (let r = rose in let b = bound in omega (arith, r, b));
        taken = λ same. absurd (not_taken same);
        whole = λ opened. ⊎_elim
            (λ still.
            let there : h ≡ other_half (half k) = is ∙ ap other_half still.0 in
            let some = some_size in
            let stays : (p : ℕ) → start h ≤ p → p < start h + half_length (standing 0).shape → (byte k (start h) ≡ 165) × (byte (k + 1) p ≡ byte k p) =
            λ p from below. other_stays k p h within there still.0 still.1 opened from below in
            fits.whole (stays (start h) (omega arith) (omega (arith, some))).0
            ∙ sym (same_number h k (k + 1) (λ p from below. (stays p (omega (arith, from)) (omega (arith, below, some))).1)))
            (λ moved.
            let there : h ≡ half k = is ∙ ap other_half moved.0 ∙ other_twice (half k) in
            let place : start h ≡ start (half k) = ap start there in
            let header = crs.header k (omega (arith, within)) in
            fits.whole (ap (byte k) place ∙ crs.opened k (omega (arith, within)))
            ∙ sym (same_number h k (k + 1) (λ p from below. crs.kept k p within (omega (arith, place, from)) (omega (arith, place, below, header)))))
            (crs.moves k within);
      }
      of false e =
          let changed : low h (k + 1) ≡ low h k → ⊥ = eqb-false (low h (k + 1)) (low h k) e in
          ⊎_elim
          (λ same. absurd (changed same))
          (λ written. record {
            byte = written.1;
            bound = (let r = rose in omega (arith, r));
            taken = λ same. absurd (not_taken same);
            whole = λ opened. ⊎_elim
                (λ still.
                let some = some_size in
                absurd (changed (other_stays k (start h + 8) h within written.0 still.0 still.1 opened (omega arith) (omega (arith, some))).1))
                (λ moved. absurd (not_taken (moved.0 ∙ sym written.0)))
                (crs.moves k within);
          })
          (rising.steps h k within)

  fits_next : (k m : ℕ) (h : Half) → k + 1 < length moments → Fits h k m → Fits h (k + 1) (next_mark h k (k + 1) m) × (m ≤ next_mark h k (k + 1) m)
  fits_next k m h within fits = of (is_half (half (k + 1)) h) refl
    where
      bound : m ≤ (standing k).generation + 1
      bound = fits.bound

      of : (t : Bool) → is_half (half (k + 1)) h ≡ t → Fits h (k + 1) (cond t (standing (k + 1)).generation (cond (low h (k + 1) == low h k) m ((standing k).generation + 1)))
          × (m ≤ cond t (standing (k + 1)).generation (cond (low h (k + 1) == low h k) m ((standing k).generation + 1)))
      of true e =
          let there = half_yes (half (k + 1)) h e in (
            fits_taken (k + 1) h within there,
            ⊎_elim
                (λ still. let was = fits.taken (sym still.0 ∙ there) in let g = still.1 in omega (arith, was, g))
                (λ moved. let g = moved.1 in let b = bound in omega (arith, g, b))
                ((course moments standing are).moves k within),
          )
      of false e =
          (fits_other k m h within (half_no (half (k + 1)) h e) fits, low_one (low h (k + 1) == low h k))
        where
          low_one : (t : Bool) → m ≤ cond t m ((standing k).generation + 1)
          low_one true = omega arith
          low_one false = bound

  fits_first : (h : Half) → Fits h 0 (cond (is_half (half 0) h) (standing 0).generation rising.first)
  fits_first h = of (is_half (half 0) h) refl
    where
      of : (t : Bool) → is_half (half 0) h ≡ t → Fits h 0 (cond t (standing 0).generation rising.first)
      of true e = fits_taken 0 h are.some (half_yes (half 0) h e)
      of false e =
          let there = half_no (half 0) h e in
          subst (λ (x : Half). Fits x 0 rising.first) (sym there)
          (record { byte = rising.first_byte; bound = rising.first_low; taken = λ same. absurd (half_apart (half 0) same); whole = rising.first_whole })

  mark_next : (h : Half) (k : ℕ) → mark h (k + 1) ≡ next_mark h k (k + 1) (mark h k)
  mark_next h k =
      let e : k + 1 ≡ suc k = omega arith in
      ap (mark h) e ∙ ap (λ (n : ℕ). next_mark h k n (mark h k)) (sym e)

  fits_all : (h : Half) (k : ℕ) → k < length moments → Fits h k (mark h k)
  fits_all h k within =
      along (λ (n : ℕ). Fits h n (mark h n)) 0 k (omega arith) (fits_first h)
      (λ n from below so. subst (Fits h (n + 1)) (sym (mark_next h n)) (fits_next n (mark h n) h (omega (arith, below, within)) so).0)

  pub marked : (m : Half → ℕ → ℕ) × AreMarked moments (standing 0).shape m
  marked = (
    (λ h k. mark h k),
    record {
      lowest = λ h k within. (fits_all h k within).byte;
      rises = λ h k within. subst (λ (x : ℕ). mark h k ≤ x) (sym (mark_next h k)) (fits_next k (mark h k) h within (fits_all h k (omega (arith, within)))).1;
      whole = λ h k within opened. (fits_all h k within).whole opened;
    },
  )
