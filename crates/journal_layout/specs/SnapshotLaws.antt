-- Laws of the records that say some cases and nothing else: they say them, and bytes that hold them are read as them.
use Rattle.std.proofs.Common.{◌≡◌, ◌≢◌, inl, inr, ℕ, ◌+◌, ◌^◌, ◌<◌, ◌≤◌, false, Some, List, [], ◌∷◌, ◌++◌, length, take, drop, map, slice_index, refl, sym, ap, ◌∙◌, subst, arith, append_assoc}
use Rattle.std.specs.List.{AllByRecursion, flat_map}
use Rattle.std.specs.Str.{bytes_eq}
use Rattle.std.proofs.lemmas.Bool.{or_parts, cases_eq, eq-eqb, ne_eqb}
use Rattle.std.proofs.lemmas.List.{take-take, drop-take, take_at, drop_at, length-drop, append-nil}
use Rattle.std.proofs.lemmas.List.Elements.{recursion_from_All}
use Rattle.journal_layout.specs.Case.{Case, unlabelled}
use Rattle.journal_layout.specs.Record.{Record, Store, Next, Label, record_size, spelling}
use Rattle.journal_layout.specs.Folding.{Folded, nothing_yet, with_label, after, replayed, sizes, used_blocks, is_name_of}
use Rattle.journal_layout.specs.Soundness.{IsSound, IsLabel, Rise, uses, case_numbered}
use Rattle.journal_layout.specs.SpareLaws.{uses-append}
use Rattle.journal_layout.specs.SpellLaws.{length-spelling}
use Rattle.journal_layout.specs.Stands.{StandInRow, AreRead}
use Rattle.journal_layout.specs.Live.{seq_of_case, IsWhole, AreNamedApart, AreLive, HasNoLabel, AreLabelled}
use Rattle.journal_layout.specs.LiveLaws.{name_sym, name_push, uses_stored}
use Rattle.journal_layout.specs.Rewriting.{label_records, case_records, snapshot, AreSound}

-- bytes that hold sound records

-- bytes that begin with a join begin with its first list, and after that with its second
front_of_join : (n m : ℕ) (bytes xs ys : List ℕ) → length xs ≡ n → take (n + m) bytes ≡ xs ++ ys → take n bytes ≡ xs
front_of_join n m bytes xs ys long e =
    sym (take-take n (n + m) bytes (omega arith)) ∙ ap (take n) e ∙ take_at xs ys n long

back_of_join : (n m : ℕ) (bytes xs ys : List ℕ) → length xs ≡ n → take (n + m) bytes ≡ xs ++ ys → take m (drop n bytes) ≡ ys
back_of_join n m bytes xs ys long e = sym (drop-take n m bytes) ∙ ap (drop n) e ∙ drop_at xs ys n long

-- sound records that are spelled one after another are in a row
pub row_spelled : (limit : ℕ) (bytes : List ℕ) (f : Folded) (rs : List Record) → AreSound limit f rs → sizes rs + 1 ≤ length bytes
    → take (sizes rs) bytes ≡ flat_map spelling rs → StandInRow limit bytes f rs
row_spelled limit bytes f [] sound in_half e = tt
row_spelled limit bytes f (r ∷ rest) sound in_half e =
    let n = record_size r in
    let long = length-spelling r in (
      record {
        spelled = front_of_join n (sizes rest) bytes (spelling r) (flat_map spelling rest) long e;
        in_half = omega arith;
        sound = sound.0;
      },
      row_spelled limit (drop n bytes) (after r f) rest sound.1 (omega (arith, length-drop n bytes))
          (back_of_join n (sizes rest) bytes (spelling r) (flat_map spelling rest) long e),
    )

-- and are read, if a gate after them is not open
pub read_spelled : (limit : ℕ) (bytes : List ℕ) (f : Folded) (rs : List Record) → AreSound limit f rs → sizes rs + 1 ≤ length bytes
    → take (sizes rs) bytes ≡ flat_map spelling rs → slice_index bytes (sizes rs) ≢ 165 → AreRead limit bytes f (replayed rs f) (sizes rs)
read_spelled limit bytes f rs sound in_half e closed = record {
  records = rs;
  row = row_spelled limit bytes f rs sound in_half e;
  closed = closed;
  folded = refl;
  size = refl;
}

-- the records of live cases

-- The cases `done` have their records already, and `last` is the number of the last of them. The rest may follow them.
record MayFollow (limit version next last : ℕ) (done rest : List Case) : Type 0 where
  numbers : next ≤ 2 ^ 32
  low : last + 1 ≤ next
  before : AllByRecursion (λ (c : Case). c.seq ≤ last) done
  each : AllByRecursion (IsWhole next) rest
  labels : version ≢ 2 → AllByRecursion HasNoLabel rest
  rise : Rise last (map seq_of_case rest)
  once : (k : ℕ) → uses k (used_blocks done) + uses k (used_blocks rest) ≤ 1
  within : (k : ℕ) → 0 < uses k (used_blocks rest) → k < limit
  different : AreNamedApart rest
  new : AllByRecursion (λ (c : Case). is_name_of done c.origin.name ≡ false) rest

-- these cases and this next number, in this version
abbrev told : ℕ → List Case → ℕ → Folded
told version cases next = record { version = version; cases = cases; next = next }

-- a case after others of other numbers

-- it is found by its number
last_found : (c : Case) (done : List Case) → AllByRecursion (λ (d : Case). d.seq ≢ c.seq) done → case_numbered c.seq (done ++ c ∷ []) ≡ Some c
last_found c [] others = rw (eq-eqb c.seq c.seq refl) refl
last_found c (d ∷ rest) others = rw (ne_eqb d.seq c.seq others.0) (last_found c rest others.1)

-- and gets its label
last_labelled : (c : Case) (done : List Case) → AllByRecursion (λ (d : Case). d.seq ≢ c.seq) done
    → with_label c.seq c.label (done ++ unlabelled c ∷ []) ≡ done ++ c ∷ []
last_labelled c [] others = rw (eq-eqb c.seq c.seq refl) refl
last_labelled c (d ∷ rest) others = rw (ne_eqb d.seq c.seq others.0) (ap (λ (l : List Case). d ∷ l) (last_labelled c rest others.1))

module _ (limit version next last : ℕ) (c : Case) (done rest : List Case) (may : MayFollow limit version next last done (c ∷ rest)) where
  first_sound : IsSound limit (told version done (last + 1)) (Store (unlabelled c))
  first_sound =
      let whole = may.each.0 in
      let numbers = may.numbers in
      let below = whole.below in (
        omega (arith, may.rise.0),
        omega arith,
        record {
          origin = whole.origin;
          new_name = may.new.0;
          bytes = whole.bytes;
          enough = whole.enough;
          spare = λ k some. (
            may.within k (omega (arith, uses-append k c.blocks (used_blocks rest))),
            omega (arith, may.once k, uses-append k c.blocks (used_blocks rest)),
            omega (arith, may.once k, uses-append k c.blocks (used_blocks rest)),
          );
          no_label = refl;
        },
      )

  others : (l : List Case) → AllByRecursion (λ (d : Case). d.seq ≤ last) l → AllByRecursion (λ (d : Case). d.seq ≢ c.seq) l
  others [] each = tt
  others (d ∷ l) each = ((λ e. omega (arith, each.0, e, may.rise.0)), others l each.1)

  -- a label that is not empty is kept by this version
  version_two : (b : ℕ) (text : List ℕ) → c.label ≡ b ∷ text → version ≡ 2
  version_two b text is =
      elim (cases_eq version 2) as (λ _. version ≡ 2) [
        | inl two ↦ two
        | inr other ↦ absurd (clash (sym is ∙ (may.labels other).0))
      ]
    where
      clash : b ∷ text ≡ [] → ⊥
      clash e = cc

  label_first : (b : ℕ) (text : List ℕ) → c.label ≡ b ∷ text → IsSound limit (told version (done ++ unlabelled c ∷ []) (c.seq + 1)) (Label c.seq (b ∷ text))
  label_first b text is =
      let whole = may.each.0 in
      let numbers = may.numbers in
      let below = whole.below in (
        version_two b text is,
        omega arith,
        (unlabelled c, last_found (unlabelled c) done (others done may.before)),
        subst IsLabel is whole.label,
      )

  -- the records of the case are sound, and say it after the others
  case_said : (more : List Record) (text : List ℕ) → c.label ≡ text
      → (AreSound limit (told version (done ++ c ∷ []) (c.seq + 1)) more → AreSound limit (told version done (last + 1)) (Store (unlabelled c) ∷ (label_records c.seq text ++ more)))
      × (replayed (Store (unlabelled c) ∷ (label_records c.seq text ++ more)) (told version done (last + 1)) ≡ replayed more (told version (done ++ c ∷ []) (c.seq + 1)))
  case_said more [] is =
      let same : unlabelled c ≡ c = ap (λ (l : List ℕ). let d : Case = record c { label = l } in d) (sym is) in (
        λ sound. (first_sound, subst (λ (d : Case). AreSound limit (told version (done ++ d ∷ []) (c.seq + 1)) more) (sym same) sound),
        ap (λ (d : Case). replayed more (told version (done ++ d ∷ []) (c.seq + 1))) same,
      )
  case_said more (b ∷ text) is =
      let same : with_label c.seq (b ∷ text) (done ++ unlabelled c ∷ []) ≡ done ++ c ∷ [] =
      ap (λ (l : List ℕ). with_label c.seq l (done ++ unlabelled c ∷ [])) (sym is) ∙ last_labelled c done (others done may.before) in (
        λ sound. (first_sound, (label_first b text is, subst (λ (l : List Case). AreSound limit (told version l (c.seq + 1)) more) (sym same) sound)),
        ap (λ (l : List Case). replayed more (told version l (c.seq + 1))) same,
      )

  new_behind : (l : List Case) → is_name_of l c.origin.name ≡ false → AllByRecursion (λ (d : Case). is_name_of done d.origin.name ≡ false) l
      → AllByRecursion (λ (d : Case). is_name_of (done ++ c ∷ []) d.origin.name ≡ false) l
  new_behind [] none each = tt
  new_behind (d ∷ l) none each =
      let h = or_parts (bytes_eq d.origin.name c.origin.name) (is_name_of l c.origin.name) none in
      (name_push done c d.origin.name each.0 (name_sym d.origin.name c.origin.name h.0), new_behind l h.1 each.1)

  before_rest : (l : List Case) → AllByRecursion (λ (d : Case). d.seq ≤ last) l → AllByRecursion (λ (d : Case). d.seq ≤ c.seq) (l ++ c ∷ [])
  before_rest [] each = (omega arith, tt)
  before_rest (d ∷ l) each = (omega (arith, each.0, may.rise.0), before_rest l each.1)

  rest_follows : MayFollow limit version next c.seq (done ++ c ∷ []) rest
  rest_follows = record {
    numbers = may.numbers;
    low = (let below = may.each.0.below in omega arith);
    before = before_rest done may.before;
    each = may.each.1;
    labels = λ other. (may.labels other).1;
    rise = may.rise.1;
    once = λ k. omega (arith, may.once k, uses_stored k done c, uses-append k c.blocks (used_blocks rest));
    within = λ k some. may.within k (omega (arith, uses-append k c.blocks (used_blocks rest)));
    different = may.different.1;
    new = new_behind rest may.different.0 may.new.1;
  }

-- the records of those that are left are sound, and say them after the others
follow : (limit version next last : ℕ) (done rest : List Case) → MayFollow limit version next last done rest
    → AreSound limit (told version done (last + 1)) (flat_map case_records rest ++ Next next ∷ [])
    × (replayed (flat_map case_records rest ++ Next next ∷ []) (told version done (last + 1)) ≡ told version (done ++ rest) next)
follow limit version next last done [] may =
    (((may.low, may.numbers), tt), ap (λ (l : List Case). told version l next) (sym (append-nil done)))
follow limit version next last done (c ∷ rest) may =
    let behind = follow limit version next c.seq (done ++ c ∷ []) rest (rest_follows limit version next last c done rest may) in
    let more : List Record = flat_map case_records rest ++ Next next ∷ [] in
    let here = case_said limit version next last c done rest may more c.label refl in
    let joined : flat_map case_records (c ∷ rest) ++ Next next ∷ [] ≡ case_records c ++ more = append_assoc (case_records c) (flat_map case_records rest) (Next next ∷ []) in (
      subst (AreSound limit (told version done (last + 1))) (sym joined) (here.0 behind.0),
      ap (λ (l : List Record). replayed l (told version done (last + 1))) joined
          ∙ here.1
          ∙ behind.1
          ∙ ap (λ (l : List Case). told version l next) (append_assoc done (c ∷ []) rest),
    )

-- The records of live cases are sound from the first one on, and say exactly these cases and this next number.
pub a_snapshot_says_all : (limit : ℕ) (f : Folded) → AreLive limit f.cases f.next → AreLabelled f.version f.cases
    → AreSound limit (nothing_yet f.version) (snapshot f) × (replayed (snapshot f) (nothing_yet f.version) ≡ f)
a_snapshot_says_all limit f live labels =
    follow limit f.version f.next 0 [] f.cases (record {
      numbers = live.numbers;
      low = live.some_next;
      before = tt;
      each = recursion_from_All (IsWhole f.next) f.cases live.each;
      labels = λ other. recursion_from_All HasNoLabel f.cases (labels other);
      rise = live.rise;
      once = λ k. omega (arith, live.once k);
      within = live.within;
      different = live.different;
      new = none f.cases;
    })
  where
    none : (l : List Case) → AllByRecursion (λ (c : Case). is_name_of [] c.origin.name ≡ false) l
    none [] = tt
    none (c ∷ l) = (refl, none l)

-- bytes that hold them, and a gate after them that is not open, are read as these cases
pub a_snapshot_is_read : (limit : ℕ) (bytes : List ℕ) (f : Folded) → AreLive limit f.cases f.next → AreLabelled f.version f.cases → sizes (snapshot f) + 1 ≤ length bytes
    → take (sizes (snapshot f)) bytes ≡ flat_map spelling (snapshot f) → slice_index bytes (sizes (snapshot f)) ≢ 165
    → AreRead limit bytes (nothing_yet f.version) f (sizes (snapshot f))
a_snapshot_is_read limit bytes f live labels in_half spelled closed =
    let all = a_snapshot_says_all limit f live labels in
    subst (λ (g : Folded). AreRead limit bytes (nothing_yet f.version) g (sizes (snapshot f))) all.1
    (read_spelled limit bytes (nothing_yet f.version) (snapshot f) all.0 in_half spelled closed)
