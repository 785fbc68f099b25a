-- What stands is one, and its numbers rise.
use Rattle.std.proofs.Common.{◌≡◌, ◌⊎◌, inl, inr, ℕ, ◌<◌, ◌+◌, ◌*◌, ◌==◌, ◌||◌, Bool, true, false, cond, nat_lt, List, [], ◌∷◌, length, map, refl, sym, ap, ◌∙◌, subst, arith, Result, Ok, Err}
use Rattle.std.proofs.lemmas.Bool.{eq-eqb, eqb-true}
use Rattle.std.proofs.lemmas.List.{length-append, length-take-le}
use Rattle.disk_model.specs.PartLaws.{part_length}
use Rattle.extents.specs.RunLaws.{runs_no_more, runs_some}
use Rattle.journal_layout.specs.Folding.{used_blocks}
use Rattle.journal_layout.specs.Layout.{disk_length}
use Rattle.journal_layout.specs.SpareLaws.{uses-append}
use Rattle.journal_layout.specs.StandLaws.{stands_size}
use Rattle.std.specs.List.{All}
use Rattle.std.proofs.lemmas.List.Elements.{All-nil, All-cons, All-head, All-tail}
use Rattle.journal_layout.specs.declared.shape.Shape.{Shape}
use Rattle.journal_layout.specs.Case.{Case}
use Rattle.journal_layout.specs.Live.{AreLive, IsWhole, HasNoLabel, seq_of_case}
use Rattle.journal_layout.specs.LiveLaws.{stands_live}
use Rattle.journal_layout.specs.LabelledLaws.{no_labels_in_one}
use Rattle.journal_layout.specs.declared.shape.Half.{Half}
use Rattle.journal_layout.specs.declared.shape.Half.TheVariants.{A, B}
use Rattle.journal_layout.specs.declared.faults.OpenFault.{OpenFault}
use Rattle.journal_layout.specs.declared.faults.OpenFault.TheVariants.{NotAnArchive, UnknownVersion}
use Rattle.journal_layout.specs.Front.{Front, Header, is_known, front_opening, halves_opening, headers_opening, half_opening, header_of_half, taken_half, shape_opening}
use Rattle.journal_layout.specs.FrontLaws.{ok_of, ok_in}
use Rattle.journal_layout.specs.Stands.{front_of}
use Rattle.disk_model.specs.Places.{part}
use Rattle.journal_layout.specs.ReadingLaws.{stands_once}
use Rattle.journal_layout.specs.Soundness.{IsLabel, Rise, uses}
use Rattle.intake.specs.Blocks.{block_bytes, block_start, joined}
use Rattle.intake.specs.Durable.{Durable, FoundCase, StandsFor, found_case, durable_in}
use Rattle.intake.specs.Lasting.{HasNumbers, HasEmptyLabel, IsWholeImage, KeepsLabels, number_of}

pub one_stands : (bytes : List ℕ) (x y : Durable) → StandsFor bytes x → StandsFor bytes y → x ≡ y
one_stands bytes x y a b = sym a.is ∙ ap (durable_in bytes) (stands_once bytes a.standing b.standing a.stands b.stands) ∙ b.is

found_below : (shape : Shape) (bytes : List ℕ) (next : ℕ) (cases : List Case) → All (IsWhole next) cases → All (λ (c : FoundCase). c.case.seq < next) (map (found_case shape bytes) cases)
found_below shape bytes next [] each = All-nil (λ (c : FoundCase). c.case.seq < next)
found_below shape bytes next (c ∷ rest) each =
    All-cons (λ (x : FoundCase). x.case.seq < next) (found_case shape bytes c) (map (found_case shape bytes) rest) (All-head (IsWhole next) c rest each).below
    (found_below shape bytes next rest (All-tail (IsWhole next) c rest each))

found_numbers : (shape : Shape) (bytes : List ℕ) (cases : List Case) → map number_of (map (found_case shape bytes) cases) ≡ map seq_of_case cases
found_numbers shape bytes [] = refl
found_numbers shape bytes (c ∷ rest) = ap (λ (l : List ℕ). c.seq ∷ l) (found_numbers shape bytes rest)

pub numbers_above : (bytes : List ℕ) (x : Durable) (a : StandsFor bytes x) → AreLive a.standing.shape.data_blocks a.standing.cases a.standing.next → HasNumbers x
numbers_above bytes x a live = subst HasNumbers a.is (record {
  below = found_below a.standing.shape bytes a.standing.next a.standing.cases live.each;
  rise = subst (Rise 0) (sym (found_numbers a.standing.shape bytes a.standing.cases)) live.rise;
  least = live.some_next;
  greatest = live.numbers;
})

-- the bytes of blocks that lie on the disk
length_below : (shape : Shape) (bytes : List ℕ) → length bytes ≡ disk_length shape → (blocks : List ℕ) → ((k : ℕ) → 0 < uses k blocks → k < shape.data_blocks) → length (joined shape bytes blocks) ≡ 4096 * length blocks
length_below shape bytes long [] below = omega arith
length_below shape bytes long (b ∷ rest) below =
    let here : uses b (b ∷ rest) ≡ 1 + uses b rest = ap (λ (t : Bool). cond t 1 0 + uses b rest) (eq-eqb b b refl) in
    let low = below b (omega (arith, here)) in
    let one : length (block_bytes shape bytes b) ≡ 4096 = part_length bytes (block_start shape b) 4096 (omega (arith, long, low)) in
    let more = length_below shape bytes long rest (λ k some. below k (omega (arith, some))) in
    omega (arith, length-append (block_bytes shape bytes b) (joined shape bytes rest), one, more)

found_whole : (shape : Shape) (bytes : List ℕ) (next : ℕ) → length bytes ≡ disk_length shape → (cases : List Case) → All (IsWhole next) cases → ((k : ℕ) → 0 < uses k (used_blocks cases) → k < shape.data_blocks)
    → All IsWholeImage (map (found_case shape bytes) cases)
found_whole shape bytes next long [] each below = All-nil IsWholeImage
found_whole shape bytes next long (c ∷ rest) each below =
    let enough = (All-head (IsWhole next) c rest each).enough in
    let all = length_below shape bytes long c.blocks (λ k some. below k (omega (arith, some, uses-append k c.blocks (used_blocks rest)))) in
    All-cons IsWholeImage (found_case shape bytes c) (map (found_case shape bytes) rest)
    (record {
      long = length-take-le c.len (joined shape bytes c.blocks) (omega (arith, all, enough));
      runs = (omega (arith, enough, runs_no_more c.blocks), λ some. runs_some c.blocks (omega (arith, enough, some)));
    })
    (found_whole shape bytes next long rest (All-tail (IsWhole next) c rest each) (λ k some. below k (omega (arith, some, uses-append k c.blocks (used_blocks rest)))))

-- the version of what stands is one that is read
half_known : (s : Shape) (half : Half) (h : Header) (t : Front) → half_opening s half h ≡ Ok t → is_known t.version ≡ true
half_known s half h t e =
    let of = ok_in (is_known h.version) (UnknownVersion h.version) (Ok (record { shape = s; half = half; version = h.version; generation = h.generation })) t e in
    let same : record { shape = s; half = half; version = h.version; generation = h.generation } ≡ t = (let is = of.1 in cc) in
    ap (λ (x : Front). is_known x.version) (sym same) ∙ of.0

headers_known : (s : Shape) (a b : Header) (h : Result Half OpenFault) (t : Front) → headers_opening s a b h ≡ Ok t → is_known t.version ≡ true
headers_known s a b (Ok A) t e = half_known s A a t e
headers_known s a b (Ok B) t e = half_known s B b t e
headers_known s a b (Err d) t e = cc

halves_known : (b : List ℕ) (o : Result Shape OpenFault) (t : Front) → halves_opening b o ≡ Ok t → is_known t.version ≡ true
halves_known b (Ok s) t e = headers_known s (header_of_half s b A) (header_of_half s b B) (taken_half s (header_of_half s b A) (header_of_half s b B)) t e
halves_known b (Err d) t e = cc

front_known : (b : List ℕ) (t : Front) → front_opening b ≡ Ok t → is_known t.version ≡ true
front_known b t e =
    halves_known b (shape_opening (length b) (part b 0 24)) t
    (ok_of (nat_lt (length b) 4096) NotAnArchive (halves_opening b (shape_opening (length b) (part b 0 24))) t e)

-- of the two
pub one_or_two : (version : ℕ) → is_known version ≡ true → (version ≡ 1) ⊎ (version ≡ 2)
one_or_two version = of (version == 1) refl
  where
    of : (t : Bool) → (version == 1) ≡ t → (t || version == 2) ≡ true → (version ≡ 1) ⊎ (version ≡ 2)
    of true e known = inl (eqb-true version 1 e)
    of false e known = inr (eqb-true version 2 known)

-- the labels of what is found are those of the cases
found_plain : (shape : Shape) (bytes : List ℕ) (cases : List Case) → All HasNoLabel cases → All HasEmptyLabel (map (found_case shape bytes) cases)
found_plain shape bytes [] each = All-nil HasEmptyLabel
found_plain shape bytes (c ∷ rest) each =
    All-cons HasEmptyLabel (found_case shape bytes c) (map (found_case shape bytes) rest) (All-head HasNoLabel c rest each) (found_plain shape bytes rest (All-tail HasNoLabel c rest each))

found_texts : (shape : Shape) (bytes : List ℕ) (next : ℕ) (cases : List Case) → All (IsWhole next) cases → All (λ (c : FoundCase). IsLabel c.case.label) (map (found_case shape bytes) cases)
found_texts shape bytes next [] each = All-nil (λ (c : FoundCase). IsLabel c.case.label)
found_texts shape bytes next (c ∷ rest) each =
    All-cons (λ (x : FoundCase). IsLabel x.case.label) (found_case shape bytes c) (map (found_case shape bytes) rest) (All-head (IsWhole next) c rest each).label
    (found_texts shape bytes next rest (All-tail (IsWhole next) c rest each))

pub labels_kept : (bytes : List ℕ) (x : Durable) → StandsFor bytes x → KeepsLabels x
labels_kept bytes x a = subst KeepsLabels a.is (record {
  version = one_or_two a.standing.version (front_known bytes (front_of a.standing) a.stands.front);
  none = λ one. found_plain a.standing.shape bytes a.standing.cases (no_labels_in_one bytes a.standing a.stands one);
  labels = found_texts a.standing.shape bytes a.standing.next a.standing.cases (stands_live bytes a.standing a.stands).each;
})

pub images_whole : (bytes : List ℕ) (x : Durable) (a : StandsFor bytes x) → AreLive a.standing.shape.data_blocks a.standing.cases a.standing.next → All IsWholeImage x.cases
images_whole bytes x a live =
    subst (λ (y : Durable). All IsWholeImage y.cases) a.is
    (found_whole a.standing.shape bytes a.standing.next (sym (stands_size bytes a.standing a.stands)) a.standing.cases live.each live.within)
