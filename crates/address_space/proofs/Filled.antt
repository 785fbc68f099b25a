-- What the first bytes of an image show of its addresses.
use Rattle.std.proofs.Common.{◌≡◌, ◌<◌, ◌≤◌, ℕ, ◌+◌, ◌-◌, leb, ltb, cond, Bool, true, false, List, [], ◌∷◌, length, map, take, drop, min, Option, None, Some, refl, sym, ap, subst, ◌∙◌, arith, inl, inr}
use Rattle.std.specs.List.{AllByRecursion}
use Rattle.std.specs.Option.{option_map}
use Rattle.std.proofs.lemmas.Bool.{and_parts, cond-true, cond-false, cases_Bool, leb-true, lt-leb}
use Rattle.std.proofs.lemmas.List.{drop-take, take-take, drop-drop, length-take, length-drop, take_all}
use Rattle.std.proofs.lemmas.Option.{same_Some, none-some}
use Rattle.elf_view.specs.Field.{part}
use Rattle.elf_view.specs.Front.{headed}
use Rattle.elf_view.specs.Header.{SegmentView, segment_at, segment_from, segments_of}
use Rattle.elf_view.specs.Sound.{IsHeaderWhole}
use Rattle.elf_view.specs.ViewWords.{image_of}
use Rattle.core_notes.specs.FileList.{FileView}
use Rattle.address_space.specs.Source.{Space, held, content_by, cut_off, decider, dumped, nowhere, entry_at, executable_named, first_from, is_covering, place_at, placed, span, undumped}
use Rattle.address_space.specs.Pieces.{same_number}
use Rattle.address_space.specs.Ranges.{IsAlike, IsStretch, place_number}
use Rattle.address_space.specs.Whole.{AreHeldWithin, IsFrontOf, IsHeldWithin, filled, space_in}
use Rattle.address_space.specs.StretchWords.{IsFrom, IsWithin}
use Rattle.address_space.specs.SpaceWords.{space_of}
use Rattle.address_space.specs.declared.space.AddressSpace.{AddressSpace}
use Rattle.address_space.specs.declared.source.StretchKind as kinds
use Rattle.address_space.specs.declared.source.StretchKind.TheVariants as kind
use Rattle.address_space.proofs.Places.{extended, found_among, located_some, nowhere_all, place_from, placed_number}
use Rattle.address_space.proofs.Values.{found_passes}

abbrev headed_too : ℕ × SegmentView → ℕ × SegmentView
headed_too d = (d.0, headed d.1)

abbrev pub filled_too : List ℕ → ℕ × SegmentView → ℕ × SegmentView
filled_too b d = (d.0, filled b d.1)

-- which header covers an address, its bytes don't tell
first_headed : (a i : ℕ) (ss : List SegmentView) → option_map headed_too (first_from (is_covering a) i ss) ≡ first_from (is_covering a) i (map headed ss)
first_headed a i [] = refl
first_headed a i (s ∷ ss) =
    elim (is_covering a s) as (λ t. option_map headed_too (cond t (Some (i, s)) (first_from (is_covering a) (i + 1) ss)) ≡ cond t (Some (i, headed s)) (first_from (is_covering a) (i + 1) (map headed ss))) [
      | true ↦ refl
      | false ↦ first_headed a (i + 1) ss
    ]

segment_filled : (b : List ℕ) (p : ℕ) → (segment_from b p).bytes ≡ part b (segment_from b p).offset (segment_from b p).filesz
unfolding segment_from
segment_filled b p = refl

-- what is found of an image's headers has the bytes of its file range
found_filled : (b : List ℕ) (a : ℕ) (o : Option (ℕ × SegmentView)) → first_from (is_covering a) 0 (segments_of b) ≡ o → o ≡ option_map (filled_too b) o
found_filled b a None is = refl
found_filled b a (Some d) is =
    let bytes = found_among (λ (s : SegmentView). s.bytes ≡ part b s.offset s.filesz) (segment_at b) (λ k. segment_filled b _) (is_covering a) 0 0 _ d is in
    ap (λ x. let s : SegmentView = record d.1 { bytes = x } in Some (d.0, s)) bytes

refilled : (b : List ℕ) (o : Option (ℕ × SegmentView)) → option_map (filled_too b) (option_map headed_too o) ≡ option_map (filled_too b) o
refilled b None = refl
refilled b (Some d) = refl

module _ (f b : List ℕ) (same : map headed (segments_of f) ≡ map headed (segments_of b)) where
  pub first_in : (a : ℕ) → first_from (is_covering a) 0 (segments_of b) ≡ option_map (filled_too b) (first_from (is_covering a) 0 (segments_of f))
  first_in a =
      let x = first_from (is_covering a) 0 (segments_of f) in
      let y = first_from (is_covering a) 0 (segments_of b) in
      let heads : option_map headed_too y ≡ option_map headed_too x = first_headed a 0 (segments_of b) ∙ ap (first_from (is_covering a) 0) (sym same) ∙ sym (first_headed a 0 (segments_of f)) in
      found_filled b a y refl ∙ sym (refilled b y) ∙ ap (option_map (filled_too b)) heads ∙ refilled b x

  pub decider_in : (space : Space) → space.segments ≡ segments_of f → (a : ℕ) → decider (space_in b space) a ≡ option_map (filled_too b) (decider space a)
  unfolding decider
  decider_in space is a = first_in a ∙ ap (λ ss. option_map (filled_too b) (first_from (is_covering a) 0 ss)) (sym is)

-- the same headers are found in a row
numbers_kept : (b : List ℕ) (x y : Option (ℕ × SegmentView)) → same_number (option_map (filled_too b) x) (option_map (filled_too b) y) ≡ same_number x y
numbers_kept b None None = refl
numbers_kept b None (Some y) = refl
numbers_kept b (Some x) None = refl
numbers_kept b (Some x) (Some y) = refl

alike_filled : (b : List ℕ) (first other : ℕ → Option (ℕ × SegmentView)) → ((a : ℕ) → other a ≡ option_map (filled_too b) (first a)) → (a limit n : ℕ) → IsAlike first a limit n → IsAlike other a limit n
alike_filled b first other is a limit n alike = record {
  some = alike.some;
  within = alike.within;
  same = λ k h. is (a + k) ∙ ap (option_map (filled_too b)) (alike.same k h) ∙ sym (is a);
  longest = λ h. ap (λ x. same_number x (other (a + n))) (is a) ∙ ap (same_number (option_map (filled_too b) (first a))) (is (a + n)) ∙ numbers_kept b (first a) (first (a + n)) ∙ alike.longest h;
}

-- an address without a byte in the core is shown alike by every image
filed_in : (b : List ℕ) (space : Space) (a i : ℕ) (e : Option (ℕ × FileView)) → undumped (space_in b space) a i e ≡ undumped space a i e
unfolding executable_named
filed_in b space a i None = refl
filed_in b space a i (Some e) = refl

entries_in : (b : List ℕ) (space : Space) (a : ℕ) → entry_at (space_in b space).files a ≡ entry_at space.files a
unfolding entry_at
entries_in b space a = refl

undumped_in : (b : List ℕ) (space : Space) (a i : ℕ) → undumped (space_in b space) a i (entry_at (space_in b space).files a) ≡ undumped space a i (entry_at space.files a)
undumped_in b space a i = ap (undumped (space_in b space) a i) (entries_in b space a) ∙ filed_in b space a i (entry_at space.files a)

pub placed_in : (b : List ℕ) (space : Space) (a : ℕ) (o : Option (ℕ × SegmentView)) → placed (space_in b space) a o ≡ placed space a o
placed_in b space a None = refl
placed_in b space a (Some d) = ap (λ p. cond (leb d.1.filesz (a - d.1.vaddr)) p (cond (leb (length d.1.bytes) (a - d.1.vaddr)) (cut_off d.0) (dumped d.0 d.1))) (undumped_in b space a d.0)

pub stretch_in : (b : List ℕ) (space : Space) (o : Option (ℕ × SegmentView)) (a limit n : ℕ) → IsStretch (λ c. placed space c o) a limit n → IsStretch (λ c. placed (space_in b space) c o) a limit n
stretch_in b space o a limit n s =
    let zero : a + 0 ≡ a = omega arith in
    extended (λ c. placed (space_in b space) c o) (λ c. placed space c o) a limit limit n s (λ k h. placed_in b space (a + k) o) (omega arith) (λ h. absurd (omega (arith, h)))

-- What an address in the file range of a segment shows.
pub part_within : (b : List ℕ) (o w p n : ℕ) → p + n ≤ w → part (part b o w) p n ≡ part b (o + p) n
part_within b o w p n h =
    let whole : w ≡ p + (w - p) = omega arith in
    ap (λ k. take n (drop p (take k (drop o b)))) whole
    ∙ ap (take n) (drop-take p (w - p) (drop o b))
    ∙ take-take n (w - p) (drop p (drop o b)) (omega arith)
    ∙ ap (take n) (drop-drop p o b)

pub part_long : (b : List ℕ) (o w : ℕ) → length (part b o w) ≡ min w (length b - o)
part_long b o w = length-take w (drop o b) ∙ ap (min w) (length-drop o b)

-- bytes that the image has
pub core_content : (b : List ℕ) (space : Space) (i : ℕ) (s : SegmentView) (a n size : ℕ) → length b ≡ size → a - s.vaddr < s.filesz → a - s.vaddr < min s.filesz (size - s.offset) → n ≤ min s.filesz (size - s.offset) - (a - s.vaddr)
    → content_by (λ bytes k. part bytes k n) a (placed space a (Some (i, filled b s))) ≡ held (part b (s.offset + (a - s.vaddr)) n)
core_content b space i s a n size long file low few =
    let all = part_long b s.offset s.filesz in
    let here : placed space a (Some (i, filled b s)) ≡ dumped i (filled b s) =
    cond-false (leb s.filesz (a - s.vaddr)) _ _ (lt-leb s.filesz (a - s.vaddr) file)
    ∙ cond-false (leb (length (part b s.offset s.filesz)) (a - s.vaddr)) _ _ (lt-leb (length (part b s.offset s.filesz)) (a - s.vaddr) (omega (arith, all, long, low))) in
    ap (content_by (λ bytes k. part bytes k n) a) here
    ∙ ap held (part_within b s.offset s.filesz (a - s.vaddr) n (omega (arith, few, low)))

-- The place of an address in an image of which the space has the first bytes.
module _ (f b : List ℕ) (same : map headed (segments_of f) ≡ map headed (segments_of b)) (space : Space) (is : space.segments ≡ segments_of f) (a limit m : ℕ) (alike : IsAlike (decider space) a limit m) where
  decided_in : (o : Option (ℕ × SegmentView)) → decider space a ≡ o → decider (space_in b space) a ≡ option_map (filled_too b) o
  decided_in o found = decider_in f b same space is a ∙ ap (option_map (filled_too b)) found

  alike_in : IsAlike (decider (space_in b space)) a limit m
  alike_in = alike_filled b (decider space) (decider (space_in b space)) (decider_in f b same space is) a limit m alike

  pub nowhere_in : decider space a ≡ None → IsStretch (place_at (space_in b space)) a limit m
  nowhere_in none = located_some (space_in b space) a limit m m None (decided_in None none) alike_in (nowhere_all (space_in b space) a m alike.some)

  pub nowhere_here : decider space a ≡ None → place_at (space_in b space) a ≡ nowhere
  nowhere_here none = place_from (space_in b space) a None (decided_in None none)

  module _ (d : ℕ × SegmentView) (found : decider space a ≡ Some d) where
    pub decided_stretch : (n : ℕ) → IsStretch (λ c. placed space c (Some (d.0, filled b d.1))) a m n → IsStretch (place_at (space_in b space)) a limit n
    decided_stretch n s = located_some (space_in b space) a limit m n (Some (filled_too b d)) (decided_in (Some d) found) alike_in (stretch_in b space (Some (filled_too b d)) a m n s)

    pub decided_here : place_at (space_in b space) a ≡ placed space a (Some (d.0, filled b d.1))
    decided_here = place_from (space_in b space) a (Some (filled_too b d)) (decided_in (Some d) found) ∙ placed_in b space a (Some (filled_too b d))

    pub decided_number : place_number (place_at (space_in b space) a) ≡ Some d.0
    decided_number = ap place_number decided_here ∙ placed_number space a (Some (filled_too b d))

-- what holds of each header holds of the one that is found
found_of : {A : Type 0} (P : A → Type 0) (test : A → Bool) (i : ℕ) (xs : List A) (d : ℕ × A) → AllByRecursion P xs → first_from test i xs ≡ Some d → P d.1
found_of P test i [] d all h = absurd (none-some d h)
found_of {A = A} P test i (x ∷ xs) d all h =
    elim (cases_Bool (test x)) as (λ _. P d.1) [
      | inl passes ↦ subst (λ (e : ℕ × A). P e.1) (same_Some (i, x) d (sym (cond-true (test x) _ _ passes) ∙ h)) all.0
      | inr fails ↦ found_of P test (i + 1) xs d all.1 (sym (cond-false (test x) _ _ fails) ∙ h)
    ]

covered : (space : Space) (a : ℕ) (d : ℕ × SegmentView) → decider space a ≡ Some d → is_covering a d.1 ≡ true
unfolding decider
covered space a d h = found_passes (is_covering a) 0 space.segments d h

above : (a : ℕ) (s : SegmentView) → is_covering a s ≡ true → s.vaddr ≤ a
above a s h = leb-true s.vaddr a (and_parts (leb s.vaddr a) (ltb a (s.vaddr + span s)) h).0

-- The bytes of addresses of one place are where those of each header are.
module _ (space : Space) (size a limit m n start past : ℕ) (all : AreHeldWithin size a limit start past space.segments) (alike : IsAlike (decider space) a limit m) (d : ℕ × SegmentView) (found : decider space a ≡ Some d) (some : 0 < n) (within : n ≤ m) where
  held_here : IsHeldWithin size a limit start past d.1
  unfolding decider
  held_here = found_of (IsHeldWithin size a limit start past) (is_covering a) 0 space.segments d all found

  pub stands_within : (k : kinds.StretchKind) → IsFrom size d.1 a n k → IsWithin start past n k
  stands_within (kind.Core offset) from =
      let low = above a d.1 (covered space a d found) in
      let bound = alike.within in
      let place = from.0 in
      let file = from.1 in
      let image = from.2 in
      let first = held_here a (omega arith) (omega (arith, some, within, bound)) (covered space a d found) (omega (arith, file, some)) (omega (arith, place, image, some)) in
      let last = held_here (a + (n - 1)) (omega arith) (omega (arith, some, within, bound)) (covered space (a + (n - 1)) d (alike.same (n - 1) (omega (arith, some, within)) ∙ found))
      (omega (arith, low, file, some)) (omega (arith, low, place, image, some)) in
      (omega (arith, place, first.0), omega (arith, low, place, last.1, some))
  stands_within (kind.FromFile bytes) from = tt
  stands_within (kind.NotDumped spot) from = tt
  stands_within kind.Cut from = tt
  stands_within kind.Unmapped from = tt

-- the headers are those of the first bytes
pub front_headed : (f b : List ℕ) → f ≡ take (length f) b → IsHeaderWhole f → ((x : List ℕ) (n : ℕ) → IsHeaderWhole (take n x) → map headed (segments_of (take n x)) ≡ map headed (segments_of x)) → map headed (segments_of f) ≡ map headed (segments_of b)
front_headed f b is whole law = ap (λ x. map headed (segments_of x)) is ∙ law b (length f) (subst IsHeaderWhole is whole)

pub own_segments : (s : AddressSpace) → (space_of s).segments ≡ segments_of (image_of s.elf)
unfolding space_of
own_segments s = refl

-- an image is all of itself
pub own_front : (f b : List ℕ) → b ≡ f → IsFrontOf f (length b) b
own_front f b is = (refl, sym is ∙ sym (take_all (length f) b (let same = ap length is in omega (arith, same))))

-- the space of its own image
pub own_space : (s : AddressSpace) (b : List ℕ) → b ≡ image_of s.elf → space_in b (space_of s) ≡ space_of s
unfolding space_of
own_space s b is = ap (λ x. let t : Space = record (space_of s) { segments = segments_of x } in t) is

-- Of fewer addresses, and between places further apart.
still_within : (size first n start past from upto : ℕ) (s : SegmentView) → IsHeldWithin size first n start past s → from ≤ start → past ≤ upto → IsHeldWithin size first n from upto s
still_within size first n start past from upto s lies low high a after before covers file image =
    let both = lies a after before covers file image in (omega (arith, low, both.0), omega (arith, high, both.1))

pub one_more_within : (size first n start past from upto : ℕ) (s : SegmentView) (ss all : List SegmentView) → all ≡ s ∷ ss → IsHeldWithin size first n start past s → from ≤ start → past ≤ upto → AreHeldWithin size first n from upto ss → AreHeldWithin size first n from upto all
one_more_within size first n start past from upto s ss all is lies low high others =
    subst (AreHeldWithin size first n from upto) (sym is) (still_within size first n start past from upto s lies low high, others)

pub none_within : (size first n start past : ℕ) (all : List SegmentView) → all ≡ [] → AreHeldWithin size first n start past all
none_within size first n start past all is = subst (AreHeldWithin size first n start past) (sym is) tt

pub narrowed : (size first n other m start past : ℕ) → ((a : ℕ) → other ≤ a → a < other + m → (first ≤ a) × (a < first + n)) → (ss : List SegmentView) → AreHeldWithin size first n start past ss → AreHeldWithin size other m start past ss
narrowed size first n other m start past fits [] all = tt
narrowed size first n other m start past fits (s ∷ ss) all =
    (λ a after before. all.0 a (fits a after before).0 (fits a after before).1, narrowed size first n other m start past fits ss all.1)

pub widened : (size first n start past from upto : ℕ) (ss : List SegmentView) → from ≤ start → past ≤ upto → AreHeldWithin size first n start past ss → AreHeldWithin size first n from upto ss
widened size first n start past from upto [] low high all = tt
widened size first n start past from upto (s ∷ ss) low high all = (still_within size first n start past from upto s all.0 low high, widened size first n start past from upto ss low high all.1)
