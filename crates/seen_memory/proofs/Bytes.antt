-- The value of one address, by where its byte is.
use Rattle.std.proofs.Common.{◌≡◌, ◌<◌, ◌≤◌, ℕ, ◌+◌, ◌-◌, ◌^◌, List, [], ◌∷◌, length, map, take, drop, get_or, Option, None, Some, refl, sym, ap, subst, ◌∙◌, arith}
use Rattle.std.specs.List.{AllByRecursion}
use Rattle.std.specs.Option.{option_map}
use Rattle.std.proofs.lemmas.List.{get_or-take, get_or-drop}
use Rattle.elf_view.specs.Field.{part}
use Rattle.elf_view.specs.Front.{headed}
use Rattle.elf_view.specs.Header.{SegmentView, segments_of}
use Rattle.elf_view.specs.Sound.{IsHeaderWhole, IsLoadable, IsSound}
use Rattle.elf_view.specs.declared.faults.Want.{Want}
use Rattle.address_space.specs.Source.{Content, Place, Space, content_by, cut, cut_off, decider, dumped, first_from, from_file, held, in_file, is_covering, not_dumped, nowhere, place_at, spot_in, unmapped, unwritten, value_at, value_of}
use Rattle.address_space.specs.Pieces.{PieceView, content_from, piece_of, pieces_of, stretches}
use Rattle.address_space.specs.StretchWords.{IsWithin, piece_in, shown_in}
use Rattle.address_space.specs.Whole.{AreHeldWithin, IsFrontOf, space_in}
use Rattle.address_space.specs.declared.source.Stretch.{Stretch}
use Rattle.address_space.proofs.Filled.{filled_too, first_in}
use Rattle.address_space.proofs.Finding.{nothing_past}

-- a byte of some of the bytes
pub byte_of_part : (b : List ℕ) (p n k : ℕ) → k < n → get_or (part b p n) k 0 ≡ get_or b (p + k) 0
byte_of_part b p n k h = get_or-take n (drop p b) k 0 h ∙ get_or-drop p b k 0

first_byte : (b : List ℕ) (p : ℕ) → get_or b p 0 ≡ get_or (part b p 1) 0 0
first_byte b p = let e : p ≡ p + 0 = omega arith in ap (λ k. get_or b k 0) e ∙ sym (byte_of_part b p 1 0 (omega arith))

-- one byte of what there is
abbrev pub one_of : Content (List ℕ) → Content ℕ
one_of (held b) = held (get_or b 0 0)
one_of (from_file b) = from_file (get_or b 0 0)
one_of (not_dumped e) = not_dumped e
one_of cut = cut
one_of unmapped = unmapped

one_content : (p : Place) (a : ℕ) → content_by (λ b k. get_or b k 0) a p ≡ one_of (content_by (λ b k. part b k 1) a p)
one_content nowhere a = refl
one_content (dumped i s) a = ap held (first_byte s.bytes (a - s.vaddr))
one_content (cut_off i) a = refl
one_content (unwritten i e) a = refl
one_content (in_file i e x) a = ap from_file (first_byte x (spot_in a e.1).offset)

pub value_is : (space : Space) (a : ℕ) (content : Content (List ℕ)) → content_from space a 1 ≡ content → value_at space a ≡ value_of (one_of content)
value_is space a content is = ap value_of (one_content (place_at space a) a ∙ ap one_of is)

-- an address is one piece
pub one_piece : (space : Space) (a : ℕ) → pieces_of space a 1 ≡ piece_of space (a, 1) ∷ []
unfolding pieces_of stretches
one_piece space a = refl

-- all of an image is within it
pub all_within : (size first n : ℕ) (ss : List SegmentView) → AreHeldWithin size first n 0 size ss
all_within size first n [] = tt
all_within size first n (s ∷ ss) = ((λ a after before covers file image. (omega arith, image)), all_within size first n ss)

-- the flags of the segment that decides an address, of which the bytes tell nothing
pub flags_filled : (b : List ℕ) (o : Option (ℕ × SegmentView)) → option_map (λ (d : ℕ × SegmentView). d.1.flags) o ≡ option_map (λ (d : ℕ × SegmentView). d.1.flags) (option_map (filled_too b) o)
flags_filled b None = refl
flags_filled b (Some d) = refl

pub flags_in : (f b : List ℕ) (space : Space) (a : ℕ) → space.segments ≡ segments_of f → map headed (segments_of f) ≡ map headed (segments_of b)
    → option_map (λ (d : ℕ × SegmentView). d.1.flags) (decider space a) ≡ option_map (λ (d : ℕ × SegmentView). d.1.flags) (decider (space_in b space) a)
unfolding decider
flags_in f b space a is same =
    let o = first_from (is_covering a) 0 (segments_of f) in
    ap (λ (ss : List SegmentView). option_map (λ (d : ℕ × SegmentView). d.1.flags) (first_from (is_covering a) 0 ss)) is
    ∙ flags_filled b o
    ∙ ap (option_map (λ (d : ℕ × SegmentView). d.1.flags)) (sym (first_in f b same a))

-- An address after 2^64 - 1 has no value in an image that begins as a sound one.
pub past_the_end : (f b : List ℕ) (want : Want) (space : Space) (a : ℕ) → f ≡ take (length f) b → IsHeaderWhole f → IsSound want f
    → ((w : Want) (x : List ℕ) (n : ℕ) → IsHeaderWhole (take n x) → IsSound w (take n x) → IsSound w x)
    → ((w : Want) (x : List ℕ) → IsSound w x → AllByRecursion (λ (s : SegmentView). s.kind ≡ 1 → IsLoadable s) (segments_of x))
    → 2 ^ 64 ≤ a → value_at (space_in b space) a ≡ None
past_the_end f b want space a front whole sound law fit high =
    nothing_past (space_in b space) a (fit want b (law want b (length f) (subst IsHeaderWhole front whole) (subst (IsSound want) front sound))) high

-- an image that begins with the bytes at hand begins with those of the stretches
pub front_by : (front core first : List ℕ) (size count : ℕ) (b : List ℕ) → front ≡ core → first ≡ core → count ≡ size → IsFrontOf front size b → IsFrontOf first count b
front_by front core first size count b own is same begins =
    subst (λ n. IsFrontOf first n b) (sym same) (subst (λ f. IsFrontOf f size b) (own ∙ sym is) begins)

-- the stretch of one address is its piece
one_stretch : (b : List ℕ) (space : Space) (a : ℕ) (s : Stretch) (left : List PieceView) (others : List PieceView) → left ≡ pieces_of space a 1 → left ≡ piece_in b s ∷ others → piece_of space (a, 1) ≡ piece_in b s
one_stretch b space a s left others are first =
    let both : piece_of space (a, 1) ∷ [] ≡ piece_in b s ∷ others = sym (one_piece space a) ∙ sym are ∙ first in cc

pub piece_shows : (b : List ℕ) (space : Space) (a : ℕ) (s : Stretch) (left others : List PieceView) → left ≡ pieces_of space a 1 → left ≡ piece_in b s ∷ others → content_from space a 1 ≡ shown_in b 1 s.kind
piece_shows b space a s left others are first =
    let same = one_stretch b space a s left others are first in
    ap (λ (p : PieceView). p.content) same ∙ ap (λ n. shown_in b n s.kind) (sym (ap (λ (p : PieceView). p.length) same))

pub within_by : (b : List ℕ) (space : Space) (size a : ℕ) (s : Stretch) (left others : List PieceView) → left ≡ pieces_of space a 1 → left ≡ piece_in b s ∷ others → IsWithin 0 size s.length s.kind → IsWithin 0 size 1 s.kind
within_by b space size a s left others are first within =
    subst (λ n. IsWithin 0 size n s.kind) (sym (ap (λ (p : PieceView). p.length) (one_stretch b space a s left others are first))) within

pub no_piece : (space : Space) (a : ℕ) (left : List PieceView) → left ≡ pieces_of space a 1 → left ≡ [] → ⊥
no_piece space a left are none =
    let both : piece_of space (a, 1) ∷ [] ≡ [] = sym (one_piece space a) ∙ sym are ∙ none in cc
