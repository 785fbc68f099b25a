-- How the words of a line come one by one.
use Rattle.std.proofs.Common.{◌≡◌, ◌==◌, ◌||◌, not, unwrap_or, true≢false, get_or-drop, add-zero, length-drop, ℕ, zero, suc, ◌<◌, ◌≤◌, Bool, true, false, List, [], ◌∷◌, length, get_or, take, drop, Option, None, Some, filter, slice_get, refl, sym, ap, ◌∙◌, arith}
use Rattle.bstr.specs.Find.{IsFirstByte, is_byte}
use Rattle.bstr.specs.Bytes.{is_in, not_in}
use Rattle.script_words.specs.Words.{is_space, pieces_of, is_word, words_of, first_visible_of}

-- the first n bytes are spaces
abbrev pub SpacesBefore : List ℕ → ℕ → Type 0
SpacesBefore line n = (k : ℕ) → k < n → is_space (get_or line k 0) ≡ true

-- the first n bytes are no spaces
abbrev pub NoSpaceBefore : List ℕ → ℕ → Type 0
NoSpaceBefore line n = (k : ℕ) → k < n → is_space (get_or line k 0) ≡ false

-- spaces in front leave the words as they are
pub words_of-drop_spaces : (line : List ℕ) (n : ℕ) → n ≤ length line → SpacesBefore line n → words_of (drop n line) ≡ words_of line
words_of-drop_spaces line zero within spaces = refl
words_of-drop_spaces [] (suc n) within spaces = refl
words_of-drop_spaces (c ∷ cs) (suc n) within spaces =
    let first : is_space c ≡ true = spaces 0 (omega arith) in
    rw first (words_of-drop_spaces cs n (omega arith) (λ k lt. spaces (suc k) (omega arith)))

-- and the first byte that is no space
pub first_visible_of-drop_spaces : (line : List ℕ) (n : ℕ) → n ≤ length line → SpacesBefore line n → first_visible_of (drop n line) ≡ first_visible_of line
first_visible_of-drop_spaces line zero within spaces = refl
first_visible_of-drop_spaces [] (suc n) within spaces = refl
first_visible_of-drop_spaces (c ∷ cs) (suc n) within spaces =
    let first : is_space c ≡ true = spaces 0 (omega arith) in
    rw first (first_visible_of-drop_spaces cs n (omega arith) (λ k lt. spaces (suc k) (omega arith)))

-- a front with no space, up to a space or the end, is the first piece
pieces_of-split : (text : List ℕ) (n : ℕ) → n ≤ length text → NoSpaceBefore text n → (n < length text → is_space (get_or text n 0) ≡ true)
    → (others : List (List ℕ)) × (pieces_of text ≡ take n text ∷ others) × (words_of (drop n text) ≡ filter is_word others)
pieces_of-split [] zero within none stops = ([], refl, refl)
pieces_of-split (c ∷ cs) zero within none stops =
    let space : is_space c ≡ true = stops (omega arith) in
    (pieces_of cs, rw space, rw space)
pieces_of-split [] (suc n) within none stops = absurd (omega arith)
pieces_of-split (c ∷ cs) (suc n) within none stops =
    let rest = pieces_of-split cs n (omega arith) (λ k lt. none (suc k) (omega arith)) (λ lt. stops (omega arith)) in
    let visible : is_space c ≡ false = none 0 (omega arith) in
    (rest.0, rw (visible, rest.1), rest.2)

-- so it is the first word, where it has a byte
pub words_of-split : (text : List ℕ) (n : ℕ) → 0 < n → n ≤ length text → NoSpaceBefore text n → (n < length text → is_space (get_or text n 0) ≡ true)
    → words_of text ≡ take n text ∷ words_of (drop n text)
words_of-split text zero some within none stops = absurd (omega arith)
words_of-split [] (suc n) some within none stops = absurd (omega arith)
words_of-split (c ∷ cs) (suc n) some within none stops =
    let parts = pieces_of-split (c ∷ cs) (suc n) within none stops in
    ap (filter is_word) parts.1 ∙ ap (λ others. (c ∷ take n cs) ∷ others) (sym parts.2)

-- what a search for a byte that is no space says of its place, or of the end
space_unless : (b : Bool) → ¬ (not (b || false) ≡ true) → b ≡ true
space_unless true h = refl
space_unless false h = absurd (h refl)

visible_where : (b : Bool) → not (b || false) ≡ true → b ≡ false
visible_where true h = cc
visible_where false h = refl

space_if : (x : ℕ) → ¬ (not_in (32 ∷ []) x ≡ true) → is_space x ≡ true
unfolding is_in
space_if x h = space_unless (x == 32) h

visible_if : (x : ℕ) → not_in (32 ∷ []) x ≡ true → is_space x ≡ false
unfolding is_in
visible_if x h = visible_where (x == 32) h

-- the first n bytes are spaces, and no space follows them
pub record SkipsSpaces (line : List ℕ) (n : ℕ) : Type 0 where
  pub within : n ≤ length line
  pub spaces : SpacesBefore line n
  pub begins : n < length line → is_space (get_or line n 0) ≡ false

pub skips_spaces : (line : List ℕ) (r : Option ℕ) → IsFirstByte (not_in (32 ∷ [])) line r → SkipsSpaces line (unwrap_or r (length line))
skips_spaces line None none = record {
  within = omega arith;
  spaces = λ k lt. space_if _ (none k (omega arith) lt);
  begins = λ lt. absurd (omega arith);
}
skips_spaces line (Some n) found = record {
  within = omega (arith, found.0.high);
  spaces = λ k lt. space_if _ (found.0.before k (omega arith) lt);
  begins = λ lt. visible_if _ found.1;
}

-- the first n bytes are no spaces, and a space or the end follows them
pub record EndsAtSpace (text : List ℕ) (n : ℕ) : Type 0 where
  pub within : n ≤ length text
  pub visible : NoSpaceBefore text n
  pub stops : n < length text → is_space (get_or text n 0) ≡ true

not_true : (b : Bool) → ¬ (b ≡ true) → b ≡ false
not_true true h = absurd (h refl)
not_true false h = refl

pub ends_at_space : (text : List ℕ) (r : Option ℕ) → IsFirstByte (is_byte 32) text r → EndsAtSpace text (unwrap_or r (length text))
ends_at_space text None none = record {
  within = omega arith;
  visible = λ k lt. not_true _ (none k (omega arith) lt);
  stops = λ lt. absurd (omega arith);
}
ends_at_space text (Some n) found = record {
  within = omega (arith, found.0.high);
  visible = λ k lt. not_true _ (found.0.before k (omega arith) lt);
  stops = λ lt. found.1;
}

-- a list that begins visibly has its first byte as its first visible one
pub first_visible_of-begins : (text : List ℕ) → (0 < length text → is_space (get_or text 0 0) ≡ false) → first_visible_of text ≡ slice_get text 0
first_visible_of-begins [] begins = refl
first_visible_of-begins (c ∷ cs) begins =
    let visible : is_space c ≡ false = begins (omega arith) in
    rw visible

pub begins-drop : (line : List ℕ) (n : ℕ) → SkipsSpaces line n → 0 < length (drop n line) → is_space (get_or (drop n line) 0 0) ≡ false
begins-drop line n skips some =
    rw (get_or-drop n line 0 0, add-zero n) (skips.begins (omega (arith, length-drop n line)))

-- a text that begins visibly has a first word of some length
pub first_word_is_some : (text : List ℕ) (n : ℕ) → EndsAtSpace text n → 0 < length text → (0 < length text → is_space (get_or text 0 0) ≡ false) → 0 < n
first_word_is_some text zero ends some begins =
    absurd (true≢false (sym (ends.stops some) ∙ begins some))
first_word_is_some text (suc n) ends some begins = omega arith
