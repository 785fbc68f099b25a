-- The values of texts.
use Rattle.std.proofs.Common.{◌≡◌, ◌≤◌, ℕ, zero, suc, ◌+◌, ◌-◌, ◌^◌, cond, true, false, List, [], ◌∷◌, ◌++◌, length, map, Option, None, Some, refl, sym, ap, subst, ◌∙◌, arith, inl, inr, append_assoc, Ok}
use Rattle.std.proofs.lemmas.Bool.{cases_Bool, cond-true, cond-false}
use Rattle.std.proofs.lemmas.List.{append-nil}
use Rattle.std.proofs.lemmas.Grind.{flat_map-append}
use Rattle.std.specs.List.{filter, flat_map}
use Rattle.script_words.specs.Printing.{shown, shown_byte}
use Rattle.address_space.specs.Source.{Space, ExecutableView, value_at}
use Rattle.address_space.specs.Occurrence.{begins_text, is_long, is_text_at, is_text_value, ordered, strings_of, text_from, text_len}
use Rattle.address_space.specs.Pieces.{PieceView, pieces_of}
use Rattle.memory_replies.specs.Memory.{memory_of}
use Rattle.memory_replies.specs.Texts.{content_bytes, strings_answer, text_line, value_list, values_between}
use Rattle.memory_replies.proofs.PieceLemmas.{piece_bytes, pieces_are}
use Rattle.memory_replies.proofs.ValueLemmas.{no_values, values_step}

-- the values of addresses, and those of the addresses after them
values_split : (space : Space) (m a n : ℕ) → values_between space a (m + n) ≡ values_between space a m ++ values_between space (a + m) n
values_split space zero a n =
    let all : 0 + n ≡ n = omega arith in
    let here : a ≡ a + 0 = omega arith in
    ap (values_between space a) all ∙ ap (λ b. values_between space b n) here
    ∙ ap (λ t. t ++ values_between space (a + 0) n) (sym (no_values space a 0 refl))
values_split space (suc m) a n =
    let more : suc m + n ≡ suc (m + n) = omega arith in
    let next : a + 1 + m ≡ a + suc m = omega arith in
    ap (values_between space a) more ∙ values_step space a (m + n)
    ∙ ap (λ t. value_list (value_at space a) ++ t) (values_split space m (a + 1) n)
    ∙ sym (append_assoc (value_list (value_at space a)) (values_between space (a + 1) m) (values_between space (a + 1 + m) n))
    ∙ ap (λ t. t ++ values_between space (a + 1 + m) n) (sym (values_step space a m))
    ∙ ap (λ b. values_between space a (suc m) ++ values_between space b n) next

pub shown_halves : (space : Space) (a m n w : ℕ) → m + n ≡ w
    → flat_map shown_byte (values_between space a m) ++ flat_map shown_byte (values_between space (a + m) n) ≡ flat_map shown_byte (values_between space a w)
shown_halves space a m n w is =
    sym (flat_map-append shown_byte (values_between space a m) (values_between space (a + m) n))
    ∙ ap (flat_map shown_byte) (sym (values_split space m a n))
    ∙ ap (λ k. flat_map shown_byte (values_between space a k)) is

-- the texts of pieces are those of their bytes
abbrev pub piece_text : PieceView → List ℕ
piece_text p = flat_map shown_byte (content_bytes p.content)

texts_joined : (ps : List PieceView) → flat_map piece_text ps ≡ flat_map shown_byte (flat_map piece_bytes ps)
texts_joined [] = refl
texts_joined (p ∷ ps) = ap (λ t. piece_text p ++ t) (texts_joined ps) ∙ sym (flat_map-append shown_byte (piece_bytes p) (flat_map piece_bytes ps))

pub shown_pieces : (space : Space) (a n : ℕ) → flat_map piece_text (pieces_of space a n) ≡ flat_map shown_byte (values_between space a n)
shown_pieces space a n = texts_joined (pieces_of space a n) ∙ ap (flat_map shown_byte) (pieces_are space a n)

-- a text of one value, and one of several
pub shown_one : (space : Space) (a n : ℕ) (value : Option ℕ) → n ≡ 1 → value ≡ value_at space a → shown (value_list value) ≡ shown (values_between space a n)
shown_one space a n value is value_is =
    ap (λ v. shown (value_list v)) value_is
    ∙ ap shown (sym (append-nil (value_list (value_at space a))))
    ∙ ap (λ xs. shown (value_list (value_at space a) ++ xs)) (sym (no_values space (a + 1) 0 refl))
    ∙ ap shown (sym (values_step space a 0))
    ∙ ap (λ m. shown (values_between space a m)) (sym is)

pub text_len_within : (space : Space) (n a : ℕ) → text_len space a n ≤ n
unfolding text_len
text_len_within space zero a = omega arith
text_len_within space (suc n) a =
    let behind = text_len_within space n (a + 1) in
    elim (is_text_at space a) as (λ t. cond t (text_len space (a + 1) n + 1) 0 ≤ suc n) [ true ↦ omega arith | false ↦ omega arith ]

text_has : (o : Option ℕ) (xs : List ℕ) → is_text_value o ≡ true → length (value_list o ++ xs) ≡ suc (length xs)
text_has None xs h = cc
text_has (Some x) xs h = refl

-- each address of a text has a value
pub text_values : (space : Space) (n a : ℕ) → length (values_between space a (text_len space a n)) ≡ text_len space a n
unfolding text_len
text_values space zero a = ap length (no_values space a 0 refl)
text_values space (suc n) a =
    elim (cases_Bool (is_text_at space a)) as (λ _. length (values_between space a (cond (is_text_at space a) (text_len space (a + 1) n + 1) 0)) ≡ cond (is_text_at space a) (text_len space (a + 1) n + 1) 0) [
      | inl is ↦
          let m = text_len space (a + 1) n in
          let more : suc m ≡ m + 1 = omega arith in
          subst (λ t. length (values_between space a t) ≡ t) (more ∙ sym (cond-true (is_text_at space a) (m + 1) 0 is))
          (ap length (values_step space a m) ∙ text_has (value_at space a) (values_between space (a + 1) m) is ∙ ap suc (text_values space n (a + 1)))
      | inr other ↦
          subst (λ t. length (values_between space a t) ≡ t) (sym (cond-false (is_text_at space a) (text_len space (a + 1) n + 1) 0 other)) (ap length (no_values space a 0 refl))
    ]

-- each is a text, by its first address and its length
abbrev pub AreTexts : Space → List (ℕ × ℕ) → Type 0
AreTexts space [] = Unit {0}
AreTexts space (x ∷ xs) = (x.1 ≡ text_len space x.0 (2 ^ 64 - x.0)) × AreTexts space xs

texts_are : (space : Space) (least : ℕ) (starts : List ℕ) → AreTexts space (filter (is_long least) (map (text_from space) starts))
texts_are space least [] = tt
texts_are space least (a ∷ starts) =
    elim (is_long least (text_from space a)) as (λ t. AreTexts space (cond t (text_from space a ∷ filter (is_long least) (map (text_from space) starts)) (filter (is_long least) (map (text_from space) starts)))) [
      | true ↦ (refl, texts_are space least starts)
      | false ↦ texts_are space least starts
    ]

pub strings_are : (space : Space) (least : ℕ) → AreTexts space (strings_of space least)
unfolding strings_of
strings_are space least = texts_are space least (ordered space (begins_text space))

pub texts_told : (b : List ℕ) (xs : List ExecutableView) (least : ℕ) (space : Space) → space ≡ memory_of b xs
    → Ok (flat_map (text_line space) (strings_of space least)) ≡ strings_answer b xs least
unfolding strings_answer
texts_told b xs least space is = ap (λ s. Ok (flat_map (text_line s) (strings_of s least))) is
