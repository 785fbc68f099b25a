-- The line that says a query: a command and the words after it, a space before each.
use Rattle.std.proofs.Common.{◌≡◌, ℕ, ◌+◌, ◌-◌, ◌*◌, ◌%◌, ◌^◌, ◌/◌, ⊎_elim, nat_lt, ◌<◌, ◌≤◌, true, false, ◌&&◌, nat_le, List, [], ◌∷◌, ◌++◌, length, filter, decimal, codes, Option, Some, refl, ap, ◌∙◌, arith, lit≤, append-nil}
use Rattle.std.proofs.lemmas.Bool.{cases_Bool, ne_eqb, le-leb, le-ltb, leb-true, and_parts}
use Rattle.std.proofs.lemmas.List.{length-append}
use Rattle.std.proofs.lemmas.Fmt.{decimal_by_steps, length-decimal-le, decimal_nonempty}
use Rattle.std.proofs.lemmas.List.Elements.{recursion_from_All}
use Rattle.std.specs.Prelude.{All}
use Rattle.std.specs.Char.{digit_char}
use Rattle.std.specs.List.{list_all, AllByRecursion}
use Rattle.script_words.specs.Hex.{hex_of, bytes_of_hex, needle_of}
use Rattle.script_words.specs.Number.{number_of, kept_within, number_within}
use Rattle.script_words.specs.Words.{with_first, pieces_of, is_word, words_of, is_plain_line, is_blank_or_comment_line}
use Rattle.script_lines.specs.Queries.{QuerySaid, ask_header, ask_notes, ask_threads, ask_registers, ask_process, ask_signal, ask_auxiliary_vector, ask_files, ask_maps, ask_dump, ask_at, ask_find, ask_strings, ask_backtrace, ask_unwind, ask_lines, ask_frame, ask_builds, ask_symbol, ask_by_build, ask_symbol_by_build, ask_line, asks_of, asks_both, IsSayable}
use Rattle.script_lines.specs.declared.query.BuildQuery.TheVariants.{Compared, Used, Wanted}
use Rattle.script_lines.specs.Said.{known_or_bad, inspects, words_said, said, inspect_of}

-- a byte of a word: 0x21 to 0x7e
abbrev IsMark : ℕ → Type 0
IsMark c = (33 ≤ c) × (c ≤ 126)

abbrev AreMarks : List ℕ → Type 0
AreMarks [] = Unit {0}
AreMarks (c ∷ cs) = IsMark c × AreMarks cs

-- words of at most 128 bytes
abbrev AreShort : List (List ℕ) → Type 0
AreShort [] = Unit {0}
AreShort (w ∷ ws) = (0 < length w) × (length w ≤ 128) × AreMarks w × AreShort ws

-- the words after a command, a space before each
abbrev behind : List (List ℕ) → List ℕ
behind [] = []
behind (w ∷ ws) = 32 ∷ (w ++ behind ws)

front_piece : (w t p : List ℕ) (ps : List (List ℕ)) → AreMarks w → pieces_of t ≡ p ∷ ps → pieces_of (w ++ t) ≡ (w ++ p) ∷ ps
front_piece [] t p ps marks is = is
front_piece (c ∷ cs) t p ps marks is =
    rw (ne_eqb c 32 (λ space. omega (arith, space, marks.0.0))) (ap (with_first c) (front_piece cs t p ps marks.1 is))

pieces_behind : (ws : List (List ℕ)) → AreShort ws → pieces_of (behind ws) ≡ [] ∷ ws
pieces_behind [] short = refl
pieces_behind (w ∷ ws) short =
    ap (λ (ps : List (List ℕ)). [] ∷ ps) (front_piece w (behind ws) [] ws short.2 (pieces_behind ws short.3) ∙ ap (λ (x : List ℕ). x ∷ ws) (append-nil w))

all_words : (ws : List (List ℕ)) → AreShort ws → filter is_word ws ≡ ws
all_words [] short = refl
all_words ([] ∷ ws) short = absurd (omega (arith, short.0))
all_words ((c ∷ cs) ∷ ws) short = ap (λ (x : List (List ℕ)). (c ∷ cs) ∷ x) (all_words ws short.3)

words_are : (w : List ℕ) (ws : List (List ℕ)) → AreShort (w ∷ ws) → words_of (w ++ behind ws) ≡ w ∷ ws
words_are w ws short =
    ap (filter is_word) (front_piece w (behind ws) [] ws short.2 (pieces_behind ws short.3) ∙ ap (λ (x : List ℕ). x ∷ ws) (append-nil w)) ∙ all_words (w ∷ ws) short

plain_front : (w t : List ℕ) → AreMarks w → is_plain_line t ≡ true → is_plain_line (w ++ t) ≡ true
plain_front [] t marks plain = plain
plain_front (c ∷ cs) t marks plain =
    rw (le-leb 32 c (omega (arith, marks.0.0))) (rw (le-leb c 126 marks.0.1) (plain_front cs t marks.1 plain))

plain_behind : (ws : List (List ℕ)) → AreShort ws → is_plain_line (behind ws) ≡ true
plain_behind [] short = refl
plain_behind (w ∷ ws) short = plain_front w (behind ws) short.2 (plain_behind ws short.3)

short_behind : (ws : List (List ℕ)) → AreShort ws → length (behind ws) ≤ 129 * length ws
short_behind [] short = omega arith
short_behind (w ∷ ws) short = let sum = length-append w (behind ws) in let rest = short_behind ws short.3 in omega (arith, sum, rest, short.1)

-- at most three words after a command say what they are
said_as : (w : List ℕ) (ws : List (List ℕ)) → AreShort (w ∷ ws) → length ws ≤ 3 → is_blank_or_comment_line (w ++ behind ws) ≡ false
    → said (w ++ behind ws) ≡ known_or_bad (words_said (w ∷ ws))
said_as w ws short few seen =
    let sum = length-append w (behind ws) in
    let rest = short_behind ws short.3 in
    rw seen
    (rw (le-ltb 1024 (length (w ++ behind ws)) (omega (arith, sum, rest, short.1, few)))
    (rw (plain_front w (behind ws) short.2 (plain_behind ws short.3)) (ap (λ (x : List (List ℕ)). known_or_bad (words_said x)) (words_are w ws short))))

-- the words of commands are at hand: these tests compute
marks_in : (w : List ℕ) → list_all (λ c. nat_le 33 c && nat_le c 126) w ≡ true → AreMarks w
marks_in [] all = tt
marks_in (c ∷ cs) all =
    let parts = and_parts (nat_le 33 c && nat_le c 126) (list_all (λ c. nat_le 33 c && nat_le c 126) cs) all in
    let ends = and_parts (nat_le 33 c) (nat_le c 126) parts.0 in
    ((leb-true 33 c ends.0, leb-true c 126 ends.1), marks_in cs parts.1)

marks_append : (v w : List ℕ) → AreMarks v → AreMarks w → AreMarks (v ++ w)
marks_append [] w a b = b
marks_append (c ∷ cs) w a b = (a.0, marks_append cs w a.1 b)

marks_decimal : (n : ℕ) → n < 2 ^ 64 → AreMarks (decimal n)
marks_decimal n small =
    decimal_by_steps (λ n ds. AreMarks ds) (λ n one. ((omega arith, omega (arith, one)), tt))
    (λ n ds more marks. marks_append ds ((48 + n % 10) ∷ []) marks ((omega arith, omega arith), tt)) n small

few_digits : (n : ℕ) → n < 2 ^ 64 → length (decimal n) ≤ 128
few_digits n small = let few = length-decimal-le 20 n (lit≤ tt) (omega (arith, small)) small in omega (arith, few)

abbrev ReadsDecimal : Type 0
ReadsDecimal = (n : ℕ) → n < 2 ^ 64 → number_of (decimal n) ≡ Some n

within_range : (low high n : ℕ) → low ≤ n → n ≤ high → kept_within low high (Some n) ≡ Some n
within_range low high n least most = rw (le-leb low n least) (rw (le-leb n high most) refl)

case_number : ReadsDecimal → (seq : ℕ) → 1 ≤ seq → seq < 2 ^ 32 → number_within 1 (2 ^ 32 - 1) (decimal seq) ≡ Some seq
case_number reads seq some small =
    ap (kept_within 1 (2 ^ 32 - 1)) (reads seq (omega (arith, small))) ∙ within_range 1 (2 ^ 32 - 1) seq some (omega (arith, small))

abbrev IsShort : List ℕ → Type 0
IsShort w = (0 < length w) × (length w ≤ 128) × AreMarks w

short_decimal : (n : ℕ) → n < 2 ^ 64 → IsShort (decimal n)
short_decimal n small = (decimal_nonempty n small, few_digits n small, marks_decimal n small)

mark_digit : (d : ℕ) → d < 16 → IsMark (digit_char d)
mark_digit d low =
    ⊎_elim (λ (digit : nat_lt d 10 ≡ true). rw digit (omega arith, omega (arith, low))) (λ (letter : nat_lt d 10 ≡ false). rw letter (omega arith, omega (arith, low)))
    (cases_Bool (nat_lt d 10))

marks_hex : (bytes : List ℕ) → AllByRecursion (λ c. c < 256) bytes → AreMarks (hex_of bytes)
marks_hex [] each = tt
marks_hex (c ∷ cs) each =
    let byte : c < 256 = each.0 in
    (mark_digit (c / 16) (omega (arith, byte)), (mark_digit (c % 16) (omega arith), marks_hex cs each.1))

length-hex_of : (bytes : List ℕ) → length (hex_of bytes) ≡ 2 * length bytes
length-hex_of [] = refl
length-hex_of (c ∷ cs) = let rest = length-hex_of cs in omega (arith, rest)

short_hex : (bytes : List ℕ) → 0 < length bytes → length bytes ≤ 64 → All (λ c. c < 256) bytes → IsShort (hex_of bytes)
short_hex bytes one few each =
    let twice = length-hex_of bytes in
    (omega (arith, twice, one), omega (arith, twice, few), marks_hex bytes (recursion_from_All (λ c. c < 256) bytes each))

abbrev ReadsHex : Type 0
ReadsHex = (bytes : List ℕ) → All (λ c. c < 256) bytes → bytes_of_hex (hex_of bytes) ≡ Some bytes

reads_needle : ReadsHex → (bytes : List ℕ) → 0 < length bytes → length bytes ≤ 64 → All (λ c. c < 256) bytes → needle_of (hex_of bytes) ≡ Some bytes
reads_needle reads bytes one few each =
    let twice = length-hex_of bytes in
    rw (le-leb 2 (length (hex_of bytes)) (omega (arith, twice, one))) (rw (le-leb (length (hex_of bytes)) 128 (omega (arith, twice, few))) (reads bytes each))

reads_within : ReadsDecimal → (low high n : ℕ) → low ≤ n → n ≤ high → n < 2 ^ 64 → number_within low high (decimal n) ≡ Some n
reads_within reads low high n least most small = ap (kept_within low high) (reads n small) ∙ within_range low high n least most

abbrev HasLine : ℕ → QuerySaid → Type 0
HasLine seq query = (line : List ℕ) × (said line ≡ inspect_of seq query)

-- a command whose word is at hand
record IsCommand (w : List ℕ) : Type 0 where
  pub some : 0 < length w
  pub few : length w ≤ 128
  pub marks : list_all (λ c. nat_le 33 c && nat_le c 126) w ≡ true
  pub seen : (ws : List (List ℕ)) → is_blank_or_comment_line (w ++ behind ws) ≡ false

module _ (reads : ReadsDecimal) (reads_hex : ReadsHex) (seq : ℕ) (some : 1 ≤ seq) (small : seq < 2 ^ 32) where
  -- a command and the number of a case
  alone_line : (w : List ℕ) (query : QuerySaid) → IsCommand w
      → ((word : List ℕ) → words_said (w ∷ word ∷ []) ≡ inspects (number_within 1 (2 ^ 32 - 1) word) (Some query)) → HasLine seq query
  alone_line w query is says =
      let digits = decimal seq in
      let wide : seq < 2 ^ 64 = omega (arith, small) in (
        w ++ behind (digits ∷ []),
        said_as w (digits ∷ []) (is.some, is.few, marks_in w is.marks, (decimal_nonempty seq wide, few_digits seq wide, marks_decimal seq wide, tt)) (omega arith) (is.seen (digits ∷ []))
            ∙ ap known_or_bad (says digits)
            ∙ ap (λ (o : Option ℕ). known_or_bad (inspects o (Some query))) (case_number reads seq some small),
      )

  -- a command, the number of a case, and a word that is read as something
  worded_line : {A : Type 0} (w : List ℕ) (read : List ℕ → Option A) (query : A → QuerySaid) (x : A) (spelled : List ℕ) → IsShort spelled → read spelled ≡ Some x → IsCommand w
      → ((word more : List ℕ) → words_said (w ∷ word ∷ more ∷ []) ≡ inspects (number_within 1 (2 ^ 32 - 1) word) (asks_of query (read more)))
      → HasLine seq (query x)
  worded_line {A} w read query x spelled short spells is says =
      let digits = decimal seq in
      let wide : seq < 2 ^ 64 = omega (arith, small) in (
        w ++ behind (digits ∷ spelled ∷ []),
        said_as w (digits ∷ spelled ∷ [])
            (is.some, is.few, marks_in w is.marks, (decimal_nonempty seq wide, few_digits seq wide, marks_decimal seq wide, (short.0, short.1, short.2, tt)))
            (omega arith) (is.seen (digits ∷ spelled ∷ []))
            ∙ ap known_or_bad (says digits spelled)
            ∙ ap (λ (o : Option ℕ). known_or_bad (inspects o (asks_of query (read spelled)))) (case_number reads seq some small)
            ∙ ap (λ (o : Option A). known_or_bad (inspects (Some seq) (asks_of query o))) spells,
      )

  -- a command, the number of a case, and a number
  numbered_line : (w : List ℕ) (query : ℕ → QuerySaid) (n : ℕ) → n < 2 ^ 64 → IsCommand w
      → ((word number : List ℕ) → words_said (w ∷ word ∷ number ∷ []) ≡ inspects (number_within 1 (2 ^ 32 - 1) word) (asks_of query (number_of number)))
      → HasLine seq (query n)
  numbered_line w query n low is says = worded_line w number_of query n (decimal n) (short_decimal n low) (reads n low) is says

  -- a command, the number of a case, and two numbers
  ranged_line : (w : List ℕ) (query : ℕ → ℕ → QuerySaid) (m n : ℕ) → m < 2 ^ 64 → n < 2 ^ 64 → IsCommand w
      → ((word first second : List ℕ) → words_said (w ∷ word ∷ first ∷ second ∷ []) ≡ inspects (number_within 1 (2 ^ 32 - 1) word) (asks_both query (number_of first) (number_of second)))
      → HasLine seq (query m n)
  ranged_line w query m n low lower is says =
      let digits = decimal seq in
      let first = decimal m in
      let second = decimal n in
      let wide : seq < 2 ^ 64 = omega (arith, small) in
      let a = short_decimal m low in
      let b = short_decimal n lower in (
        w ++ behind (digits ∷ first ∷ second ∷ []),
        said_as w (digits ∷ first ∷ second ∷ [])
            (is.some, is.few, marks_in w is.marks, (decimal_nonempty seq wide, few_digits seq wide, marks_decimal seq wide, (a.0, a.1, a.2, (b.0, b.1, b.2, tt))))
            (omega arith) (is.seen (digits ∷ first ∷ second ∷ []))
            ∙ ap known_or_bad (says digits first second)
            ∙ ap (λ (o : Option ℕ). known_or_bad (inspects o (asks_both query (number_of first) (number_of second)))) (case_number reads seq some small)
            ∙ ap (λ (o : Option ℕ). known_or_bad (inspects (Some seq) (asks_both query o (number_of second)))) (reads m low)
            ∙ ap (λ (o : Option ℕ). known_or_bad (inspects (Some seq) (asks_both query (Some m) o))) (reads n lower),
      )

  pub query_line : (query : QuerySaid) → IsSayable query → HasLine seq query
  query_line ask_header fits = alone_line (codes "header") ask_header (record { some = omega arith; few = omega arith; marks = refl; seen = λ ws. refl }) (λ word. refl)
  query_line ask_notes fits = alone_line (codes "notes") ask_notes (record { some = omega arith; few = omega arith; marks = refl; seen = λ ws. refl }) (λ word. refl)
  query_line ask_threads fits = alone_line (codes "threads") ask_threads (record { some = omega arith; few = omega arith; marks = refl; seen = λ ws. refl }) (λ word. refl)
  query_line (ask_registers thread) fits =
      numbered_line (codes "regs") ask_registers thread fits (record { some = omega arith; few = omega arith; marks = refl; seen = λ ws. refl }) (λ word number. refl)
  query_line ask_process fits = alone_line (codes "process") ask_process (record { some = omega arith; few = omega arith; marks = refl; seen = λ ws. refl }) (λ word. refl)
  query_line ask_signal fits = alone_line (codes "signal") ask_signal (record { some = omega arith; few = omega arith; marks = refl; seen = λ ws. refl }) (λ word. refl)
  query_line ask_auxiliary_vector fits = alone_line (codes "auxv") ask_auxiliary_vector (record { some = omega arith; few = omega arith; marks = refl; seen = λ ws. refl }) (λ word. refl)
  query_line ask_files fits = alone_line (codes "files") ask_files (record { some = omega arith; few = omega arith; marks = refl; seen = λ ws. refl }) (λ word. refl)
  query_line ask_maps fits = alone_line (codes "maps") ask_maps (record { some = omega arith; few = omega arith; marks = refl; seen = λ ws. refl }) (λ word. refl)
  query_line (ask_dump first many) fits =
      ranged_line (codes "dump") ask_dump first many fits.0 fits.1 (record { some = omega arith; few = omega arith; marks = refl; seen = λ ws. refl }) (λ word first second. refl)
  query_line (ask_at address) fits =
      numbered_line (codes "at") ask_at address fits (record { some = omega arith; few = omega arith; marks = refl; seen = λ ws. refl }) (λ word number. refl)
  query_line (ask_find needle) fits =
      worded_line (codes "find") needle_of ask_find needle (hex_of needle) (short_hex needle fits.0 fits.1 fits.2) (reads_needle reads_hex needle fits.0 fits.1 fits.2)
      (record { some = omega arith; few = omega arith; marks = refl; seen = λ ws. refl }) (λ word more. refl)
  query_line (ask_strings least) fits =
      let small : least < 2 ^ 64 = omega (arith, fits.1) in
      worded_line (codes "strings") (number_within 1 1024) ask_strings least (decimal least) (short_decimal least small) (reads_within reads 1 1024 least fits.0 fits.1 small)
      (record { some = omega arith; few = omega arith; marks = refl; seen = λ ws. refl }) (λ word more. refl)
  query_line (ask_backtrace thread) fits =
      numbered_line (codes "bt") ask_backtrace thread fits (record { some = omega arith; few = omega arith; marks = refl; seen = λ ws. refl }) (λ word number. refl)
  query_line (ask_unwind thread) fits =
      numbered_line (codes "unwind") ask_unwind thread fits (record { some = omega arith; few = omega arith; marks = refl; seen = λ ws. refl }) (λ word number. refl)
  query_line (ask_lines thread) fits =
      numbered_line (codes "lines") ask_lines thread fits (record { some = omega arith; few = omega arith; marks = refl; seen = λ ws. refl }) (λ word number. refl)
  query_line (ask_frame thread frame) fits =
      ranged_line (codes "frame") ask_frame thread frame fits.0 fits.1 (record { some = omega arith; few = omega arith; marks = refl; seen = λ ws. refl }) (λ word first second. refl)
  query_line (ask_builds Compared) fits = alone_line (codes "builds") (ask_builds Compared) (record { some = omega arith; few = omega arith; marks = refl; seen = λ ws. refl }) (λ word. refl)
  query_line (ask_builds Used) fits = alone_line (codes "used") (ask_builds Used) (record { some = omega arith; few = omega arith; marks = refl; seen = λ ws. refl }) (λ word. refl)
  query_line (ask_builds Wanted) fits = alone_line (codes "wants") (ask_builds Wanted) (record { some = omega arith; few = omega arith; marks = refl; seen = λ ws. refl }) (λ word. refl)
  query_line (ask_symbol address) fits =
      numbered_line (codes "symbol") ask_symbol address fits (record { some = omega arith; few = omega arith; marks = refl; seen = λ ws. refl }) (λ word number. refl)
  query_line (ask_by_build query) fits = absurd fits
  query_line (ask_symbol_by_build address) fits = absurd fits
  query_line (ask_line address) fits =
      numbered_line (codes "line") ask_line address fits (record { some = omega arith; few = omega arith; marks = refl; seen = λ ws. refl }) (λ word number. refl)
