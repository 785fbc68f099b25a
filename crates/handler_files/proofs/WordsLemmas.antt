-- What is written of a core's words reads back.
use Rattle.std.proofs.Common.{◌≡◌, ◌≢◌, ◌<◌, ◌-◌, ◌+◌, ◌^◌, ℕ, suc, false, ◌==◌, List, [], ◌∷◌, ◌++◌, length, take, drop, get_or, rules, Option, None, Some, sym, ap, ◌∙◌, codes, decimal, arith, ⊎_elim, unwrap_or}
use Rattle.std.proofs.lemmas.Bool.{eqb-true, eq-eqb, cases_lt, false≢true}
use Rattle.std.proofs.lemmas.List.{length-append, get_or_append_left}
use Rattle.std.proofs.lemmas.List.Elements.{All-get_or}
use Rattle.std.proofs.Math.Seq.{get_or-append_seam, take-append_seam, drop-append_seam}
use Rattle.memchr.specs.Find.{IsFirstByte, is_byte}
use Rattle.script_words.specs.Number.{number_of}
use Rattle.handler_files.specs.WordsText.{HasNoNewline, IsLength, length_line}

-- the newline behind a line that has none is the first one
pub line_ends : (line rest text : List ℕ) (found : Option ℕ) → HasNoNewline line → text ≡ line ++ 10 ∷ rest → IsFirstByte (is_byte 10) text found
    → found ≡ Some (length line)
line_ends line rest text None none is first =
    let many : length text ≡ length line + suc (length rest) = ap (λ (l : List ℕ). length l) is ∙ length-append line (10 ∷ rest) in
    absurd (first (length line) (omega arith) (omega (arith, many))
    (let at : get_or text (length line) 0 ≡ 10 = ap (λ (l : List ℕ). get_or l (length line) 0) is ∙ get_or-append_seam line 10 rest 0 in eq-eqb (get_or text (length line) 0) 10 at))
line_ends line rest text (Some k) none is first =
    let here : get_or text k 0 ≡ 10 = eqb-true (get_or text k 0) 10 first.1 in
    let at : get_or text (length line) 0 ≡ 10 = ap (λ (l : List ℕ). get_or l (length line) 0) is ∙ get_or-append_seam line 10 rest 0 in
    ⊎_elim
    (λ lt. absurd (All-get_or (λ c. c ≢ 10) line k 0 lt none (sym (get_or_append_left line (10 ∷ rest) 0 k lt) ∙ ap (λ (l : List ℕ). get_or l k 0) (sym is) ∙ here)))
    (λ ge. ⊎_elim
    (λ lt. absurd (first.0.before (length line) (omega arith) lt (eq-eqb (get_or text (length line) 0) 10 at)))
    (λ le. let e : k ≡ length line = omega (arith, ge, le) in ap (λ (n : ℕ). Some n) e)
    (cases_lt (length line) k))
    (cases_lt k (length line))

-- all but the last byte
pub but_last : (xs : List ℕ) → take (length (xs ++ 10 ∷ []) - 1) (xs ++ 10 ∷ []) ≡ xs
but_last xs =
    let l : length (xs ++ 10 ∷ []) ≡ length xs + 1 = length-append xs (10 ∷ []) in
    let e : length (xs ++ 10 ∷ []) - 1 ≡ length xs = omega (arith, l) in
    ap (λ (n : ℕ). take n (xs ++ 10 ∷ [])) e ∙ take-append_seam xs (10 ∷ [])

pub some_is : {X : Type 0} (x y : X) → Some x ≡ Some y → x ≡ y
some_is x y e = ap (λ o. unwrap_or o x) e

pub none_is : {X : Type 0} (x : X) → None ≡ Some x → ⊥
none_is x e = absurd (search (e, rules))

-- what is before the newline, and what is behind it
pub front_is : (line rest text : List ℕ) (at : ℕ) → text ≡ line ++ 10 ∷ rest → at ≡ length line → take at text ≡ line
front_is line rest text at is e = ap (λ (l : List ℕ). take at l) is ∙ ap (λ (k : ℕ). take k (line ++ 10 ∷ rest)) e ∙ take-append_seam line (10 ∷ rest)

pub rest_is : (line rest text : List ℕ) (at : ℕ) → text ≡ line ++ 10 ∷ rest → at ≡ length line → drop 1 (drop at text) ≡ rest
rest_is line rest text at is e =
    ap (λ (l : List ℕ). drop 1 (drop at l)) is ∙ ap (λ (k : ℕ). drop 1 (drop k (line ++ 10 ∷ rest))) e ∙ ap (λ (l : List ℕ). drop 1 l) (drop-append_seam line (10 ∷ rest))

-- the number that a line states is read as it was written
number_read : (n : ℕ) (text stated digits front : List ℕ) (read : Option ℕ) → n < 2 ^ 64 → text ≡ length_line (Some n) → front ≡ codes "length="
    → stated ≡ drop (length front) text → digits ≡ take (length stated - 1) stated → read ≡ number_of digits
    → ((k : ℕ) → k < 2 ^ 64 → number_of (decimal k) ≡ Some k) → read ≡ Some n
number_read n text stated digits front read small is front_is stated_is digits_is read_is law =
    let s : stated ≡ decimal n ++ 10 ∷ [] = stated_is ∙ ap (λ (l : List ℕ). drop (length l) text) front_is ∙ ap (λ (l : List ℕ). drop 7 l) is in
    let d : digits ≡ decimal n = digits_is ∙ ap (λ (l : List ℕ). take (length l - 1) l) s ∙ but_last (decimal n) in
    read_is ∙ ap number_of d ∙ law n small

pub length_read : (want : Option ℕ) (text stated digits front : List ℕ) (read : Option ℕ) → IsLength want → text ≡ length_line want → (length text == 0) ≡ false
    → front ≡ codes "length=" → stated ≡ drop (length front) text → digits ≡ take (length stated - 1) stated → read ≡ number_of digits
    → ((k : ℕ) → k < 2 ^ 64 → number_of (decimal k) ≡ Some k) → (read ≡ want) × (read ≡ None → ⊥)
length_read None text stated digits front read small is some front_is stated_is digits_is read_is law = absurd (false≢true (sym some ∙ eq-eqb (length text) 0 (ap (λ (l : List ℕ). length l) is)))
length_read (Some n) text stated digits front read small is some front_is stated_is digits_is read_is law =
    let e = number_read n text stated digits front read small is front_is stated_is digits_is read_is law in
    (e, λ none. none_is n (sym none ∙ e))
