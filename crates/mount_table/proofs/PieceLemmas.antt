-- The first piece of a text ends where its separator first stands.
use Rattle.std.proofs.Common.{◌≡◌, ◌==◌, ℕ, ◌+◌, ◌≤◌, List, [], ◌∷◌, length, take, drop, None, Some, position, refl, ap, ◌∙◌, arith, ⊎_elim}
use Rattle.std.proofs.lemmas.Bool.{cases_Bool, cases_lt, lt-ltb, le-ltb}
use Rattle.std.proofs.lemmas.List.{drop-drop}
use Rattle.std.proofs.lemmas.List.Splits.{slice_split_first}
use Rattle.std.specs.List.{position_or_len}
use Rattle.mount_table.specs.Pieces.{pieces_of}

-- where no byte separates, the text is the one piece
whole : (separator : ℕ) (text : List ℕ) → length text ≤ position_or_len (λ c. c == separator) text → pieces_of separator text ≡ text ∷ []
whole separator [] past = refl
whole separator (c ∷ cs) past =
    ⊎_elim
    (λ is. let short : length (c ∷ cs) ≤ 0 = rw is at past in absurd (omega arith))
    (λ other. let rest : length (c ∷ cs) ≤ 1 + position_or_len (λ b. b == separator) cs = rw other at past in rw (other, whole separator cs (omega arith)))
    (cases_Bool (c == separator))

pub alone : (separator : ℕ) (text : List ℕ) → None ≡ position (λ c. c == separator) text → pieces_of separator text ≡ text ∷ []
alone separator text none =
    let at : ℕ = position_or_len (λ c. c == separator) text in
    ⊎_elim
    (λ lt. let some : position (λ c. c == separator) text ≡ Some at = rw (lt-ltb at (length text) lt) in cc)
    (λ past. whole separator text past)
    (cases_lt at (length text))

pub found : (separator : ℕ) (text : List ℕ) (at : ℕ) → Some at ≡ position (λ c. c == separator) text
    → pieces_of separator text ≡ take at text ∷ pieces_of separator (drop 1 (drop at text))
found separator text at some =
    let first : ℕ = position_or_len (λ c. c == separator) text in
    ⊎_elim
    (λ lt.
    let here : position (λ c. c == separator) text ≡ Some first = rw (lt-ltb first (length text) lt) in
    let is : first ≡ at = cc in
    slice_split_first (λ c. c == separator) text 0 lt
    ∙ ap (λ n. take n text ∷ pieces_of separator (drop (n + 1) text)) is
    ∙ ap (λ rest. take at text ∷ pieces_of separator rest) (grind (arith, drop-drop {A = ℕ})))
    (λ past. let none : position (λ c. c == separator) text ≡ None = rw (le-ltb first (length text) past) in cc)
    (cases_lt first (length text))
