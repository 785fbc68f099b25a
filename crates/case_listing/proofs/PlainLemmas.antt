-- A reply as people read it, piece by piece.
use Rattle.std.proofs.Common.{◌≡◌, ◌==◌, ℕ, zero, suc, ◌<◌, List, [], ◌∷◌, ◌++◌, length, take, drop, Option, None, Some, refl, sym, ap, ◌∙◌, arith, ⊎_elim, cond, eqb-true}
use Rattle.std.proofs.lemmas.Bool.{cases_Bool}
use Rattle.case_listing.specs.PlainText.{plain_escape, after_backslash, plain_past, plain_of, front_escape}

-- what is left out is dropped
pub plain_past-drop : (n : ℕ) (text : List ℕ) → plain_past n text ≡ plain_of (drop n text)
plain_past-drop zero text = refl
plain_past-drop (suc n) [] = refl
plain_past-drop (suc n) (c ∷ cs) = plain_past-drop n cs

-- the first byte of a text that begins with no escape is itself
pub plain_first : (text : List ℕ) → 0 < length text → front_escape text ≡ None → plain_of text ≡ take 1 text ++ plain_of (drop 1 text)
plain_first [] some none = absurd (omega arith)
plain_first (c ∷ cs) some none =
    ⊎_elim
    (λ is.
    let at : c ≡ 92 = eqb-true c 92 is in
    let no : plain_escape cs ≡ None = sym (ap (λ b. cond b (plain_escape cs) None) is) ∙ none in
    ap (λ b. cond b (after_backslash (plain_escape cs) (plain_past 3 cs) (plain_past 0 cs)) (c ∷ plain_past 0 cs)) is
    ∙ ap (λ o. after_backslash o (plain_past 3 cs) (plain_past 0 cs)) no
    ∙ ap (λ b. b ∷ plain_past 0 cs) (sym at))
    (λ other. ap (λ b. cond b (after_backslash (plain_escape cs) (plain_past 3 cs) (plain_past 0 cs)) (c ∷ plain_past 0 cs)) other)
    (cases_Bool (c == 92))

never_both : (o : Option ℕ) (b : ℕ) → o ≡ None → o ≡ Some b → ⊥
never_both None b none some = cc
never_both (Some a) b none some = cc

-- an escape is its byte
pub plain_escaped : (text : List ℕ) (b : ℕ) → front_escape text ≡ Some b → plain_of text ≡ (b ∷ []) ++ plain_of (drop 4 text)
plain_escaped [] b found = cc
plain_escaped (c ∷ cs) b found =
    ⊎_elim
    (λ is.
    let one : plain_escape cs ≡ Some b = sym (ap (λ t. cond t (plain_escape cs) None) is) ∙ found in
    ap (λ t. cond t (after_backslash (plain_escape cs) (plain_past 3 cs) (plain_past 0 cs)) (c ∷ plain_past 0 cs)) is
    ∙ ap (λ o. after_backslash o (plain_past 3 cs) (plain_past 0 cs)) one
    ∙ ap (λ l. b ∷ l) (plain_past-drop 3 cs))
    (λ other. absurd (never_both (front_escape (c ∷ cs)) b (ap (λ t. cond t (plain_escape cs) None) other) found))
    (cases_Bool (c == 92))
