-- How bytes of a page are read.
use Rattle.std.proofs.Common.{◌≡◌, ℕ, ◌==◌, Bool, true, not, ◌&&◌, List, [], ◌∷◌, ◌++◌, refl, sym, ap, ◌∙◌}
use Rattle.std.proofs.lemmas.Bool.{and_parts, not-true}
use Rattle.std.proofs.lemmas.List.{append_assoc, append-nil}
use Rattle.std.specs.List.{list_all}
use Rattle.case_pages.specs.Html.{Place, Step, Token, in_attributes, in_name, onward, read, step}

-- what is read by bytes, and by those behind them
pub read_behind : (p : Place) (a b : List ℕ) → read p (a ++ b) ≡ onward (read p a).1 (read (read p a).0 b)
read_behind p [] b = refl
read_behind p (c ∷ cs) b =
    ap (onward (step p c).1) (read_behind (step p c).0 cs b)
    ∙ ap (λ (ts : List Token). ((read (read (step p c).0 cs).0 b).0, ts)) (sym (append_assoc (step p c).1 (read (step p c).0 cs).1 (read (read (step p c).0 cs).0 b).1))

pub reads_then : (p q r : Place) (a b : List ℕ) (ts us : List Token) → read p a ≡ (q, ts) → read q b ≡ (r, us) → read p (a ++ b) ≡ (r, ts ++ us)
reads_then p q r a b ts us first then =
    read_behind p a b ∙ ap (λ (s : Step). onward s.1 (read s.0 b)) first ∙ ap (onward ts) then

-- a byte of a name
abbrev pub is_name_byte : ℕ → Bool
is_name_byte c = not (c == 62) && not (c == 32)

-- a byte of an attribute that is no quote
abbrev pub is_value_byte : ℕ → Bool
is_value_byte c = not (c == 34) && not (c == 62)

name_step : (n : List ℕ) (c : ℕ) → is_name_byte c ≡ true → step (in_name n) c ≡ (in_name (n ++ c ∷ []), [])
name_step n c is =
    let both = and_parts (not (c == 62)) (not (c == 32)) is in
    rw (not-true (c == 62) both.0, not-true (c == 32) both.1) refl

pub name_read : (n w : List ℕ) → list_all is_name_byte w ≡ true → read (in_name n) w ≡ (in_name (n ++ w), [])
name_read n [] all = ap (λ (m : List ℕ). (in_name m, [])) (sym (append-nil n))
name_read n (c ∷ cs) all =
    let both = and_parts (is_name_byte c) (list_all is_name_byte cs) all in
    ap (λ (s : Step). onward s.1 (read s.0 cs)) (name_step n c both.0)
    ∙ name_read (n ++ c ∷ []) cs both.1
    ∙ ap (λ (m : List ℕ). (in_name m, [])) (append_assoc n (c ∷ []) cs)

value_step : (n : List ℕ) (q : Bool) (a : List ℕ) (c : ℕ) → is_value_byte c ≡ true → step (in_attributes n q a) c ≡ (in_attributes n q (a ++ c ∷ []), [])
value_step n q a c is =
    let both = and_parts (not (c == 34)) (not (c == 62)) is in
    rw (not-true (c == 34) both.0, not-true (c == 62) both.1) refl

pub value_read : (n : List ℕ) (q : Bool) (a w : List ℕ) → list_all is_value_byte w ≡ true → read (in_attributes n q a) w ≡ (in_attributes n q (a ++ w), [])
value_read n q a [] all = ap (λ (m : List ℕ). (in_attributes n q m, [])) (sym (append-nil a))
value_read n q a (c ∷ cs) all =
    let both = and_parts (is_value_byte c) (list_all is_value_byte cs) all in
    ap (λ (s : Step). onward s.1 (read s.0 cs)) (value_step n q a c both.0)
    ∙ value_read n q (a ++ c ∷ []) cs both.1
    ∙ ap (λ (m : List ℕ). (in_attributes n q m, [])) (append_assoc a (c ∷ []) cs)
