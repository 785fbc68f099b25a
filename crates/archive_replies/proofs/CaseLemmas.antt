-- One case's line more.
use Rattle.std.proofs.Common.{◌≡◌, ℕ, ◌+◌, ◌<◌, List, [], ◌∷◌, ◌++◌, length, take, map, get_or, refl, sym, ap, ◌∙◌, append_assoc}
use Rattle.std.proofs.lemmas.List.{append-nil, take_more}
use Rattle.std.specs.List.{flat_map}
use Rattle.journal_layout.specs.declared.entry.Entry.{Entry}
use Rattle.journal_layout.specs.Case.{case_of}
use Rattle.archive_replies.specs.Texts.{case_line}

abbrev pub lines_of : ℕ → List Entry → List ℕ
lines_of version es = flat_map (case_line version) (map case_of es)

lines_append : (version : ℕ) (xs ys : List Entry) → lines_of version (xs ++ ys) ≡ lines_of version xs ++ lines_of version ys
lines_append version [] ys = refl
lines_append version (x ∷ xs) ys =
    ap (λ t. case_line version (case_of x) ++ t) (lines_append version xs ys)
    ∙ sym (append_assoc (case_line version (case_of x)) (lines_of version xs) (lines_of version ys))

pub one_line_more : (version : ℕ) (es : List Entry) (i : ℕ) (e : Entry) → i < length es → e ≡ get_or es i e
    → lines_of version (take i es) ++ case_line version (case_of e) ≡ lines_of version (take (i + 1) es)
one_line_more version es i e within is =
    sym (ap (lines_of version) (take_more es i e within)
    ∙ lines_append version (take i es) (get_or es i e ∷ [])
    ∙ ap (λ t. lines_of version (take i es) ++ t) (append-nil (case_line version (case_of (get_or es i e))))
    ∙ ap (λ (x : Entry). lines_of version (take i es) ++ case_line version (case_of x)) (sym is))
