use Rattle.std.proofs.Common.{◌≡◌, ℕ, List, [], ◌∷◌, ◌++◌, refl, sym}
use Rattle.script_streams.specs.Lines.{IsLine}
use Rattle.script_streams.proofs.laws.lines_are_cut_one_way.Goals as goal

heads : (c d : ℕ) (xs ys : List ℕ) → c ∷ xs ≡ d ∷ ys → c ≡ d
heads c d xs ys e = cc

tails : (c d : ℕ) (xs ys : List ℕ) → c ∷ xs ≡ d ∷ ys → xs ≡ ys
tails c d xs ys e = cc

grown : (c d : ℕ) (xs ys x y : List ℕ) → c ≡ d → (xs ≡ ys) × (x ≡ y) → (c ∷ xs ≡ d ∷ ys) × (x ≡ y)
grown c d xs ys x y e parts = let front : c ∷ xs ≡ d ∷ ys = cc (e, parts.0) in (front, parts.1)

first_line : (line other rest others : List ℕ) → IsLine line → IsLine other → line ++ 10 ∷ rest ≡ other ++ 10 ∷ others → (line ≡ other) × (rest ≡ others)
first_line [] [] rest others a b e = (refl, tails 10 10 rest others e)
first_line [] (d ∷ ds) rest others a b e = absurd (b.0 (sym (heads 10 d rest (ds ++ 10 ∷ others) e)))
first_line (c ∷ cs) [] rest others a b e = absurd (a.0 (heads c 10 (cs ++ 10 ∷ rest) others e))
first_line (c ∷ cs) (d ∷ ds) rest others a b e =
    grown c d cs ds rest others (heads c d (cs ++ 10 ∷ rest) (ds ++ 10 ∷ others) e)
    (first_line cs ds rest others a.1 b.1 (tails c d (cs ++ 10 ∷ rest) (ds ++ 10 ∷ others) e))

no_newline : (line front rest : List ℕ) → IsLine line → line ≡ front ++ 10 ∷ rest → ⊥
no_newline [] [] rest a e = cc
no_newline [] (d ∷ ds) rest a e = cc
no_newline (c ∷ cs) [] rest a e = a.0 (heads c 10 cs rest e)
no_newline (c ∷ cs) (d ∷ ds) rest a e = no_newline cs ds rest a.1 (tails c d cs (ds ++ 10 ∷ rest) e)

pub returns : goal.returns
returns c = record { first = first_line; last = no_newline }
