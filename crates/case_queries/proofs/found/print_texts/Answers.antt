use Rattle.std.proofs.Common.{◌≡◌, ◌+◌, ◌-◌, ℕ, zero, suc, List, [], ◌∷◌, ◌++◌, take, drop, length, refl, ap, sym, ◌∙◌, arith}
use Rattle.std.proofs.lemmas.List.{drop_all, drop_more, length-drop, take_all}
use Rattle.elf_view.specs.Field.{part}
use Rattle.memory_replies.proofs.PrintLemmas.{up_to_end, up_to_start_as, up_to_then}
use Rattle.case_queries.specs.Finding.{line_of_text, lines_of_texts}
use Rattle.case_queries.proofs.found.print_texts.Goals as goal

drop_took : (n : ℕ) (xs : List ℕ) → drop (length (take n xs)) xs ≡ drop n xs
drop_took zero xs = refl
drop_took (suc n) [] = refl
drop_took (suc n) (x ∷ xs) = drop_took n xs

-- a slice up to the end
rest_is : (xs : List ℕ) (m : ℕ) → take (length xs - m) (drop m xs) ≡ drop m xs
rest_is xs m = take_all (length xs - m) (drop m xs) (let left = length-drop m xs in omega (arith, left))

-- the next text, and those after it
one_told : (places : List (ℕ × ℕ)) (i : ℕ) (x : ℕ × ℕ) (rest text others : List ℕ) → drop i places ≡ x ∷ drop (i + 1) places → text ≡ part rest 0 x.1 → others ≡ drop (length text) rest
    → lines_of_texts (drop i places) rest ≡ line_of_text x text ++ lines_of_texts (drop (i + 1) places) others
one_told places i x rest text others next is left =
    let behind : drop x.1 rest ≡ others = sym (drop_took x.1 rest) ∙ ap (λ (t : List ℕ). drop (length t) rest) (sym is) ∙ sym left in
    ap (λ ps. lines_of_texts ps rest) next
    ∙ ap (λ t. line_of_text x t ++ lines_of_texts (drop (i + 1) places) (drop x.1 rest)) (sym is)
    ∙ ap (λ b. line_of_text x text ++ lines_of_texts (drop (i + 1) places) b) behind

pub loop-i-init : goal.loop-i-init
loop-i-init g c = up_to_start_as (ap (lines_of_texts c.args.texts.now.places.items) (sym c.as_slice-rest.ensures.value))

pub loop-i-preserved : goal.loop-i-preserved
loop-i-preserved g c =
    let places = c.args.texts.now.places.items in
    let i = c.loop-i.i in
    let x = c.index.result.now in
    let next : drop i places ≡ x ∷ drop (i + 1) places = drop_more places i x (omega (arith, c.loop-i-test.true, c.len-i-end.ensures)) ∙ ap (λ y. y ∷ drop (i + 1) places) (sym c.index.ensures) in
    up_to_then (one_told places i x c.loop-i.rest.now c.part-text.result.now _ next c.part-text.ensures (rest_is c.loop-i.rest.now (length c.part-text.result.now))) c.loop-i.invariant c.print_text.ensures

pub returns : goal.returns
returns g c = up_to_end (ap (λ ps. lines_of_texts ps c.loop-i.rest.now) (drop_all c.loop-i.i c.args.texts.now.places.items (omega (arith, c.loop-i-test.false, c.len-i-end.ensures)))) c.loop-i.invariant
