-- Bytes in a row.
use Rattle.std.proofs.Common.{◌≡◌, ◌≤◌, ◌<◌, ℕ, ◌+◌, ◌-◌, List, ◌++◌, take, drop, length, append_assoc, ap, sym, ◌∙◌, arith}
use Rattle.std.proofs.lemmas.List.{drop-drop, drop-take, length-drop, length-take, take-append-drop}
use Rattle.std.proofs.Math.Seq.{take-append_seam}
use Rattle.elf_view.specs.Field.{part}
use Rattle.seen_memory.specs.Parts.{IsPartOf}

-- the first bytes of the first bytes
firsts : (xs : List ℕ) (m k : ℕ) → take m (take k xs) ≡ take (length (take m (take k xs))) xs
firsts xs m k =
    let a = take k xs in
    let f = take m a in
    let whole : xs ≡ f ++ (drop m a ++ drop k xs) = sym (take-append-drop k xs) ∙ ap (λ (t : List ℕ). t ++ drop k xs) (sym (take-append-drop m a)) ∙ append_assoc f (drop m a) (drop k xs) in
    sym (ap (take (length f)) whole ∙ take-append_seam f (drop m a ++ drop k xs))

-- bytes of a part are bytes of the image
pub of_part : (image bytes found : List ℕ) (at place skipped most : ℕ) → bytes ≡ part image at (length bytes) → found ≡ part bytes skipped most → place ≡ at + skipped → 0 < length found → IsPartOf image place found
of_part image bytes found at place skipped most is has where_ some =
    let l1 = ap length has in
    let l2 = length-take most (drop skipped bytes) in
    let l3 = length-drop skipped bytes in
    let few : skipped ≤ length bytes = omega (arith, some, l1, l2, l3) in
    let split : length bytes ≡ skipped + (length bytes - skipped) = omega (arith, few) in
    let k = length bytes - skipped in
    let there : part bytes skipped most ≡ take most (take k (drop place image)) =
    ap (λ b. take most (drop skipped b)) (is ∙ ap (part image at) split) ∙ ap (take most) (drop-take skipped k (drop at image) ∙ ap (take k) (drop-drop skipped at image ∙ ap (λ n. drop n image) (sym where_))) in
    let all = has ∙ there in
    all ∙ firsts (drop place image) most k ∙ ap (λ n. take n (drop place image)) (ap length (sym all))

-- a part, and the bytes after it
pub one_after : (image old more : List ℕ) (start : ℕ) → IsPartOf image start old → IsPartOf image (start + length old) more → IsPartOf image start (old ++ more)
one_after image old more start is next =
    let xs = drop start image in
    let n = length old in
    let m = length more in
    let far : drop (start + n) image ≡ drop n xs = sym (drop-drop n start image) in
    let rest : more ≡ take m (drop n xs) = next ∙ ap (take m) far in
    let whole : xs ≡ (old ++ more) ++ drop m (drop n xs) =
    sym (take-append-drop n xs) ∙ ap (λ (t : List ℕ). t ++ drop n xs) (sym is) ∙ ap (λ (t : List ℕ). old ++ t) (sym (take-append-drop m (drop n xs)) ∙ ap (λ (t : List ℕ). t ++ drop m (drop n xs)) (sym rest)) ∙ sym (append_assoc old more (drop m (drop n xs))) in
    sym (ap (take (length (old ++ more))) whole ∙ take-append_seam (old ++ more) (drop m (drop n xs)))
