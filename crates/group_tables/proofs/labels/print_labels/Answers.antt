use Rattle.std.proofs.Common.{◌≡◌, ◌≤◌, ◌<◌, ◌-◌, ℕ, List, [], ◌∷◌, ◌++◌, ap, drop, get_or, length, map, refl, sym, take, ◌∙◌, arith}
use Rattle.std.proofs.lemmas.List.{length-map, take_all}
use Rattle.std.specs.Borrow.{Bor}
use Rattle.std.specs.Prelude.{codes}
use Rattle.script_words.specs.Printing.{shown}
use Rattle.script_streams.specs.PrintLaws.{prints_as, prints_then}
use Rattle.group_tables.specs.Summary.{labels_text, more_text}
use Rattle.group_tables.proofs.labels.print_labels.Goals as goal

one_label : (ls : List (Bor (List ℕ))) (d : Bor (List ℕ)) → 1 ≤ length ls → length ls < 2 → shown (get_or ls 0 d).now ≡ labels_text (map (λ (l : Bor (List ℕ)). l.now) ls)
one_label [] d some few = absurd (omega (arith, some))
one_label (a ∷ []) d some few = refl
one_label (a ∷ b ∷ ls) d some few = absurd (omega (arith, few))

two_labels : (ls : List (Bor (List ℕ))) (d : Bor (List ℕ)) → 2 ≤ length ls
    → shown (get_or ls 0 d).now ++ (codes "," ++ (shown (get_or ls 1 d).now ++ more_text (length (take (length ls - 2) (drop 2 ls))))) ≡ labels_text (map (λ (l : Bor (List ℕ)). l.now) ls)
two_labels [] d some = absurd (omega (arith, some))
two_labels (a ∷ []) d some = absurd (omega (arith, some))
two_labels (a ∷ b ∷ ls) d some =
    let on : length (a ∷ b ∷ ls) - 2 ≡ length ls = omega arith in
    let rest = ap length (ap (λ n. take n ls) on ∙ take_all (length ls) ls (omega arith)) ∙ sym (length-map ls (λ (l : Bor (List ℕ)). l.now)) in
    ap (λ n. shown a.now ++ (codes "," ++ (shown b.now ++ more_text n))) rest

pub returns-in-len1 : goal.returns-in-len1
returns-in-len1 g c = prints_as (one_label c.args.labels.now _ c.in-len1.len_at_least c.in-len1.len_below) c.print_text.ensures

pub returns-in-len2-up : goal.returns-in-len2-up
returns-in-len2-up g c =
    prints_as (two_labels c.args.labels.now _ c.in-len2-up.len_at_least)
    (prints_then c.print_text-in-len2-up.ensures (prints_then c.print-in-len2-up.ensures (prints_then c.print_text-in-len2-up-2.ensures c.print_more.ensures)))
