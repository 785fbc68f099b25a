-- Names in tables, and the words of a thread's registers one by one.
use Rattle.std.proofs.Common.{◌≡◌, ◌<◌, ◌≤◌, ◌+◌, ◌-◌, ℕ, suc, List, [], ◌++◌, Option, Some, refl, ap, ◌∙◌, arith}
use Rattle.image_replies.specs.Threads.{name_or_nothing, register_line, register_lines_from}

pub name_found : (name : List ℕ) (found : Option (List ℕ)) → Some name ≡ found → name ≡ name_or_nothing found
name_found name found is = ap name_or_nothing is

none : (d : List ℕ) (word : ℕ) → register_lines_from d word 0 ≡ []
unfolding register_lines_from
none d word = refl

pub no_registers : (d : List ℕ) (word : ℕ) → 32 ≤ word → register_lines_from d word (32 - word) ≡ []
no_registers d word h =
    let e : 32 - word ≡ 0 = omega arith in ap (register_lines_from d word) e ∙ none d word

one_register : (d : List ℕ) (word n : ℕ) → register_lines_from d word (suc n) ≡ register_line d word ++ register_lines_from d (word + 1) n
unfolding register_lines_from
one_register d word n = refl

pub first_register : (d : List ℕ) (word : ℕ) → word < 32 → register_lines_from d word (32 - word) ≡ register_line d word ++ register_lines_from d (word + 1) (32 - (word + 1))
first_register d word h =
    let e : 32 - word ≡ suc (32 - (word + 1)) = omega arith in
    ap (register_lines_from d word) e ∙ one_register d word (32 - (word + 1))
