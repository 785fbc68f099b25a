-- A record filled up with zeros to its size.
use Rattle.std.proofs.Common.{◌≡◌, ◌≤◌, ℕ, ◌+◌, ◌-◌, List, [], ◌∷◌, ◌++◌, length, replicate, take, refl, sym, ap, ◌∙◌, arith, append_assoc}
use Rattle.std.proofs.lemmas.List.{replicate-append-replicate, take_all}
use Rattle.journal_layout.specs.Record.{Record, plain, plain_size, behind_gate, record_size, spelling}
use Rattle.journal_layout.specs.SpellLaws.{length-plain}

-- padding and the closed gate after it
padded : (n : ℕ) (z : List ℕ) → z ≡ 0 ∷ [] → replicate n 0 ++ z ≡ replicate (n + 1) 0
padded n z is = ap (λ xs. replicate n 0 ++ xs) is ∙ replicate-append-replicate n 1 0

-- a record's bytes without its padding, filled up with zeros to its size, are the record after its gate and a closed gate
filled : (r : Record) (n : ℕ) → n ≡ length (plain r) → plain r ++ replicate (record_size r - n) 0 ≡ behind_gate r ++ 0 ∷ []
unfolding behind_gate
filled r n is =
    let len = length-plain r in
    let e : record_size r - n ≡ record_size r - plain_size r + 1 = omega arith in
    ap (λ k. plain r ++ replicate k 0) e
    ∙ ap (λ xs. plain r ++ xs) (sym (padded (record_size r - plain_size r) (0 ∷ []) refl))
    ∙ sym (append_assoc (plain r) (replicate (record_size r - plain_size r) 0) (0 ∷ []))

fits_in : (r : Record) → length (plain r) ≤ record_size r
fits_in r = let len = length-plain r in omega arith

-- the same in the words of a `resize`
pub resized : (r : Record) (v : List ℕ) (n size : ℕ) → v ≡ plain r → size ≡ record_size r → n ≡ length v → take size v ++ replicate (size - n) 0 ≡ behind_gate r ++ 0 ∷ []
resized r v n size is same len =
    let fits : length v ≤ size = (rw (is, same) (fits_in r)) in
    ap (λ xs. xs ++ replicate (size - n) 0) (take_all size v fits)
    ∙ ap (λ xs. xs ++ replicate (size - n) 0) is
    ∙ ap (λ s. plain r ++ replicate (s - n) 0) same
    ∙ filled r n (len ∙ ap length is)

-- the same of a record whose gate is open
pub resized_open : (r : Record) (v : List ℕ) (n size : ℕ) → v ≡ 165 ∷ plain r → size ≡ record_size r → n ≡ length v → take size v ++ replicate (size - n) 0 ≡ spelling r
unfolding behind_gate
resized_open r v n size is same len =
    let long : length v ≡ plain_size r = (let a = ap length is in let b = length-plain r in omega (arith, a, b)) in
    let fits : length v ≤ size = omega (arith, long, same) in
    let rest : size - n ≡ record_size r - plain_size r = omega (arith, long, same, len) in
    ap (λ (xs : List ℕ). xs ++ replicate (size - n) 0) (take_all size v fits ∙ is)
    ∙ ap (λ (k : ℕ). (165 ∷ plain r) ++ replicate k 0) rest
