-- Steps of a Drop record's numbers.
use Rattle.std.proofs.Common.{◌≡◌, ℕ, ◌+◌, ◌-◌, ◌*◌, ◌<◌, ◌≤◌, Bool, true, false, ◌||◌, cond, List, [], ◌∷◌, drop, Some, ap, ◌∙◌, arith}
use Rattle.std.specs.Prelude.{nat_le}
use Rattle.journal_layout.specs.Case.{Case}
use Rattle.journal_layout.specs.Layout.{field}
use Rattle.journal_layout.specs.Reading.{seqs_at}
use Rattle.journal_layout.specs.Soundness.{case_numbered}
use Rattle.journal_layout.specs.Checks.{first_bad_seq, is_kept}
use Rattle.journal_records.proofs.ByteLemmas.{seqs_step}

-- the number may not follow the number `last`
abbrev pub is_bad : List Case → ℕ → ℕ → Bool
is_bad cases last seq = nat_le seq last || is_kept (case_numbered seq cases)

pub seq_bad : (cases : List Case) (last p n : ℕ) (rest : List ℕ) → 0 < n → is_bad cases last (field rest p 4) ≡ true → first_bad_seq cases last p (seqs_at (drop p rest) n) ≡ Some p
seq_bad cases last p n rest some bad =
    ap (first_bad_seq cases last p) (seqs_step p n rest some)
    ∙ ap (λ t. cond t (Some p) (first_bad_seq cases (field rest p 4) (p + 4) (seqs_at (drop (p + 4) rest) (n - 1)))) bad

pub seq_good : (cases : List Case) (last p n : ℕ) (rest : List ℕ) → 0 < n → is_bad cases last (field rest p 4) ≡ false
    → first_bad_seq cases last p (seqs_at (drop p rest) n) ≡ first_bad_seq cases (field rest p 4) (p + 4) (seqs_at (drop (p + 4) rest) (n - 1))
seq_good cases last p n rest some good =
    ap (first_bad_seq cases last p) (seqs_step p n rest some)
    ∙ ap (λ t. cond t (Some p) (first_bad_seq cases (field rest p 4) (p + 4) (seqs_at (drop (p + 4) rest) (n - 1)))) good

-- the place and the count of those after the index
pub seqs_next : (cases : List Case) (last index count : ℕ) (rest : List ℕ)
    → first_bad_seq cases last (12 + 4 * index + 4) (seqs_at (drop (12 + 4 * index + 4) rest) (count - index - 1))
    ≡ first_bad_seq cases last (12 + 4 * (index + 1)) (seqs_at (drop (12 + 4 * (index + 1)) rest) (count - (index + 1)))
seqs_next cases last index count rest =
    let e : 12 + 4 * index + 4 ≡ 12 + 4 * (index + 1) = omega arith in
    let f : count - index - 1 ≡ count - (index + 1) = omega arith in
    ap (λ p. first_bad_seq cases last p (seqs_at (drop p rest) (count - index - 1))) e
    ∙ ap (λ n. first_bad_seq cases last (12 + 4 * (index + 1)) (seqs_at (drop (12 + 4 * (index + 1)) rest) n)) f

-- the number at an index, and those after it
pub seqs_here : (index count : ℕ) (rest : List ℕ) → index < count
    → seqs_at (drop (12 + 4 * index) rest) (count - index) ≡ field rest (12 + 4 * index) 4 ∷ seqs_at (drop (12 + 4 * (index + 1)) rest) (count - (index + 1))
seqs_here index count rest below =
    let p = 12 + 4 * index in
    let e : p + 4 ≡ 12 + 4 * (index + 1) = omega arith in
    let f : count - index - 1 ≡ count - (index + 1) = omega arith in
    seqs_step p (count - index) rest (omega arith)
    ∙ ap (λ k. field rest p 4 ∷ seqs_at (drop k rest) (count - index - 1)) e
    ∙ ap (λ k. field rest p 4 ∷ seqs_at (drop (12 + 4 * (index + 1)) rest) k) f

pub seqs_none : (p count index : ℕ) (rest : List ℕ) → count ≤ index → seqs_at (drop p rest) (count - index) ≡ []
seqs_none p count index rest past = (let e : count - index ≡ 0 = omega arith in ap (seqs_at (drop p rest)) e)
