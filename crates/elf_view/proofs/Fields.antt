-- byteorder's numbers are fields of the slice that it reads from.
use Rattle.std.proofs.Common.{◌≡◌, ℕ, zero, suc, ◌+◌, ◌*◌, ◌<◌, ◌≤◌, List, take, drop, get_or, refl, ap, ◌∙◌, arith}
use Rattle.std.proofs.lemmas.List.{get_or-take, get_or-drop}
use Rattle.byteorder.specs.Endian.{little_from}
use Rattle.elf_view.specs.Field.{field}

digit : (b : List ℕ) (at n i : ℕ) → i < n → get_or (take n (drop at b)) i 0 ≡ get_or b (at + i) 0
digit b at n i h = get_or-take n (drop at b) i 0 h ∙ get_or-drop at b i 0

-- the number in w bytes from place i of a stretch that begins at place at
reads_from : (b : List ℕ) (at n i w : ℕ) → i + w ≤ n → little_from i w (take n (drop at b)) ≡ field b (at + i) w
unfolding field
reads_from b at n i zero h = refl
reads_from b at n i (suc w) h =
    let first = digit b at n i (omega arith) in
    let place : at + suc i ≡ at + i + 1 = omega arith in
    let rest : little_from (suc i) w (take n (drop at b)) ≡ field b (at + i + 1) w = reads_from b at n (suc i) w (omega arith) ∙ ap (λ p. field b p w) place in
    ap (λ x. x + 256 * little_from (suc i) w (take n (drop at b))) first ∙ ap (λ y. get_or b (at + i) 0 + 256 * y) rest

-- the number at the front of a stretch is the field there
pub reads_field : (b : List ℕ) (at n w : ℕ) → w ≤ n → little_from 0 w (take n (drop at b)) ≡ field b at w
reads_field b at n w h =
    let place : at + 0 ≡ at = omega arith in reads_from b at n 0 w (omega arith) ∙ ap (λ p. field b p w) place
