-- Reads in a wider time.
use Rattle.std.proofs.Common.{◌≡◌, ℕ, [], ◌∷◌, ◌+◌, ◌-◌, ◌<◌, ◌≤◌, List, ◌++◌, length, take, drop, slice_index, sym, ap, ◌∙◌, subst, arith, length-drop, ◌⊎◌, inl, inr, ⊎_elim, Option, Some, IfSome, Result, Ok, Err, OnOk}
use Rattle.std.proofs.lemmas.Bool.{cases_lt}
use Rattle.std.proofs.lemmas.List.{length-take-le}
use Rattle.disk_model.specs.Places.{part, overwritten, SameOutside}
use Rattle.disk_model.specs.PlaceLaws.{overwritten_outside}
use Rattle.disk_model.specs.PartLaws.{part_overwritten, part_length, part_place, place_spared}
use Rattle.disk_model.specs.OverLaws.{put_over}
use Rattle.shared_disk.specs.History.{moment}
use Rattle.journal_layout.specs.declared.shape.Shape.{Shape}
use Rattle.journal_layout.specs.declared.shape.Half.{Half}
use Rattle.journal_layout.specs.declared.shape.Half.TheVariants.{A, B}
use Rattle.journal_layout.specs.Layout.{half_start}
use Rattle.shared_disk.specs.JournalLooks.{IsRead, IsReadIn, GivesSeen, OpensInTurn}
use Rattle.shared_disk.specs.declared.heads.Heads.{Heads}
use Rattle.shared_disk.specs.Heads.{ReadsGates, ReadsGenerations}
use Rattle.shared_disk.specs.Reading.{AreReadIn}

pub always_ok : {T E : Type 0} → (r : Result T E) (P : Type 0) → P → OnOk r P
always_ok (Ok x) P p = p
always_ok (Err e) P p = tt

pub wider : (one two : List (List ℕ)) (i j k m at place : ℕ) (bytes : List ℕ) → one ≡ two → k ≤ i → j ≤ m → at ≡ place → AreReadIn one i j at bytes → AreReadIn two k m place bytes
wider one two i j k m at place bytes same before after here read n below =
    let r = read n below in
    let low = r.1 in
    let high = r.2 in
    (r.0, omega (arith, before, low), omega (arith, after, high), r.3 ∙ ap (λ (l : List (List ℕ)). slice_index (moment l r.0) (at + n)) same ∙ ap (λ (p : ℕ). slice_index (moment two r.0) (p + n)) here)

-- bytes put into a part of a list
part_long : (x : List ℕ) (at n : ℕ) → at + n ≤ length x → length (take (at + n - at) (drop at x)) ≡ at + n - at
part_long x at n within = let d = length-drop at x in length-take-le (at + n - at) (drop at x) (omega (arith, d, within))

pub put_same : (x f : List ℕ) (at n : ℕ) → length f ≡ length (take (at + n - at) (drop at x)) → at + n ≤ length x → SameOutside at n x (take at x ++ (f ++ drop (at + n - at) (drop at x)))
put_same x f at n as_long within =
    let long = as_long ∙ part_long x at n within in
    let e : length f ≡ n = omega (arith, long) in
    subst (SameOutside at n x) (sym (put_over x f at (at + n - at) long)) (subst (λ (k : ℕ). SameOutside at k x (overwritten x at f)) e (overwritten_outside x at f (omega (arith, e, within))))

pub put_part : (x f : List ℕ) (at n : ℕ) → length f ≡ length (take (at + n - at) (drop at x)) → at + n ≤ length x → f ≡ part (take at x ++ (f ++ drop (at + n - at) (drop at x))) at n
put_part x f at n as_long within =
    let long = as_long ∙ part_long x at n within in
    let e : length f ≡ n = omega (arith, long) in
    sym (part_overwritten x at f (omega (arith, e, within))) ∙ ap (part (overwritten x at f) at) e ∙ ap (λ (l : List ℕ). part l at n) (sym (put_over x f at (at + n - at) long))

-- gates that were open in turn

pub turn_later : (moments : List (List ℕ)) (i j k : ℕ) (places : List ℕ) → j ≤ k → OpensInTurn moments i j places → OpensInTurn moments i k places
turn_later moments i j k [] more turn = omega (arith, more, turn)
turn_later moments i j k (p ∷ rest) more turn = (turn.0, turn.1, turn.2, turn_later moments turn.0 j k rest more turn.3)

pub turn_push : (moments : List (List ℕ)) (i j k m : ℕ) (places : List ℕ) (p : ℕ) → j ≤ m → m ≤ k → slice_index (moment moments m) p ≡ 165 → OpensInTurn moments i j places → OpensInTurn moments i k (places ++ p ∷ [])
turn_push moments i j k m [] p before after opened turn = (m, omega (arith, before, turn), opened, after)
turn_push moments i j k m (q ∷ rest) p before after opened turn = (turn.0, turn.1, turn.2, turn_push moments turn.0 j k m rest p before after opened turn.3)

-- in moments that are the same
pub opened_then : (one two : List (List ℕ)) (k p : ℕ) → one ≡ two → slice_index (moment one k) p ≡ 165 → slice_index (moment two k) p ≡ 165
opened_then one two k p same opened = ap (λ (l : List (List ℕ)). slice_index (moment l k) p) (sym same) ∙ opened

-- What was read in two runs, of which the second read one part more.
pub reads_more : (one two : List (List ℕ)) (i j k at n : ℕ) (front new : List ℕ) (P : ℕ → Type 0) → two ≡ one → i ≤ j → j ≤ k → GivesSeen one i j front P → AreReadIn two j k at (part new at n)
    → SameOutside at n front new → at + n ≤ length front → GivesSeen one i k new (λ p. P p ⊎ ((at ≤ p) × (p < at + n)))
reads_more one two i j k at n front new P same before after gives read others within p there =
    let long = others.same_length in
    let whole = part_length new at n (omega (arith, long, within)) in
    let inside : at ≤ p → p < at + n → IsReadIn one i k p (slice_index new p) =
    λ from below.
    let back : at + (p - at) ≡ p = omega (arith, from) in
    let r = read (p - at) (omega (arith, whole, from, below)) in
    let low = r.1 in
    let high = r.2 in
    let value : slice_index new p ≡ slice_index (moment one r.0) p =
    ap (slice_index new) (sym back) ∙ sym (part_place new at n (p - at) 0 (omega (arith, from, below))) ∙ r.3
    ∙ ap (λ (l : List (List ℕ)). slice_index (moment l r.0) (at + (p - at))) same ∙ ap (slice_index (moment one r.0)) back in
    (r.0, omega (arith, low, before), high, value) in
    let outside : (p < at) ⊎ (at + n ≤ p) → P p → IsReadIn one i k p (slice_index new p) =
    λ apart was.
    let r = gives p was in
    let high = r.2 in
    (r.0, r.1, omega (arith, high, after), place_spared at n front new others p 0 apart ∙ r.3) in
    ⊎_elim
    (λ was. ⊎_elim
    (λ below. outside (inl below) was)
    (λ from. ⊎_elim (λ low. inside from low) (λ high. outside (inr high) was) (cases_lt p (at + n)))
    (cases_lt p at))
    (λ part_there. inside part_there.0 part_there.1)
    there

-- and nothing before it
pub reads_first : (moments : List (List ℕ)) (i j : ℕ) (front : List ℕ) → i ≤ j → GivesSeen moments i j front (λ p. ⊥)
reads_first moments i j front le p none = absurd none

-- the parts that are read of a front, one after the other
abbrev pub Parts : ℕ → ℕ → ℕ → ℕ → ℕ → Type 0
Parts a b start n p = (((⊥ ⊎ ((0 ≤ p) × (p < 0 + 24))) ⊎ ((a ≤ p) × (p < a + 32))) ⊎ ((b ≤ p) × (p < b + 32))) ⊎ ((start ≤ p) × (p < start + n))

pub parts_read : (shape : Shape) (half : Half) (behind a b start n p : ℕ) → a ≡ half_start shape A → b ≡ half_start shape B → start ≡ half_start shape half → n ≡ behind + 1 - start → start ≤ behind
    → IsRead shape half behind p → Parts a b start n p
parts_read shape half behind a b start n p is_a is_b is_start is_n low there =
    ⊎_elim
    (λ head. inl (inl (inl (inr (omega arith, omega (arith, head))))))
    (λ more. ⊎_elim
    (λ header. of header.0 header.1 header.2)
    (λ part_there. let from = part_there.0 in let below = part_there.1 in inr (omega (arith, is_start, from), omega (arith, below, is_n, low)))
    more)
    there
  where
    of : (h : Half) → half_start shape h ≤ p → p < half_start shape h + 32 → Parts a b start n p
    of A from below = inl (inl (inr (omega (arith, is_a, from), omega (arith, is_a, below))))
    of B from below = inl (inr (omega (arith, is_b, from), omega (arith, is_b, below)))

-- what is said of what is there
pub if_some : {T : Type 0} (P : T → Type 0) (o : Option T) (x : T) → o ≡ Some x → IfSome o P → P x
if_some {T} P o x same is = subst (λ (y : Option T). IfSome y P) same is

-- the same of moments that are the same

pub turn_in : (one two : List (List ℕ)) (i j : ℕ) (places : List ℕ) → one ≡ two → OpensInTurn one i j places → OpensInTurn two i j places
turn_in one two i j places same turn = subst (λ (l : List (List ℕ)). OpensInTurn l i j places) same turn

pub seen_in : (one two : List (List ℕ)) (i j : ℕ) (seen : List ℕ) (P : ℕ → Type 0) → one ≡ two → GivesSeen one i j seen P → GivesSeen two i j seen P
seen_in one two i j seen P same gives = subst (λ (l : List (List ℕ)). GivesSeen l i j seen P) same gives

pub gates_in : (one two : List (List ℕ)) (i j : ℕ) (shape : Shape) (h : Heads) → one ≡ two → ReadsGates one i j shape h → ReadsGates two i j shape h
gates_in one two i j shape h same reads = subst (λ (l : List (List ℕ)). ReadsGates l i j shape h) same reads

pub generations_in : (one two : List (List ℕ)) (i j : ℕ) (shape : Shape) (h : Heads) → one ≡ two → ReadsGenerations one i j shape h → ReadsGenerations two i j shape h
generations_in one two i j shape h same reads = subst (λ (l : List (List ℕ)). ReadsGenerations l i j shape h) same reads
