-- The earliest span that covers an address, as spans sorted by their first address are asked from the last one down.
use Rattle.std.proofs.Common.{◌≡◌, ◌<◌, ◌≤◌, ◌+◌, ◌-◌, ◌^◌, ◌&&◌, ℕ, zero, suc, Bool, true, false, cond, List, [], ◌∷◌, ◌++◌, Option, None, All, length, get_or, take, drop, max, ltb, leb, refl, sym, ap, subst, ◌∙◌, arith}
use Rattle.std.proofs.lemmas.Bool.{le-ltb}
use Rattle.std.proofs.lemmas.List.{take-append-drop, get_or-drop, length-drop}
use Rattle.std.proofs.lemmas.List.Elements.{All-nil, All-cons, All-head, All-tail}
use Rattle.std.proofs.Math.Seq.{take-suc}
use Rattle.call_frames.specs.Covering.{is_covering, earlier, earliest_with, earliest, last_of, greatest_ends}
use Rattle.call_frames.specs.declared.spans.Span.{Span}

-- the earliest of some spans and of one before
abbrev pub kept : ℕ → Option Span → List Span → Option Span
kept v best [] = best
kept v best (s ∷ ss) = earliest_with v s (kept v best ss)

pub kept_none : (v : ℕ) (ss : List Span) → earliest v ss ≡ kept v None ss
kept_none v [] = refl
kept_none v (s ∷ ss) = ap (earliest_with v s) (kept_none v ss)

pub kept-append : (v : ℕ) (best : Option Span) (ss rs : List Span) → kept v best (ss ++ rs) ≡ kept v (kept v best rs) ss
kept-append v best [] rs = refl
kept-append v best (s ∷ ss) rs = ap (earliest_with v s) (kept-append v best ss rs)

-- the last of those that are left is asked
pub kept_more : (v : ℕ) (best : Option Span) (ss : List Span) (i : ℕ) (d : Span) → i < length ss → kept v best (take (i + 1) ss) ≡ kept v (earliest_with v (get_or ss i d) best) (take i ss)
kept_more v best ss i d h =
    let up : i + 1 ≡ suc i = omega arith in
    ap (λ n. kept v best (take n ss)) up ∙ ap (kept v best) (take-suc ss i d h) ∙ kept-append v best (take i ss) (get_or ss i d ∷ [])

-- those that don't cover the address change nothing
pub kept_uncovered : (v : ℕ) (best : Option Span) (ss : List Span) → All (λ s. is_covering v s ≡ false) ss → kept v best ss ≡ best
kept_uncovered v best [] h = refl
kept_uncovered v best (s ∷ ss) h =
    ap (λ t. cond t (earlier s (kept v best ss)) (kept v best ss)) (All-head (λ s. is_covering v s ≡ false) s ss h) ∙ kept_uncovered v best ss (All-tail (λ s. is_covering v s ≡ false) s ss h)

neither : (t : Bool) → (t && false) ≡ false
neither true = refl
neither false = refl

-- a span that ends before the address does not cover it
uncovered : (v : ℕ) (s : Span) → v < 2 ^ 64 → last_of s < v → is_covering v s ≡ false
uncovered v s small h =
    let beyond : s.begin + (s.range - 1) < v = omega arith in
    let past : ltb v (s.begin + s.range) ≡ false = le-ltb v (s.begin + s.range) (omega arith) in
    ap (λ t. leb s.begin v && t) past ∙ neither (leb s.begin v)

-- the greatest ends never fall
reach_above : (m : ℕ) (ss : List Span) (i : ℕ) → i < length ss → m ≤ get_or (greatest_ends m ss) i 0
reach_above m [] i h = absurd (omega arith)
reach_above m (s ∷ ss) zero h = omega arith
reach_above m (s ∷ ss) (suc i) h =
    let later = reach_above (max (last_of s) m) ss i (omega arith) in omega arith

-- if the greatest end up to a span is before the address, none up to it covers the address
pub unreached : (v m : ℕ) (ss : List Span) (i : ℕ) → v < 2 ^ 64 → i < length ss → get_or (greatest_ends m ss) i 0 < v → All (λ s. is_covering v s ≡ false) (take (suc i) ss)
unreached v m [] i small h short = absurd (omega arith)
unreached v m (s ∷ ss) zero small h short =
    All-cons (λ s. is_covering v s ≡ false) s [] (uncovered v s small (omega arith)) (All-nil (λ s. is_covering v s ≡ false))
unreached v m (s ∷ ss) (suc i) small h short =
    let above = reach_above (max (last_of s) m) ss i (omega arith) in
    All-cons (λ s. is_covering v s ≡ false) s (take (suc i) ss) (uncovered v s small (omega arith)) (unreached v (max (last_of s) m) ss i small (omega arith) short)

pub stop_unreached : (v : ℕ) (best : Option Span) (ss : List Span) (ends : List ℕ) (i : ℕ) → v < 2 ^ 64 → i < length ss → ends ≡ greatest_ends 0 ss → get_or ends i 0 < v → kept v best (take (i + 1) ss) ≡ best
stop_unreached v best ss ends i small h is short =
    let short_too : get_or (greatest_ends 0 ss) i 0 < v = subst (λ (es : List ℕ). get_or es i 0 < v) is short in
    let up : i + 1 ≡ suc i = omega arith in
    ap (λ n. kept v best (take n ss)) up ∙ kept_uncovered v best (take (suc i) ss) (unreached v 0 ss i small h short_too)

-- those from the first greater address on cover nothing
pub kept_front : (v : ℕ) (ss : List Span) (n : ℕ) → ((k : ℕ) (d : Span) → n ≤ k → k < length ss → leb (get_or ss k d).begin v ≡ false) → n ≤ length ss → earliest v (take n ss) ≡ earliest v ss
kept_front v ss n greater h =
    let none : All (λ s. is_covering v s ≡ false) (drop n ss) = λ k d lt.
    ap (λ (s : Span). is_covering v s) (get_or-drop n ss k d) ∙ ap (λ t. t && ltb v ((get_or ss (n + k) d).begin + (get_or ss (n + k) d).range)) (greater (n + k) d (omega arith) (omega (arith, length-drop n ss, lt))) in
    kept_none v (take n ss)
    ∙ ap (λ best. kept v best (take n ss)) (sym (kept_uncovered v None (drop n ss) none))
    ∙ sym (kept-append v None (take n ss) (drop n ss))
    ∙ ap (kept v None) (take-append-drop n ss)
    ∙ sym (kept_none v ss)

pub length_ends : (m : ℕ) (ss : List Span) → length (greatest_ends m ss) ≡ length ss
length_ends m [] = refl
length_ends m (s ∷ ss) = ap suc (length_ends (max (last_of s) m) ss)
