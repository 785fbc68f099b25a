use Rattle.std.proofs.Common.{◌≡◌, ◌+◌, ℕ, Bool, List, drop, take, sym, subst, ◌∙◌, arith}
use Rattle.std.proofs.lemmas.List.{length-drop}
use Rattle.windowed_search.specs.TextBytes.{AreOf, front_len}
use Rattle.windowed_search.proofs.TextLemmas.{front_are, front_more, front_none, front_stops}
use Rattle.windowed_search.proofs.memory_texts.front_len.Goals as goal

-- no more such bytes come
ended : (text : Bool) (bytes : List ℕ) (count rest : ℕ) → front_len text bytes ≡ count + rest → rest ≡ 0 → count ≡ front_len text bytes
ended text bytes count rest is none = omega (arith, is, none)

are_first : (text : Bool) (bytes : List ℕ) (count : ℕ) → count ≡ front_len text bytes → AreOf text (take count bytes)
are_first text bytes count is = subst (λ n. AreOf text (take n bytes)) (sym is) (front_are text bytes)

at_other : goal.returns-then-not-is_of-clause-count
at_other c =
    ended c.args.text c.args.bytes.now c.loop-count.count _ c.loop-count.invariant.front
    (front_stops c.args.text c.args.bytes.now c.loop-count.count _ c.loop-count-test.true (sym c.is_of.ensures ∙ c.if-not-is_of.true))

pub returns-then-not-is_of-clause-count : goal.returns-then-not-is_of-clause-count
returns-then-not-is_of-clause-count c = at_other c

pub returns-then-not-is_of-clause-are : goal.returns-then-not-is_of-clause-are
returns-then-not-is_of-clause-are c = are_first c.args.text c.args.bytes.now c.loop-count.count
    (ended c.args.text c.args.bytes.now c.loop-count.count _ c.loop-count.invariant.front
    (front_stops c.args.text c.args.bytes.now c.loop-count.count _ c.loop-count-test.true (sym c.is_of.ensures ∙ c.if-not-is_of.true)))

pub loop-count-preserved : goal.loop-count-preserved
loop-count-preserved c =
    let more = front_more c.args.text c.args.bytes.now c.loop-count.count _ c.loop-count-test.true (sym c.is_of.ensures ∙ c.if-not-is_of.false) in
    record {
      within = omega (arith, c.loop-count-test.true);
      front = (let front = c.loop-count.invariant.front in omega (arith, front, more));
    }

pub returns-clause-count : goal.returns-clause-count
returns-clause-count c =
    let bytes = c.args.bytes.now in
    let left = length-drop c.loop-count.count bytes in
    ended c.args.text bytes c.loop-count.count _ c.loop-count.invariant.front (front_none c.args.text (drop c.loop-count.count bytes) (omega (arith, left, c.loop-count-test.false)))

pub returns-clause-are : goal.returns-clause-are
returns-clause-are c =
    let bytes = c.args.bytes.now in
    let left = length-drop c.loop-count.count bytes in
    are_first c.args.text bytes c.loop-count.count
    (ended c.args.text bytes c.loop-count.count _ c.loop-count.invariant.front (front_none c.args.text (drop c.loop-count.count bytes) (omega (arith, left, c.loop-count-test.false))))
