use Rattle.std.proofs.Common.{◌≡◌, ◌+◌, ◌-◌, ◌++◌, ◌∙◌, List, ℕ, Bor, length, ap, sym, arith, append_assoc}
use Rattle.windowed_search.specs.Places.{last_of, places}
use Rattle.windowed_search.proofs.Windowing.{first_of, tail_of, windows}
use Rattle.windowed_search.proofs.search.Search.feed.Goals as goal

pub returns-clause-fed : goal.returns-clause-fed
returns-clause-fed c base xs fed =
    let s = c.args.self.now in
    let t = c.take_in.new.self in
    let n = length s.needle.now - 1 in
    let w = c.args.window.now in
    let others = c.in_ok-take_in.ensures.others in
    let bytes : t.bytes.items ≡ last_of n xs ++ w = c.in_ok-take_in.ensures.bytes ∙ ap (λ x. x ++ w) fed.tail in
    let same : t.needle ≡ s.needle = others.0 in
    let count : length t.needle.now - 1 ≡ n = ap (λ (x : Bor (List ℕ)). length x.now - 1) same in
    let last : c.keep_tail.new.self.needle ≡ s.needle = c.in_ok-keep_tail.ensures.needle ∙ same in
    let m : length c.keep_tail.new.self.needle.now - 1 ≡ n = ap (λ (x : Bor (List ℕ)). length x.now - 1) last in
    record {
      tail =
          c.in_ok-keep_tail.ensures.tail
          ∙ ap (λ k. last_of k t.bytes.items) count
          ∙ ap (last_of n) bytes
          ∙ tail_of n xs w
          ∙ ap (λ k. last_of k (xs ++ w)) (sym m);
      first =
          c.in_ok-keep_tail.ensures.first
          ∙ ap (λ k. t.first + (length t.bytes.items - k)) count
          ∙ ap (λ b. t.first + (length b - n)) bytes
          ∙ ap (λ f. f + (length (last_of n xs ++ w) - n)) (others.1 ∙ fed.first)
          ∙ (let all = first_of n xs w in omega (arith, all))
          ∙ ap (λ k. base + (length (xs ++ w) - k)) (sym m);
    }

pub returns-clause-found : goal.returns-clause-found
returns-clause-found c base xs old fed before =
    let s = c.args.self.now in
    let t = c.take_in.new.self in
    let n = length s.needle.now - 1 in
    let w = c.args.window.now in
    let others = c.in_ok-take_in.ensures.others in
    let bytes : t.bytes.items ≡ last_of n xs ++ w = c.in_ok-take_in.ensures.bytes ∙ ap (λ x. x ++ w) fed.tail in
    let first : t.first ≡ base + (length xs - n) = others.1 ∙ fed.first in
    let before_all = places s.needle.now base xs in
    c.in_ok-add_places.ensures
    ∙ ap (λ x. x ++ places t.needle.now t.first c.deref.result.now) before
    ∙ ap (λ b. (old ++ before_all) ++ places t.needle.now t.first b) (c.deref.ensures.value ∙ bytes)
    ∙ ap (λ (x : Bor (List ℕ)). (old ++ before_all) ++ places x.now t.first (last_of n xs ++ w)) others.0
    ∙ ap (λ f. (old ++ before_all) ++ places s.needle.now f (last_of n xs ++ w)) first
    ∙ append_assoc old before_all _
    ∙ ap (λ x. old ++ x) (sym (windows s.needle.now xs w base s.some))
