use Rattle.std.proofs.Common.{◌≡◌, map, subst, sym, rules}
use Rattle.std.proofs.lemmas.Cmp.{nat_list_cmp_total}
use Rattle.std.proofs.lemmas.Fn.{always_returns_same}
use Rattle.std.proofs.lemmas.List.Sorted.{IsNonDecreasingBy-from_sort_by_key, IsPermutation-map, ranks_by}
use Rattle.std.specs.Borrow.{Bor}
use Rattle.std.specs.Cmp.Lexicographic.{slice_cmp}
use Rattle.std.specs.Ordering.{is_lt, nat_cmp}
use Rattle.journal_layout.specs.Case.{Case, case_of}
use Rattle.journal_layout.specs.declared.entry.Entry.{Entry}
use Rattle.case_tables.specs.Order.{IsShown, rank}
use Rattle.case_tables.proofs.OrderLemmas.{risen, sorted}
use Rattle.case_tables.proofs.order.put_in_order.Goals as goal

abbrev seen : Bor Entry → Case
seen e = case_of e.now

pub returns-in-Time : goal.returns-in-Time
returns-in-Time c =
    let after = c.sort_unstable_by_key.new.self.items in
    let up = IsNonDecreasingBy-from_sort_by_key (λ e. rank (seen e).origin.time (seen e).seq) after c.sort_unstable_by_key.ensures.sorted (λ a r q k. search rules) in
    subst (λ o. IsShown o (map seen c.args.cases.now.items) (map seen after)) (sym c.in-Time.is)
    (IsPermutation-map seen _ _ c.sort_unstable_by_key.ensures.permutation, risen seen (λ k. rank k.origin.time k.seq) after up)

pub returns-in-Size : goal.returns-in-Size
returns-in-Size c =
    let after = c.sort_unstable_by_key-in-Size.new.self.items in
    let up = IsNonDecreasingBy-from_sort_by_key (λ e. rank (seen e).len (seen e).seq) after c.sort_unstable_by_key-in-Size.ensures.sorted (λ a r q k. search rules) in
    subst (λ o. IsShown o (map seen c.args.cases.now.items) (map seen after)) (sym c.in-Size.is)
    (IsPermutation-map seen _ _ c.sort_unstable_by_key-in-Size.ensures.permutation, risen seen (λ k. rank k.len k.seq) after up)

pub returns-in-Name : goal.returns-in-Name
returns-in-Name c =
    let after = c.sort_unstable_by.new.self.items in
    let name : Case → _ = λ k. k.origin.name in
    let less : Bor Entry → Bor Entry → _ = λ a b. is_lt (slice_cmp nat_cmp (name (seen a)) (name (seen b))) in
    let up = c.sort_unstable_by.ensures.sorted less (ranks_by nat_list_cmp_total (λ e. name (seen e))) (always_returns_same _ (λ a r. is_lt r ≡ less a.0.now a.1.0.now) _ (λ a r q k. search rules)) in
    subst (λ o. IsShown o (map seen c.args.cases.now.items) (map seen after)) (sym c.in-Name.is)
    (IsPermutation-map seen _ _ c.sort_unstable_by.ensures.permutation, sorted seen (λ a b. is_lt (slice_cmp nat_cmp (name a) (name b))) after up)
