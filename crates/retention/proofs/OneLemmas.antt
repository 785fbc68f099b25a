-- The rule says one thing.
use Rattle.std.proofs.Common.{◌≡◌, ℕ, ◌<◌, Bool, not, List, map, ap, sym, ◌∙◌, arith, ⊎_elim}
use Rattle.std.proofs.lemmas.Bool.{cases_lt}
use Rattle.retention.specs.Rule.{IsDecision, IsOneDecision, goes, seq_of}
use Rattle.retention.specs.declared.Brief.{Brief}
use Rattle.retention.specs.declared.Policy.{Policy}

-- no decision drops fewer of the spare cases than another one
none_fewer : (policy : Policy) (cases : List Brief) (dropped dropped' : List ℕ) (unmet unmet' : Bool) (a : IsDecision policy cases dropped unmet) (b : IsDecision policy cases dropped' unmet') → a.count < b.count → ⊥
none_fewer policy cases dropped dropped' unmet unmet' a b fewer =
    let all = a.all_where_unmet (a.unmet_is ∙ ap not (b.fewer_fail a.count fewer)) in
    let most = b.within in
    omega (arith, all, most, fewer)

one_count : (policy : Policy) (cases : List Brief) (dropped dropped' : List ℕ) (unmet unmet' : Bool) (a : IsDecision policy cases dropped unmet) (b : IsDecision policy cases dropped' unmet') → a.count ≡ b.count
one_count policy cases dropped dropped' unmet unmet' a b =
    ⊎_elim
    (λ fewer. absurd (none_fewer policy cases dropped dropped' unmet unmet' a b fewer))
    (λ le. ⊎_elim (λ fewer. absurd (none_fewer policy cases dropped' dropped unmet' unmet b a fewer)) (λ ge. omega (arith, le, ge)) (cases_lt b.count a.count))
    (cases_lt a.count b.count)

pub one_decision : IsOneDecision
one_decision policy cases dropped dropped' unmet unmet' a b =
    a.dropped_are ∙ ap (λ (n : ℕ). map seq_of (goes policy n cases)) (one_count policy cases dropped dropped' unmet unmet' a b) ∙ sym b.dropped_are
