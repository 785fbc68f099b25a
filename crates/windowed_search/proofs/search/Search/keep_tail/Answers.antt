use Rattle.std.proofs.Common.{◌≡◌, ◌-◌, ◌++◌, ◌∙◌, List, ℕ, length, drop, take, ap, arith}
use Rattle.std.proofs.lemmas.List.{take_all, length-drop}
use Rattle.windowed_search.proofs.search.Search.keep_tail.Goals as goal

pub returns-clause-tail : goal.returns-clause-tail
returns-clause-tail c =
    let bytes = c.args.self.now.bytes.items in
    let n = length c.args.self.now.needle.now - 1 in
    let cut = c.saturating_sub-cut.result in
    let at : cut ≡ length bytes - n = omega (arith, c.saturating_sub-cut.ensures, c.len.ensures) in
    let long = length-drop cut bytes in
    let slice : take (length bytes - cut) (drop cut bytes) ≡ drop cut bytes = take_all (length bytes - cut) (drop cut bytes) (omega (arith, long)) in
    c.in_ok-extend_from_slice.ensures.items
    ∙ ap (λ (x : List ℕ). x ++ take (length c.deref.result.now - cut) (drop cut c.deref.result.now)) c.clear.ensures.items
    ∙ ap (λ (d : List ℕ). take (length d - cut) (drop cut d)) c.deref.ensures.value
    ∙ slice
    ∙ ap (λ k. drop k bytes) at

pub returns-clause-first : goal.returns-clause-first
returns-clause-first c = omega (arith, c.saturating_sub-cut.ensures, c.len.ensures)
