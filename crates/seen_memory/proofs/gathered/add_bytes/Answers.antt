use Rattle.std.proofs.Common.{◌≡◌, ◌+◌, length, ap, subst, sym, ◌∙◌, arith}
use Rattle.std.proofs.lemmas.List.{length-append}
use Rattle.seen_memory.specs.Parts.{IsPartOf}
use Rattle.seen_memory.proofs.Rows.{one_after}
use Rattle.seen_memory.proofs.gathered.add_bytes.Goals as goal

pub returns : goal.returns
returns c =
    let old = c.args.bytes.now.items in
    let more = c.in-Some.more.now in
    let start = c.args.start in
    let there = c.in-Some.ensures in
    let items = c.in_ok-extend_from_slice.ensures.items in
    let long = ap length items ∙ length-append old more in
    let place : start + c.len-gathered.result ≡ start + length old = omega (arith, c.len-gathered.ensures) in (
      λ size image is before. subst (IsPartOf image start) (sym items) (one_after image old more start before (subst (λ p. IsPartOf image p more) place (there.2 size image is))),
      (let some = there.0 in omega (arith, long, some)),
      (let most = there.1 in omega (arith, long, most, c.len-gathered.ensures)),
    )
