use Rattle.std.proofs.Common.{◌≡◌, ◌==◌, true, false, not, [], ◌++◌, Ok, length, ap, sym, subst, ◌∙◌, arith}
use Rattle.std.proofs.lemmas.List.{length-append}
use Rattle.std.specs.Vec.{vec_len}
use Rattle.intake.specs.Part.{PartCall}
use Rattle.windowed_search.specs.Places.{places}
use Rattle.case_listing.proofs.ReadLemmas.{first_read, next_read, nothing_found}
use Rattle.case_listing.proofs.containing.image_has.Goals.{then-loop-at-test+else-is_empty, else-loop-at-test}
use Rattle.case_listing.proofs.containing.image_has.Goals as goal

pub loop-at-init : goal.loop-at-init
loop-at-init g c =
    let needle = c.new-search.ensures.needle in
    let none = c.new-found.ensures.items ∙ nothing_found c.new-search.result.needle.now in
    let piece = c.in_ok-search_piece.ensures.found [] c.new-search.ensures.fed none in
    let next = c.in_ok-search_piece.ensures.next in
    let start = c.new-search.ensures.next in
    let empty = ap length start.1 in (
      piece.0,
      piece.1,
      first_read g.D.Disk c.args.archive.now c.search_piece.new.archive c.args.seq c.min-at.result piece.0 piece.2,
      piece.3,
      piece.4 ∙ ap (λ n. places n 0 piece.0) needle,
      omega (arith, c.min-at.ensures),
      ap (λ b. b.now) c.in_ok-search_piece.ensures.needle ∙ needle,
      omega (arith, next, start.0, empty),
    )

pub loop-at-preserved : goal.loop-at-preserved
loop-at-preserved g c =
    let inv = c.loop-at.invariant in
    let known = inv.4 ∙ ap (λ n. places n 0 inv.0) (sym inv.6) in
    let piece = c.in_ok-search_piece-2.ensures.found inv.0 inv.3 known in
    let new = c.search_piece-in-loop-at.new.archive in
    let count = c.min-count.result in
    let call = subst (λ k. PartCall g.D.Disk c.loop-at.archive c.args.seq k count (Ok tt) piece.0 new) (sym inv.1) piece.2 in
    let long = length-append inv.0 piece.0 in
    let next = c.in_ok-search_piece-2.ensures.next in (
      inv.0 ++ piece.0,
      omega (arith, inv.1, piece.1, long),
      next_read g.D.Disk c.args.archive.now c.loop-at.archive new c.args.seq count inv.0 piece.0 inv.2 call,
      piece.3,
      piece.4 ∙ ap (λ n. places n 0 (inv.0 ++ piece.0)) inv.6,
      omega (arith, c.min-count.ensures, c.loop-at-test.true),
      ap (λ b. b.now) c.in_ok-search_piece-2.ensures.needle ∙ inv.6,
      omega (arith, next, inv.7),
    )

pub returns : goal.returns
returns g c =
    let inv = c.loop-at.invariant in
    let count : vec_len c.loop-at.found ≡ length (places c.args.sought.now 0 inv.0) = omega (arith, c.loop-at.found.ok, ap length inv.4) in
    record {
      front = inv.0;
      reads = inv.2;
      says = ap not (c.is_empty-2.ensures ∙ ap (λ n. n == 0) count);
      whole = elim c.loop-at-test.branch [
        | then-loop-at-test+else-is_empty w ↦ λ no. absurd (let e : true ≡ false = sym (ap not (c.is_empty-2.ensures ∙ sym w.is_empty.ensures ∙ w.if-is_empty.false)) ∙ no in cc)
        | else-loop-at-test w ↦ λ no. omega (arith, inv.1, inv.5, w.loop-at-test.false)
      ];
    }
