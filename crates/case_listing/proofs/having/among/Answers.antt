use Rattle.std.proofs.Common.{◌++◌, ◌∷◌, [], List, ℕ, get_or, take, refl, sym, subst, arith}
use Rattle.std.proofs.lemmas.List.{take_all}
use Rattle.case_listing.specs.Having.{FindsAmong}
use Rattle.case_listing.proofs.HavingLemmas.{among_more, next_number}
use Rattle.case_listing.proofs.having.among.Goals as goal

pub loop-seq-init : goal.loop-seq-init
loop-seq-init g c = (c.new-found.ensures.items, refl)

pub loop-seq-preserved : goal.loop-seq-preserved
loop-seq-preserved g c =
    let old = c.args.archive.now in
    let new = c.has_text.new.archive in
    let ns = c.args.numbers.now in
    let i = c.loop-seq.seq-index in
    let n = get_or ns i 0 in
    let more = among_more g.D.Disk c.args.sought.now (take i ns) c.loop-seq.found.items old c.loop-seq.archive new n c.in_ok-has.has c.loop-seq.invariant c.in_ok-has.ensures in
    subst (λ (ms : List ℕ). FindsAmong g.D.Disk old c.args.sought.now ms c.add_if.new.found.items new) (next_number ns i c.loop-seq-test.true)
    (subst (λ (ks : List ℕ). FindsAmong g.D.Disk old c.args.sought.now (take i ns ++ n ∷ []) ks new) (sym c.in_ok-add_if.ensures) more)

pub returns : goal.returns
returns g c =
    subst (λ (ms : List ℕ). FindsAmong g.D.Disk c.args.archive.now c.args.sought.now ms c.loop-seq.found.items c.loop-seq.archive)
    (take_all c.loop-seq.seq-index c.args.numbers.now (omega (arith, c.loop-seq-test.false))) c.loop-seq.invariant
