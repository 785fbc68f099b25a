use Rattle.std.proofs.Common.{◌≡◌, ◌∙◌, ◌+◌, ◌≤◌, ap, length, ℕ, List, subst, sym, arith, IsTrue}
use Rattle.disk_model.specs.Places.{part}
use Rattle.salvage.specs.Mending.{padded, stretched}
use Rattle.salvage.proofs.PadLemmas.{padded_is}
use Rattle.salvage.proofs.mending.read_some.Goals as goal

-- a read of a source of so many bytes
one_read : (n m at : ℕ) (b b' got : List ℕ) → n ≡ m → b' ≡ b → (k : ℕ) → at + k ≤ m → got ≡ part (stretched n b') at k → got ≡ padded b at k
one_read n m at b b' got same of k within read =
    let e : part (stretched n b') at k ≡ part (stretched m b) at k = ap (λ (x : ℕ). part (stretched x b') at k) same ∙ ap (λ (x : List ℕ). part (stretched m x) at k) of in
    read ∙ e ∙ padded_is m b at k within

pub returns-in-Ok-clause-bytes : goal.returns-in-Ok-clause-bytes
returns-in-Ok-clause-bytes g c = λ honest.
    let source = c.new.ensures.source in
    one_read c.new.result.length 18446744073709551615 c.args.at (g.S.Source.seen c.args.source.now) (g.S.Source.seen c.new.result.source.now) c.read_at.new.into
    c.new.ensures.length (ap (λ x. g.S.Source.seen x) source) (length c.args.into.now) (omega (arith, c.requires))
    (c.in-Ok.ensures.bytes (subst (λ x. IsTrue (g.S.Source.is_honest x)) (sym source) honest))
