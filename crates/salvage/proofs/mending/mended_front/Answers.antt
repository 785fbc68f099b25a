use Rattle.std.proofs.Common.{◌≡◌, ◌∙◌, ℕ, List, ap, length, subst, sym, IsTrue}
use Rattle.disk_model.specs.Places.{part}
use Rattle.journal_layout.specs.Layout.{data_start, disk_length}
use Rattle.journal_layout.specs.Stands.{records_area}
use Rattle.salvage.specs.Mending.{IsMended, stretched}
use Rattle.salvage.proofs.MendLemmas.{back_whole, front_area}
use Rattle.salvage.proofs.mending.mended_front.Goals as goal

pub returns-clause-mended : goal.returns-clause-mended
returns-clause-mended g c = λ honest.
    let s = c.args.shape in
    let b : List ℕ = g.S.Source.seen c.args.source.now in
    let long : List ℕ = stretched (disk_length s) b in
    let items = c.in_ok-front.front.items in
    let new = c.mend_front.new.front in
    let read : items ≡ part long 0 (data_start s) =
    c.in_ok-front.ensures.bytes (subst (λ x. IsTrue (g.S.Source.is_honest x)) (sym c.new.ensures.source) honest)
    ∙ ap (λ (n : ℕ). part (stretched n (g.S.Source.seen c.new.result.source.now)) 0 (data_start s)) (c.new.ensures.length ∙ c.requires.length)
    ∙ ap (λ x. part (stretched (disk_length s) (g.S.Source.seen x)) 0 (data_start s)) c.new.ensures.source in
    let lent : c.deref_mut.result.now ≡ items = c.deref_mut.ensures.value in
    subst (IsMended b s) (sym (back_whole c.in_ok-front.front.len new items (c.mend_front.ensures.length ∙ ap (λ (l : List ℕ). length l) lent) (sym c.deref_mut.ensures.len ∙ ap (λ (l : List ℕ). length l) lent)))
    (record {
      size = c.mend_front.ensures.length ∙ ap (λ (l : List ℕ). length l) lent ∙ c.in_ok-front.ensures.long;
      records = λ half.
          c.mend_front.ensures.records half
          ∙ ap (λ (l : List ℕ). records_area l s half) (lent ∙ read)
          ∙ front_area long s half c.requires.limits;
    })
