use Rattle.std.proofs.Common.{◌≡◌, inl, inr, ◌+◌, ◌-◌, ◌≤◌, ◌∙◌, length, arith}
use Rattle.journal_layout.specs.Layout.{half_length, half_start}
use Rattle.journal_layout.specs.Stands.{records_area}
use Rattle.journal_layout.specs.declared.shape.Half.TheVariants.{A, B}
use Rattle.salvage.proofs.MendLemmas.{put_spares}
use Rattle.salvage.proofs.mending.mend_front.Goals as goal

pub returns : goal.returns
returns c =
    let s = c.args.shape in
    let old = c.args.front.now in
    let bytes = c.superblock_of.result in
    let fits : 24 ≤ length old = omega (arith, c.requires.limits.some_half, c.requires.whole) in
    let first = put_spares 0 24 0 bytes old c.put.new.into (omega arith) (omega arith) (omega (arith, fits)) (c.put.ensures.there (omega (arith, fits))) in
    record {
      length = c.mend_header-2.ensures.length ∙ c.mend_header.ensures.length ∙ c.put.ensures.long;
      records = λ half.
          elim half as (λ h. records_area c.mend_header-2.new.front s h ≡ records_area old s h) [
            | A ↦
                c.mend_header-2.ensures.spared (half_start s A + 32) (half_length s - 32) (inl (omega (arith, c.half_start-2.ensures, c.requires.limits.some_half)))
                ∙ c.mend_header.ensures.spared (half_start s A + 32) (half_length s - 32) (inr (omega (arith, c.half_start.ensures)))
                ∙ first (half_start s A + 32) (half_length s - 32) (inr (omega arith))
            | B ↦
                c.mend_header-2.ensures.spared (half_start s B + 32) (half_length s - 32) (inr (omega (arith, c.half_start-2.ensures)))
                ∙ c.mend_header.ensures.spared (half_start s B + 32) (half_length s - 32) (inr (omega (arith, c.half_start.ensures)))
                ∙ first (half_start s B + 32) (half_length s - 32) (inr (omega arith))
          ];
    }
