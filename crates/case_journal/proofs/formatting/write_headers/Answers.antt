use Rattle.std.proofs.Common.{◌∙◌, [], ◌∷◌, ℕ, ap}
use Rattle.disk_model.specs.Places.{overwritten}
use Rattle.case_journal.proofs.FormatLemmas.{headers_stand}
use Rattle.case_journal.proofs.formatting.write_headers.Goals as goal

pub returns-clause-headers : goal.returns-clause-headers
returns-clause-headers g c honest =
    let still = c.write_at.ensures.honesty ∙ honest in
    let yet = c.write_at-2.ensures.honesty ∙ still in
    headers_stand c.args.shape _ _ _ _ _ _ c.requires.limits (g.met.D.Disk.whole c.args.disk.now honest ∙ c.requires.size)
    c.superblock_block.ensures.size c.superblock_block.ensures.block c.first_header.ensures.bytes c.first_header.ensures.size
    (c.in_ok-write_at.ensures.written honest) (c.in_ok-write_at-2.ensures.written still)
    ((c.in_ok-write_stable.ensures.stable yet).1 ∙ ap (λ (p : ℕ). overwritten (g.D.Disk.seen c.write_at-2.new.self) p (0 ∷ [])) c.half_start.ensures)
