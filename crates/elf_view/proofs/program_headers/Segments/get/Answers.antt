use Rattle.std.proofs.Common.{Some, ◌∙◌, sym, ap, arith}
use Rattle.elf_view.specs.SegmentWords.{segments_left}
use Rattle.elf_view.proofs.Tables.{segments_get, segments_past}
use Rattle.elf_view.proofs.program_headers.Segments.get.Goals as goal

pub returns-then-i-self : goal.returns-then-i-self
unfolding segments_left
returns-then-i-self c =
    let s = c.args.self.now in sym (segments_past s.image.now s.index s.left c.args.i (omega arith))

pub returns : goal.returns
unfolding segments_left
returns c =
    let s = c.args.self.now in
    ap (λ view. Some view) c.read.ensures ∙ sym (segments_get s.image.now s.index s.left c.args.i _ (omega arith) (omega (arith, c.u64_at.ensures)))
