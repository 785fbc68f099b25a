use Rattle.std.proofs.Common.{ℕ, ◌+◌, length, slice_index, sym, ◌∙◌, ap, arith}
use Rattle.std.proofs.lemmas.List.{get_or_default}
use Rattle.shared_disk.specs.Rows.{row_place, row_within}
use Rattle.shared_disk.proofs.scripted.ScriptedDisk.byte.Goals as goal

pub returns : goal.returns
returns c =
    let d = c.args.self.now in
    let place = d.place in
    let within = row_within d.count d.size d.reached c.args.at (length d.bytes.items) d.whole d.low c.requires in
    c.index.ensures ∙ get_or_default d.bytes.items (d.begin + c.args.at) c.index.result.now 0 (omega (arith, within, place))
    ∙ ap (λ (n : ℕ). slice_index d.bytes.items (n + c.args.at)) d.place ∙ sym (row_place d.count d.size d.bytes.items d.reached c.args.at d.low c.requires)
