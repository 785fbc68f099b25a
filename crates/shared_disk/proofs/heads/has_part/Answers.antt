use Rattle.std.proofs.Common.{◌≡◌, ℕ, ◌+◌, ◌-◌, length, take, drop, sym, ◌∙◌, ap, arith}
use Rattle.std.specs.Cmp.Lexicographic.{bytes_decides}
use Rattle.disk_model.specs.PartLaws.{part_is}
use Rattle.shared_disk.proofs.heads.has_part.Goals as goal

pub returns : goal.returns
returns c equal =
    let n = length c.args.bytes.now in
    let e : c.args.at + n - c.args.at ≡ n = omega arith in
    part_is c.args.front.now c.args.at n
    ∙ ap (λ (m : ℕ). take m (drop c.args.at c.args.front.now)) (sym e)
    ∙ (bytes_decides (take (c.args.at + n - c.args.at) (drop c.args.at c.args.front.now)) c.args.bytes.now).0 (sym c.eq.ensures ∙ equal)
