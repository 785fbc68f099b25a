use Rattle.std.proofs.Common.{◌≡◌, ℕ, ◌+◌, ◌-◌, ◌*◌, List, take, drop, ap, ◌∙◌, arith}
use Rattle.shared_disk.specs.ScriptedLaws.{row_is}
use Rattle.shared_disk.proofs.scripted_share.ScriptedShare.row.Goals as goal

pub returns : goal.returns
returns c =
    let d = c.args.self.now in
    let start = c.args.number * d.size in
    let long : start + d.size - start ≡ d.size = omega arith in
    ap (λ (n : ℕ). take n (drop start c.deref.result.now)) long
    ∙ ap (λ (l : List ℕ). take d.size (drop start l)) c.deref.ensures.value
    ∙ row_is d.count d.size d.bytes.items c.args.number c.requires
