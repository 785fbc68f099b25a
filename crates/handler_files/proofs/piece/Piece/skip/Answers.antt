use Rattle.std.proofs.Common.{◌∙◌, List, ap, drop, ℕ}
use Rattle.handler_files.proofs.PieceLemmas.{rest_between}
use Rattle.handler_files.proofs.piece.Piece.skip.Goals as goal

pub returns : goal.returns
returns c =
    let s = c.self.inside in
    rest_between s.bytes.items s.start s.end c.args.count ∙ ap (λ (l : List ℕ). drop c.args.count l) c.self.view_is
