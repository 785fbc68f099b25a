use Rattle.std.proofs.Common.{Bor, List, ℕ, Some, sym, ap, ◌∙◌}
use Rattle.build_replies.proofs.PlaceLemmas.{name_at}
use Rattle.build_replies.proofs.mapped.MappedFiles.front.Goals as goal

pub returns-clause-name : goal.returns-clause-name
returns-clause-name c = name_at _ c.args.i _ c.in-Some.ensures ∙ ap (λ (x : Bor (List ℕ)). Some x.now) (sym c.front.ensures.path)
