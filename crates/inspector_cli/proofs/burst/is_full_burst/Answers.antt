use Rattle.std.proofs.Common.{ℕ, ap, ◌∙◌}
use Rattle.std.specs.Prelude.{nat_le}
use Rattle.inspector_cli.specs.Bursts.{is_recent}
use Rattle.inspector_cli.proofs.BurstLemmas.{count_mapped}
use Rattle.inspector_cli.proofs.burst.is_full_burst.Goals as goal

pub returns : goal.returns
returns c = ap (λ (n : ℕ). nat_le c.args.burst.now.most n) (c.count_recent.ensures ∙ count_mapped (is_recent c.args.burst.now c.args.time) c.args.cases.now)
