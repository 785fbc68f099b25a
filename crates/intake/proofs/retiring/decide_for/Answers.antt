use Rattle.std.proofs.Common.{◌∙◌, ap, sym, subst, map}
use Rattle.std.specs.List.Sorted.{IsStrictlyIncreasing}
use Rattle.retention.specs.Rule.{seq_of}
use Rattle.intake.proofs.RetireLemmas.{seqs_of_briefs}
use Rattle.intake.proofs.retiring.decide_for.Goals as goal

pub decide-requires : goal.decide-requires
decide-requires c =
    subst IsStrictlyIncreasing (sym (ap (map seq_of) (c.deref.ensures.value ∙ c.in_ok-briefs.ensures) ∙ seqs_of_briefs c.args.entries.now)) c.requires
