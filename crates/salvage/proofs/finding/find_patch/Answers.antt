use Rattle.std.proofs.Common.{sym, ◌∙◌}
use Rattle.salvage.proofs.PatchLemmas.{default_finds, front_finds, record_finds, version_finds}
use Rattle.salvage.proofs.finding.find_patch.Goals as goal

pub returns-then-is_of_front-clause-finds : goal.returns-then-is_of_front-clause-finds
returns-then-is_of_front-clause-finds g c = λ honest gives.
    front_finds (g.S.Source.seen c.args.source.now) c.args.fault c.in-Damaged.at c.in-Damaged.field c.find_half.result c.in-Damaged.is (sym c.is_of_front.ensures ∙ c.if-is_of_front.true)
    gives (c.find_half.ensures.half honest)

pub returns-else-is_of_front-clause-finds : goal.returns-else-is_of_front-clause-finds
returns-else-is_of_front-clause-finds g c = λ honest gives.
    record_finds (g.S.Source.seen c.args.source.now) c.args.fault c.in-Damaged.at c.in-Damaged.field c.find_record.result c.in-Damaged.is gives (c.find_record.ensures.record honest)

pub returns-in-UnknownVersion-clause-finds : goal.returns-in-UnknownVersion-clause-finds
returns-in-UnknownVersion-clause-finds g c = λ honest gives.
    version_finds (g.S.Source.seen c.args.source.now) c.args.fault c.in-UnknownVersion.field-0 c.find_half-in-UnknownVersion.result c.in-UnknownVersion.is gives
    (c.find_half-in-UnknownVersion.ensures.half honest)

pub returns-in_default : goal.returns-in_default
returns-in_default g c = record {
  within = tt;
  finds = λ honest gives. default_finds (g.S.Source.seen c.args.source.now) c.args.fault (c.in_default.not-Damaged) gives;
}
