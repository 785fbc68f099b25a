use Rattle.salvage.proofs.PatchLemmas.{faulty_sees, sound_sees}
use Rattle.salvage.proofs.finding.find_sight.Goals as goal

pub returns-in_default-clause-finds : goal.returns-in_default-clause-finds
returns-in_default-clause-finds g c = λ honest. sound_sees (g.S.Source.seen c.args.source.now) c.in_default.field-0.standing (c.in_default.ensures.gives honest)

pub returns-clause-finds : goal.returns-clause-finds
returns-clause-finds g c = λ honest.
    faulty_sees (g.S.Source.seen c.args.source.now) c.in-Err.fault c.in_ok-patch.patch (c.in_ok-patch.ensures.finds honest (c.in-Err.ensures.gives honest))
