use Rattle.std.proofs.Common.{sym, subst}
use Rattle.build_replies.specs.ChoosingWords.{choice_view}
use Rattle.frame_replies.specs.Walking.{IsProcessOf}
use Rattle.case_queries.proofs.FramesLemmas.{begins_of}
use Rattle.case_queries.proofs.frames.process_in_core.Goals as goal

pub returns-clause-walks : goal.returns-clause-walks
returns-clause-walks c = λ o stored front sound by chosen.
    let process = c.in_ok-process.process in
    let own = subst (λ b. IsProcessOf b (choice_view c.args.chosen) process) front c.in_ok-process.ensures in
    record {
      own = sym own.core;
      some = by.some;
      begins = λ t w begins b has. begins_of c.a_sound_front_is_enough.ensures.notes o sound t c.a_sound_front_names_the_files.ensures stored c.args.told c.args.chosen w by chosen begins b process has own;
    }
