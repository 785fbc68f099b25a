use Rattle.std.proofs.Common.{sym, subst}
use Rattle.core_crashes.specs.CaseReading.{ArePieces}
use Rattle.core_crashes.proofs.CaseReadingLemmas.{read_none}
use Rattle.core_crashes.proofs.words.word_in_case.Goals as goal

pub returns : goal.returns
returns g c =
    let old = c.args.archive.now in
    let none = read_none g.D.Disk g.met.D.Disk.only_now old in
    let last = c.in_ok-word.ensures in record {
      told = λ image is. last.told old none (λ b has. subst (ArePieces b) (sym c.new-pieces.ensures.items) tt) image is;
      reads = last.reads old none;
    }
