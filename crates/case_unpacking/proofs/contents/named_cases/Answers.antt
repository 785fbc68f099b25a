use Rattle.std.proofs.Common.{◌++◌, ap, ◌∙◌}
use Rattle.case_unpacking.specs.Contents.{said_with}
use Rattle.case_unpacking.proofs.ContentLemmas.{said_more}
use Rattle.case_unpacking.proofs.contents.named_cases.Goals as goal

pub loop-file-preserved : goal.loop-file-preserved
loop-file-preserved c =
    c.in_ok-add_named.ensures
    ∙ ap (λ t. t ++ said_with c.file-item.result.name.items c.file-item.result.case) c.loop-file.invariant
    ∙ said_more c.args.files.now c.loop-file.file-index c.file-item.result c.loop-file-test.true c.file-item.is
