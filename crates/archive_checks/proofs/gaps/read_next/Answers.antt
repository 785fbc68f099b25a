use Rattle.std.proofs.Common.{◌≡◌, ◌+◌, ◌-◌, ◌∙◌, ap, arith, length, subst}
use Rattle.std.proofs.lemmas.List.{with_items_is}
use Rattle.disk_model.specs.Places.{part}
use Rattle.journal_layout.specs.Layout.{half_length}
use Rattle.journal_layout.specs.Stands.{records_start}
use Rattle.journal_records.specs.Said.{SaysFaulty}
use Rattle.archive_checks.proofs.GapLemmas.{faulty_says_none}
use Rattle.archive_checks.proofs.gaps.read_next.Goals as goal

pub returns-in-Err-Damaged-clause-next : goal.returns-in-Err-Damaged-clause-next
returns-in-Err-Damaged-clause-next g c honest gate next says =
    let b = g.D.Disk.seen c.args.disk.now in
    let shape = c.args.shape in
    let place : c.half_start-at.result + 32 ≡ records_start shape c.args.half = ap (λ n. n + 32) c.half_start-at.ensures in
    let count : length c.deref_mut.result.now ≡ half_length shape - 32 = omega (arith, c.deref_mut.ensures.len, c.in-Ok.ensures.len, c.half_length.ensures) in
    let read = c.deref.ensures.value ∙ with_items_is c.in-Ok.bytes c.read_at.new.into (c.read_at.auto.into ∙ c.deref_mut.ensures.len) ∙ c.in-Ok-read_at.ensures.bytes honest in
    let area = read ∙ ap (λ n. part b n (length c.deref_mut.result.now)) place ∙ ap (part b (records_start shape c.args.half)) count in
    let fault = c.in-Err-Damaged in
    let faulty = subst (SaysFaulty shape.data_blocks c.args.head.version (c.half_start-at.result + 32) c.deref.result.now) fault.field-0-is fault.ensures.fault in
    faulty_says_none b shape c.args.half c.args.head.version _ _ c.deref.result.now c.requires.limits area faulty next says
