use Rattle.std.proofs.Common.{◌≡◌, List, ℕ, length, subst, sym, ◌∙◌, ap}
use Rattle.std.proofs.lemmas.Result.{IfOk-weaker}
use Rattle.disk_model.specs.Notes.{held, MayLeave}
use Rattle.disk_model.specs.Crash.{crashed}
use Rattle.disk_model.specs.CrashLaws.{crashed_may_stay, crashed_length}
use Rattle.disk_model.specs.declared.mem_disk.MemDisk.{MemDisk}
use Rattle.disk_model.specs.declared.note.Note.{Note}
use Rattle.disk_model.proofs.mem_disk.MemDisk.after_crash.Goals as goal

pub returns-clause-allowed : goal.returns-clause-allowed
returns-clause-allowed c =
    let self = c.args.self.now in
    let is_left : c.in_ok-bytes.bytes.items ≡ crashed c.args.pick (held self.first.items self.notes.items) =
    c.in_ok-bytes.ensures.bytes
    ∙ ap (λ (b : List ℕ). crashed c.args.pick (held b c.deref-2.result.now)) c.deref.ensures.value
    ∙ ap (λ (n : List Note). crashed c.args.pick (held self.first.items n)) c.deref-2.ensures.value in
    let stays = crashed_may_stay c.args.pick self.first.items self.notes.items c.bytes_after_crash.ensures.fills self.bytes self.fit in
    IfOk-weaker
    c.holding.result
    (λ (d : MemDisk). d.present.items ≡ c.in_ok-bytes.bytes.items)
    (λ (d : MemDisk). MayLeave (held self.first.items self.notes.items) d.present.items)
    (λ d is. subst (MayLeave (held self.first.items self.notes.items)) (sym (is ∙ is_left)) stays)
    c.holding.ensures.seen

pub returns-clause-size : goal.returns-clause-size
returns-clause-size c =
    let self = c.args.self.now in
    let is_left : c.in_ok-bytes.bytes.items ≡ crashed c.args.pick (held self.first.items self.notes.items) =
    c.in_ok-bytes.ensures.bytes
    ∙ ap (λ (b : List ℕ). crashed c.args.pick (held b c.deref-2.result.now)) c.deref.ensures.value
    ∙ ap (λ (n : List Note). crashed c.args.pick (held self.first.items n)) c.deref-2.ensures.value in
    let long = crashed_length c.args.pick self.first.items self.notes.items c.bytes_after_crash.ensures.fills self.bytes self.fit in
    IfOk-weaker
    c.holding.result
    (λ (d : MemDisk). length d.first.items ≡ length c.in_ok-bytes.bytes.items)
    (λ (d : MemDisk). length d.first.items ≡ length self.first.items)
    (λ d is. is ∙ ap length is_left ∙ long)
    c.holding.ensures.size
