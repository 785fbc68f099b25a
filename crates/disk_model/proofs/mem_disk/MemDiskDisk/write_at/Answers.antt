use Rattle.std.proofs.Common.{◌≡◌, ◌+◌, ◌≤◌, length, sym, ◌∙◌, ap, subst, arith, [], ◌∷◌, ◌++◌}
use Rattle.std.proofs.lemmas.List.{with_items_is}
use Rattle.std.specs.Vec.{with_items}
use Rattle.disk_model.specs.Places.{AreBytes, overwritten}
use Rattle.disk_model.specs.PlaceLaws.{overwritten_length}
use Rattle.disk_model.specs.declared.note.Note.TheVariants.{Wrote}
use Rattle.disk_model.proofs.Steps.{fit_more, since_more, since_kept, later, never_still, wrote_shown}
use Rattle.disk_model.proofs.mem_disk.MemDiskDisk.write_at.Goals as goal

pub invariant_of-self-2 : goal.invariant_of-self-2
invariant_of-self-2 c =
    let self = c.args.self.now in
    let first = self.first.items in
    let notes = self.notes.items in
    let present = self.present.items in
    let new = c.push_reserved.new.self.items in
    let bytes = c.in-Ok.bytes in
    let note = Wrote c.args.at bytes in
    let is : new ≡ notes ++ note ∷ [] = c.push_reserved.ensures.items ∙ ap (λ l. l ++ note ∷ []) c.in-Ok.ensures.notes in
    let same : bytes.items ≡ c.args.from.now = c.in-Ok.ensures.bytes in
    let are : AreBytes bytes.items = subst AreBytes (sym same) (λ k. omega (arith, c.type_inv.from k)) in
    let value : c.deref_mut.result.now ≡ present = c.deref_mut.ensures.value in
    let now : c.overwrite.new.bytes ≡ overwritten present c.args.at bytes.items = c.overwrite.ensures ∙ ap (λ l. overwritten l c.args.at c.args.from.now) value ∙ ap (overwritten present c.args.at) (sym same) in
    let within : c.args.at + length bytes.items ≤ length first = rw same c.requires in
    let long : length c.overwrite.new.bytes ≡ length present = ap length now ∙ overwritten_length present c.args.at bytes.items (omega (arith, self.sized, within)) in
    let written : (with_items self.present c.overwrite.new.bytes).items ≡ overwritten present c.args.at bytes.items = with_items_is self.present c.overwrite.new.bytes (long ∙ sym self.present.ok.0) ∙ now in
    record {
      small = self.small;
      sized = ap length written ∙ sym (ap length now) ∙ long ∙ self.sized;
      bytes = self.bytes;
      fit = fit_more first notes new note is _ self.fit (within, are);
      shown = written ∙ wrote_shown first notes new present self.shown c.args.at bytes is;
      settled = λ no. absurd (cc);
      room = λ _. omega (arith, c.in-Ok.ensures.room);
    }

pub returns-clause-time : goal.returns-clause-time
returns-clause-time c =
    let self = c.args.self.now in
    let new = c.push_reserved.new.self.items in
    let note = Wrote c.args.at c.in-Ok.bytes in
    let is : new ≡ self.notes.items ++ note ∷ [] = c.push_reserved.ensures.items ∙ ap (λ l. l ++ note ∷ []) c.in-Ok.ensures.notes in
    record {
      later = later self.first.items self.notes.items new note is;
      nothing_else = since_more self.first.items self.notes.items new note is;
      keeps = since_kept self.first.items self.notes.items new note is;
      still = never_still self.first.items self.notes.items new note is;
    }
