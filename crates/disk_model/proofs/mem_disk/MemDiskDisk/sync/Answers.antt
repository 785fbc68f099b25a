use Rattle.disk_model.specs.declared.note.Note.TheVariants.{Synced}
use Rattle.disk_model.proofs.Steps.{fit_more, since_more, since_kept, later, never_still, synced_shown, synced_settled, synced_crash}
use Rattle.disk_model.proofs.mem_disk.MemDiskDisk.sync.Goals as goal

pub invariant_of-self : goal.invariant_of-self
invariant_of-self c =
    let self = c.args.self.now in
    let new = c.push_reserved.new.self.items in
    let is = c.push_reserved.ensures.items in
    record {
      small = self.small;
      sized = self.sized;
      bytes = self.bytes;
      fit = fit_more self.first.items self.notes.items new Synced is _ self.fit tt;
      shown = synced_shown self.first.items self.notes.items new self.present.items self.shown is;
      settled = λ _. synced_settled self.first.items self.notes.items new self.present.items self.shown is;
      room = λ no. absurd (cc);
    }

pub returns-clause-crash : goal.returns-clause-crash
returns-clause-crash c =
    let self = c.args.self.now in
    λ _ b left. synced_crash self.first.items self.notes.items c.push_reserved.new.self.items self.present.items self.shown c.push_reserved.ensures.items self.bytes self.fit b left

pub returns-clause-time : goal.returns-clause-time
returns-clause-time c =
    let self = c.args.self.now in
    let new = c.push_reserved.new.self.items in
    let is = c.push_reserved.ensures.items in
    record {
      later = later self.first.items self.notes.items new Synced is;
      nothing_else = since_more self.first.items self.notes.items new Synced is;
      keeps = since_kept self.first.items self.notes.items new Synced is;
      still = never_still self.first.items self.notes.items new Synced is;
    }
