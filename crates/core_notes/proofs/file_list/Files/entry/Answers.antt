use Rattle.std.proofs.Common.{arith}
use Rattle.core_notes.specs.FileList.{file_count}
use Rattle.core_notes.proofs.Covering.{entry_fits}
use Rattle.core_notes.proofs.file_list.Files.entry.Goals as goal

pub overflow_mul-result : goal.overflow_mul-result
overflow_mul-result c =
    let fits = entry_fits c.args.self.now.desc.now c.args.i (file_count c.args.self.now.desc.now) c.requires c.args.self.now.entries in
    rw (c.u64_at-3.ensures, c.u64_at-4.ensures) (omega (arith, fits.1))

pub invariant_of-result : goal.invariant_of-result
invariant_of-result c =
    let fits = entry_fits c.args.self.now.desc.now c.args.i (file_count c.args.self.now.desc.now) c.requires c.args.self.now.entries in
    rw (c.u64_at.ensures, c.u64_at-2.ensures, c.u64_at-3.ensures, c.u64_at-4.ensures) (record { ordered = fits.0; fits = fits.1 })
