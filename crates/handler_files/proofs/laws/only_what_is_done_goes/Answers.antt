use Rattle.std.proofs.Common.{◌≡◌, ◌⊎◌, inl, inr, refl, rules}
use Rattle.handler_files.specs.Spools.{spools, MayPass, NeverPasses}
use Rattle.handler_files.specs.declared.fate.Fate.TheVariants.{Go}
use Rattle.handler_files.specs.declared.outcomes.Outcome.{Outcome}
use Rattle.handler_files.specs.declared.outcomes.Outcome.TheVariants.{Stored, Busy, File, Disk, Damaged, NotAnArchive, Version, Full, Spent, NameTaken, OutOfMemory, Unknown, TooLong, Short, TooLarge, Burst, Limit, Name}
use Rattle.handler_files.proofs.laws.only_what_is_done_goes.Goals as goal

each : (o : Outcome) → (o ≡ Stored) ⊎ (NeverPasses o ⊎ MayPass o)
each Stored = inl refl
each Busy = inr (inr MayPass.busy)
each File = inr (inr MayPass.file)
each Disk = inr (inr MayPass.disk)
each Damaged = inr (inr MayPass.damaged)
each NotAnArchive = inr (inr MayPass.no_archive)
each Version = inr (inr MayPass.version)
each Full = inr (inr MayPass.full)
each Spent = inr (inr MayPass.spent)
each NameTaken = inr (inr MayPass.name_taken)
each OutOfMemory = inr (inr MayPass.no_memory)
each Unknown = inr (inr MayPass.unknown)
each TooLong = inr (inl NeverPasses.too_long)
each Short = inr (inl NeverPasses.short)
each TooLarge = inr (inl NeverPasses.too_large)
each Burst = inr (inl NeverPasses.burst)
each Limit = inr (inl NeverPasses.limit)
each Name = inr (inl NeverPasses.name)

goes : (o : Outcome) → spools o ≡ Go → (o ≡ Stored) ⊎ NeverPasses o
goes Stored is = inl refl
goes Busy is = search rules
goes File is = search rules
goes Disk is = search rules
goes Damaged is = search rules
goes NotAnArchive is = search rules
goes Version is = search rules
goes Full is = search rules
goes Spent is = search rules
goes NameTaken is = search rules
goes OutOfMemory is = search rules
goes Unknown is = search rules
goes TooLong is = inr NeverPasses.too_long
goes Short is = inr NeverPasses.short
goes TooLarge is = inr NeverPasses.too_large
goes Burst is = inr NeverPasses.burst
goes Limit is = inr NeverPasses.limit
goes Name is = inr NeverPasses.name

pub returns-clause-goes : goal.returns-clause-goes
returns-clause-goes c = goes

pub returns-clause-each : goal.returns-clause-each
returns-clause-each c = each
