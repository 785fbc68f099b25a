-- The bytes of a core that are taken into the spool, and the place of the core then.
use Rattle.std.specs.Prelude.{ℕ, Bool, true, false, Result, Ok, Err}
use Rattle.std.specs.Option.{unwrap_or}
use Rattle.core_handler.specs.declared.config.Config.{Config}
use Rattle.handler_files.specs.declared.reception.NotSpooled.{NotSpooled}
use Rattle.handler_files.specs.declared.reception.NotSpooled.TheVariants.{Name}
use Rattle.handler_files.specs.declared.reception.Unspooled.{Unspooled}
use Rattle.whole_files.specs.declared.faults.NameFault.{NameFault}
use Rattle.whole_files.specs.declared.faults.NameFault.TheVariants.{Named}

-- the file has its name, though that may not be durable
abbrev pub has_name : NameFault → Bool
has_name (Named number) = true
has_name _ = false

abbrev pub is_named : NotSpooled → Bool
is_named (Name fault) = has_name fault
is_named _ = false

-- whether a core is in the spool under its own name
abbrev pub is_under_name : Result ℕ Unspooled → Bool
is_under_name (Ok bytes) = true
is_under_name (Err unspooled) = is_named unspooled.why

-- the most bytes of an image: 1 GiB if the configuration doesn't say
abbrev pub limit_in : Config → ℕ
limit_in config = unwrap_or config.limit 1073741824
