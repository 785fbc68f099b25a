-- The known facts about a core in the spool after each call.
use Rattle.std.specs.Prelude.{◌≡◌, Bool, true, false, not, ◌&&◌, Option, Some, None}
use Rattle.handler_files.specs.declared.outcomes.Outcome.{Outcome}
use Rattle.handler_files.specs.declared.settlement.SpooledFacts.{SpooledFacts}
use Rattle.handler_files.specs.declared.fate.Fate.{Fate}
use Rattle.handler_files.specs.declared.fate.Fate.TheVariants.{Stay, Go}
use Rattle.handler_files.specs.Spools.{spools}

-- this came of it
abbrev pub told : Outcome → SpooledFacts → SpooledFacts
told outcome f = record f { outcome = Some outcome }

-- its core was looked for, and this is whether it is gone
abbrev pub sought : Bool → SpooledFacts → SpooledFacts
sought gone f = record f { has_core = f.has_core && not gone; is_sought = true }

-- its core was removed, and this is whether that succeeded
abbrev pub core_removed_if : Bool → SpooledFacts → SpooledFacts
core_removed_if good f = record f { has_core = f.has_core && not good }

-- its words were removed, and this is whether that succeeded
abbrev pub words_removed_if : Bool → SpooledFacts → SpooledFacts
words_removed_if good f = record f { has_words = f.has_words && not good }

-- the outcome is known, and lets it go
abbrev pub goes_after : Option Outcome → Type 0
goes_after None = ⊥
goes_after (Some outcome) = spools outcome ≡ Go

abbrev pub IsLetGo : SpooledFacts → Type 0
IsLetGo f = goes_after f.outcome

-- Words stay, and their core was not seen to be gone; or both are gone.
abbrev pub WordsSettled : Fate → SpooledFacts → SpooledFacts → Type 0
WordsSettled Stay old new = (new.has_words ≡ old.has_words) × (new.has_core ≡ old.has_core)
WordsSettled Go old new = (new.has_words ≡ false) × (new.has_core ≡ false)
