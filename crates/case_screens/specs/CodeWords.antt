-- The meaning of a code, as definitions have it.
use Rattle.case_screens.specs.Codes.{CodeView}
use Rattle.case_screens.specs.declared.codes.SignalCode.{SignalCode}

abbrev pub code_words : SignalCode → CodeView
code_words c = record { name = c.name.now; before = c.before.now; after = c.after.now }
