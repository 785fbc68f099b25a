-- Signatures as the program has them.
use Rattle.std.specs.Prelude.{map}
use Rattle.crash_signatures.specs.Signature.{HandledSaid, SignatureSaid}
use Rattle.crash_signatures.specs.WordViews.{said}
use Rattle.crash_signatures.specs.declared.signature.HandledSignal.{HandledSignal}
use Rattle.crash_signatures.specs.declared.signature.Signature.{Signature}

abbrev pub handled_said : HandledSignal → HandledSaid
handled_said s = record { number = s.number; name = s.name.now }

abbrev pub signature_said : Signature → SignatureSaid
signature_said s = record { words = map said s.words.items; is_missing = s.is_missing }
