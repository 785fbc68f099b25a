-- The streams that lines begin.
use Rattle.std.specs.Prelude.{ℕ, List, [], Result, Ok, Err}
use Rattle.std.specs.Borrow.{Bor}
use Rattle.intake.specs.State.{StreamFacts}
use Rattle.stream_names.specs.declared.names.NewStream.{NewStream}

-- the stream with no bytes that is begun
abbrev pub stream_begun : NewStream → StreamFacts
stream_begun s = record {
  origin = record { kind = s.kind; name = s.name.items; pid = s.pid; signal = s.signal; time = s.time };
  len = 0;
  blocks = [];
}

-- the stream, or the fault of its name
abbrev pub stream_found : Result NewStream (Bor (List ℕ)) → Result StreamFacts (List ℕ)
stream_found (Ok stream) = Ok (stream_begun stream)
stream_found (Err reason) = Err reason.now
