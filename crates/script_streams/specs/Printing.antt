-- The part of a printed text that an output has taken.
use Rattle.std.specs.Prelude.{◌≡◌, ℕ, ◌≤◌, Bool, true, false, List, ◌++◌, Option, Result, Ok, Err}
use Rattle.std.specs.Io.KnownBytes.{Appends}
use Rattle.diagnostics.specs.Counts.{HasRisen}
use Rattle.script_streams.specs.declared.reply.Reply.{Reply}
use Rattle.script_streams.specs.declared.reply.Unwritten.{Unwritten}
use Rattle.script_streams.specs.declared.streams.StreamFault.{StreamFault}
use Rattle.script_streams.specs.declared.streams.Output as output

-- a write failed, and no text is written since
abbrev pub has_failed : {O : Type 0} → Reply O → Bool
has_failed reply = reply.unwritten.failed

-- the printed text that the output has not taken yet
abbrev pub held_text : {O : Type 0} → Reply O → List ℕ
held_text reply = reply.unwritten.held.items

-- A reply and its output at one moment: the bytes that the output has taken, how many of its calls have failed, the bytes that it has not taken yet,
-- and the output itself, by the name of the reference to it.
pub record Sink : Type 0 where
  pub taken : Option (List ℕ)
  pub failures : ℕ
  pub unwritten : Unwritten
  pub name : ℕ

abbrev pub sink : {O : Type 0} → output.Ghosts O → Reply O → Sink
sink o reply = record {
  taken = o.taken reply.output.now;
  failures = o.failures reply.output.now;
  unwritten = reply.unwritten;
  name = reply.output.ghost_name;
}

-- Since a moment at which the output of this name had taken `start` and had counted `count` failures, this text was printed to it. The
-- output took a front of the text, and all of it but the held bytes, unless a write failed; and then the count has risen.
pub record Told (start : Option (List ℕ)) (count name : ℕ) (now : Sink) (told : List ℕ) : Type 0 where
  pub out : List ℕ
  pub rest : List ℕ
  pub appended : Appends start now.taken out
  pub split : out ++ rest ≡ told
  pub held : now.unwritten.failed ≡ false → rest ≡ now.unwritten.held.items
  pub counted : count ≤ now.failures
  pub blamed : now.unwritten.failed ≡ true → HasRisen count now.failures
  pub same : now.name ≡ name

-- whatever was printed before, this text was printed after it
abbrev pub Prints : Sink → Sink → List ℕ → Type 0
Prints old new text =
    (start : Option (List ℕ)) (count name : ℕ) (told : List ℕ)
    → Told start count name old told → Told start count name new (told ++ text)

-- all of the printed text was taken, or a front of it until a write failed
abbrev pub IsDelivered : Option (List ℕ) → ℕ → Option (List ℕ) → ℕ → List ℕ → Result (Unit {0}) StreamFault → Type 0
IsDelivered start count taken failures told (Ok done) = Appends start taken told
IsDelivered start count taken failures told (Err fault) =
    (out : List ℕ) × (rest : List ℕ) × (out ++ rest ≡ told) × Appends start taken out × HasRisen count failures
