-- Bytes that are given one after the other.
use Rattle.std.proofs.Common.{◌≡◌, ℕ, ◌+◌, ◌≤◌, List, [], ◌++◌, length, take, min, Option, sym, ap, subst, ◌∙◌, arith, append_assoc, length-append, length-take-le}
use Rattle.std.proofs.lemmas.List.{append-nil}
use Rattle.std.proofs.KnownBytes.{Consumes-nil, Consumes-trans}
use Rattle.intake.specs.declared.faults.ArchiveFault.{ArchiveFault}
use Rattle.std.specs.Prelude.{Result}
use Rattle.intake.specs.State.{ArchiveState}
use Rattle.script_streams.specs.Reading.{Gives, held_bytes}
use Rattle.script_streams.specs.declared.reader.ScriptBuffer.{ScriptBuffer}
use Rattle.inspector_cli.specs.Reply.{TakeStep}

pub gives_nothing : (a : Option (List ℕ)) (b : ScriptBuffer) → Gives a a b b []
gives_nothing a b = record {
  read = [];
  consumed = Consumes-nil a;
  bytes = append-nil (held_bytes b);
  counted = omega arith;
  steps = omega arith;
}

pub gives_then : (a b c : Option (List ℕ)) (old mid new : ScriptBuffer) (x y : List ℕ) → Gives a b old mid x → Gives b c mid new y → Gives a c old new (x ++ y)
gives_then a b c old mid new x y first second = record {
  read = first.read ++ second.read;
  consumed = Consumes-trans a b c first.read second.read first.consumed second.consumed;
  bytes = sym (append_assoc (held_bytes old) first.read second.read)
      ∙ ap (λ bytes. bytes ++ second.read) first.bytes
      ∙ append_assoc x (held_bytes mid) second.read
      ∙ ap (λ bytes. x ++ bytes) second.bytes
      ∙ sym (append_assoc x y (held_bytes new));
  counted = omega (arith, first.counted, second.counted, length-append first.read second.read);
  steps = omega (arith, first.steps, second.steps, length-append x y);
}

pub gives_then_none : (a b c : Option (List ℕ)) (old mid new : ScriptBuffer) (x : List ℕ) → Gives a b old mid x → Gives b c mid new [] → Gives a c old new x
gives_then_none a b c old mid new x first second = subst (Gives a c old new) (append-nil x) (gives_then a b c old mid new x [] first second)

-- the same bytes
pub gives_as : (a b : Option (List ℕ)) (old new : ScriptBuffer) (x y : List ℕ) → x ≡ y → Gives a b old new x → Gives a b old new y
gives_as a b old new x y is gives = subst (Gives a b old new) is gives

-- the first bytes of a room
pub first_of : (taken most size : ℕ) (into room : List ℕ) → taken ≤ length into → length into ≡ length (take size room) → size ≡ min (length room) most
    → (taken ≤ length room) × (taken ≤ most)
first_of taken most size into room few same is = let e = length-take-le size room (omega arith) in (omega (arith, e), omega (arith, e))

pub took_as : (b new : ArchiveState) (slot n m : ℕ) (r : Result (Unit {0}) ArchiveFault) → n ≡ m → TakeStep b slot n r new → TakeStep b slot m r new
took_as b new slot n m r is step = subst (λ (k : ℕ). TakeStep b slot k r new) is step

-- a part's bytes and its next piece, of n bytes
pub joined_length : (raw piece : List ℕ) (n : ℕ) → length piece ≡ n → length raw + n ≡ length (raw ++ piece)
joined_length raw piece n is = omega (arith, length-append raw piece)
