-- How what was given adds up over several steps.
use Rattle.std.proofs.Common.{◌≡◌, ℕ, zero, suc, ◌+◌, ◌<◌, ◌≤◌, true, false, ◌==◌, List, [], ◌∷◌, ◌++◌, length, take, get_or, take_all, subst, Option, None, Some, sym, ap, ◌∙◌, arith, append_assoc, length-append, length-take-le, false-eqb, eqb-true, eq-eqb, min}
use Rattle.std.proofs.lemmas.List.{append-nil, nil_from_length, take_more}
use Rattle.std.proofs.KnownBytes.{Consumes-nil, Consumes-trans, Consumes-kept}
use Rattle.std.specs.Io.KnownBytes.{Keeps, IsAtEnd}
use Rattle.memchr.specs.Find.{IsFirstByte, is_byte}
use Rattle.script_streams.specs.Lines.{IsLine}
use Rattle.script_streams.specs.GoingOn.{TakesLine}
use Rattle.script_streams.specs.declared.kept_line.KeptLine.{KeptLine}
use Rattle.script_streams.specs.Lines.{KeepsLine}
use Rattle.script_streams.specs.Reading.{held_bytes, reads_made, steps_left, Gives}
use Rattle.script_streams.specs.declared.reader.ScriptBuffer.{ScriptBuffer}

-- bytes that were held are given, and nothing was read
pub gives_held : (old new : ScriptBuffer) (given : List ℕ) → held_bytes old ≡ given ++ held_bytes new → reads_made new ≡ reads_made old
    → steps_left new + length given ≡ steps_left old → (a : Option (List ℕ)) → Gives a a old new given
gives_held old new given bytes reads steps a = record {
  read = [];
  consumed = Consumes-nil a;
  bytes = append-nil (held_bytes old) ∙ bytes;
  counted = omega arith;
  steps = omega arith;
}

-- a read that failed gave nothing
pub gives_none : (a b : Option (List ℕ)) (old new : ScriptBuffer) → Keeps a b → held_bytes old ≡ held_bytes new → reads_made new ≡ reads_made old
    → steps_left new ≡ steps_left old → Gives a b old new []
gives_none a b old new keeps bytes reads steps = record {
  read = [];
  consumed = Consumes-kept a a b [] (Consumes-nil a) keeps;
  bytes = append-nil (held_bytes old) ∙ bytes;
  counted = omega arith;
  steps = omega arith;
}

-- one after the other
pub gives_then : (a b c : Option (List ℕ)) (old mid new : ScriptBuffer) (x y : List ℕ) → Gives a b old mid x → Gives b c mid new y → Gives a c old new (x ++ y)
gives_then a b c old mid new x y first second = record {
  read = first.read ++ second.read;
  consumed = Consumes-trans a b c first.read second.read first.consumed second.consumed;
  bytes = sym (append_assoc (held_bytes old) first.read second.read)
      ∙ ap (λ bytes. bytes ++ second.read) first.bytes
      ∙ append_assoc x (held_bytes mid) second.read
      ∙ ap (λ bytes. x ++ bytes) second.bytes
      ∙ sym (append_assoc x y (held_bytes new));
  counted = omega (arith, first.counted, second.counted, length-append first.read second.read);
  steps = omega (arith, first.steps, second.steps, length-append x y);
}

pub gives_then_none : (a b c : Option (List ℕ)) (old mid new : ScriptBuffer) (x : List ℕ) → Gives a b old mid x → Gives b c mid new [] → Gives a c old new x
gives_then_none a b c old mid new x first second =
    rw (← append-nil x) (gives_then a b c old mid new x [] first second)

-- a front with no newline is of one line
pub is_line_before : (bytes : List ℕ) (n : ℕ) → n ≤ length bytes → ((k : ℕ) → k < n → ¬ ((get_or bytes k 0 == 10) ≡ true)) → IsLine (take n bytes)
is_line_before bytes zero within none = tt
is_line_before [] (suc n) within none = tt
is_line_before (c ∷ cs) (suc n) within none =
    (λ is. none 0 (omega arith) (eq-eqb c 10 is), is_line_before cs n (omega arith) (λ k lt. none (suc k) (omega arith)))

pub is_line_found : (bytes : List ℕ) (at : ℕ) → IsFirstByte (is_byte 10) bytes (Some at) → IsLine (take at bytes)
is_line_found bytes at found = is_line_before bytes at (omega (arith, found.0.high)) (λ k lt. found.0.before k (omega arith) lt)

pub is_line_all : (bytes : List ℕ) → IsFirstByte (is_byte 10) bytes None → IsLine bytes
is_line_all bytes none = subst IsLine (take_all (length bytes) bytes (omega arith)) (is_line_before bytes (length bytes) (omega arith) (λ k lt. none k (omega arith) lt))

-- up to the newline, and with it
pub newline_behind : (bytes : List ℕ) (at : ℕ) → IsFirstByte (is_byte 10) bytes (Some at) → take (at + 1) bytes ≡ take at bytes ++ 10 ∷ []
newline_behind bytes at found = take_more bytes at 0 found.0.high ∙ ap (λ c. take at bytes ++ c ∷ []) (eqb-true _ 10 found.1)

pub is_line_append : (x y : List ℕ) → IsLine x → IsLine y → IsLine (x ++ y)
is_line_append [] y first second = second
is_line_append (c ∷ cs) y first second = (first.0, is_line_append cs y first.1 second)

-- the front of a line up to a newline that was held
pub took_line : (old new : ScriptBuffer) (held x : List ℕ) (at : ℕ) → held ≡ held_bytes old → IsFirstByte (is_byte 10) held (Some at) → x ≡ take at held
    → held_bytes old ≡ take (at + 1) (held_bytes old) ++ held_bytes new → reads_made new ≡ reads_made old → steps_left new + (at + 1) ≡ steps_left old
    → IsLine x × ((a : Option (List ℕ)) → Gives a a old new (x ++ 10 ∷ []))
took_line old new held x at is found front used reads steps =
    let up_to : take (at + 1) (held_bytes old) ≡ x ++ 10 ∷ [] =
    ap (take (at + 1)) (sym is) ∙ newline_behind held at found ∙ ap (λ bytes. bytes ++ 10 ∷ []) (sym front) in
    let size : length x ≡ at = ap length front ∙ length-take-le at held (omega (arith, found.0.high)) in (
      subst IsLine (sym front) (is_line_found held at found),
      gives_held old new (x ++ 10 ∷ []) (used ∙ ap (λ bytes. bytes ++ held_bytes new) up_to) reads (omega (arith, size, steps, length-append x (10 ∷ []))),
    )

-- all that was held, with no newline
pub took_all : (old new : ScriptBuffer) (held : List ℕ) → held ≡ held_bytes old → IsFirstByte (is_byte 10) held None
    → held_bytes old ≡ take (length held) (held_bytes old) ++ held_bytes new → reads_made new ≡ reads_made old → steps_left new + length held ≡ steps_left old
    → IsLine held × ((a : Option (List ℕ)) → Gives a a old new held)
took_all old new held is none used reads steps =
    let all : take (length held) (held_bytes old) ≡ held = ap (take (length held)) (sym is) ∙ take_all (length held) held (omega arith) in (
      is_line_all held none,
      gives_held old new held (used ∙ ap (λ bytes. bytes ++ held_bytes new) all) reads steps,
    )

-- a line went on by all that was held, and then one read was made
pub record WentOn (front : List ℕ) (a b : Option (List ℕ)) (old new : ScriptBuffer) (kept : KeptLine) : Type 0 where
  pub piece : List ℕ
  pub line : IsLine piece
  pub keeps : KeepsLine (front ++ piece) kept
  pub gives : Gives a b old new piece

pub went_on : (front : List ℕ) (a b : Option (List ℕ)) (old mid new : ScriptBuffer) (kept : KeptLine) → TakesLine front old mid kept false → Gives a b mid new []
    → WentOn front a b old new kept
went_on front a b old mid new kept taken read = record {
  piece = taken.0;
  line = taken.1;
  keeps = taken.2;
  gives = gives_then_none a a b old mid new taken.0 (taken.3 a) read;
}

-- the next bytes of a part
pub given_raw : (a b : Option (List ℕ)) (old mid new : ScriptBuffer) (n : ℕ) (into : List ℕ) → Gives a b old mid [] → (held_bytes mid ≡ [] → IsAtEnd b)
    → 0 < length into → n ≡ min (length (held_bytes mid)) (length into) → held_bytes mid ≡ take n into ++ held_bytes new
    → reads_made new ≡ reads_made mid → steps_left new + n ≡ steps_left mid
    → (n ≤ length into) × Gives a b old new (take n into) × (n ≡ 0 → IsAtEnd b × (held_bytes new ≡ []))
given_raw a b old mid new n into read ends some is bytes reads steps =
    let within : n ≤ length into = omega arith in
    let size : length (take n into) ≡ n = length-take-le n into within in
    let total : length (held_bytes mid) ≡ length (take n into) + length (held_bytes new) = ap length bytes ∙ length-append (take n into) (held_bytes new) in (
      within,
      gives_then a b b old mid new [] (take n into) read (gives_held mid new (take n into) bytes reads (omega (arith, size, steps)) b),
      λ none. (
        ends (nil_from_length (held_bytes mid) (omega arith)),
        nil_from_length (held_bytes new) (omega (arith, total)),
      ),
    )

-- what a test for the empty list says
pub nothing : (xs : List ℕ) → true ≡ (length xs == 0) → xs ≡ []
nothing xs is = nil_from_length xs (eqb-true (length xs) 0 (sym is))

pub something : (xs : List ℕ) → false ≡ (length xs == 0) → 0 < length xs
something xs is = let some = false-eqb (length xs) 0 is in omega arith

-- where nothing is held after a read, the input has ended
pub used_up : (b : Option (List ℕ)) (new : ScriptBuffer) (held : List ℕ) → held ≡ held_bytes new → true ≡ (length held == 0) → (held_bytes new ≡ [] → IsAtEnd b)
    → IsAtEnd b × (held_bytes new ≡ [])
used_up b new held is none ends = let empty : held_bytes new ≡ [] = sym is ∙ nothing held none in (ends empty, empty)
