-- How a stream goes to a file.
use Rattle.std.specs.Prelude.{◌≡◌, ◌<◌, ◌≤◌, ℕ, List, [], ◌++◌, length, take, Option, Some, None, ⊤}
use Rattle.std.specs.Io.KnownBytes.{Appends, Consumes, IsAtEnd}
use Rattle.handler_files.specs.declared.stream.End.{End}
use Rattle.handler_files.specs.declared.stream.End.TheVariants.{Whole, Most, Unread, Unwritten}

-- Of the bytes xs that were to come, the first n were written. Then come those that are held, and then those that are still to come.
pub record PassesOn (xs : List ℕ) (n : ℕ) (old new : Option (List ℕ)) (held : List ℕ) (left : Option (List ℕ)) : Type 0 where
  pub count : n ≤ length xs
  pub written : Appends old new (take n xs)
  pub rest : Consumes (Some xs) left (take n xs ++ held)

-- The meaning of an end: nothing is left of a stream that has ended, and nothing is held if as many bytes went on as were wanted.
abbrev pub EndsAt : End → ℕ → ℕ → List ℕ → Option (List ℕ) → Type 0
EndsAt Whole n most held left = (held ≡ []) × IsAtEnd left
EndsAt Most n most held left = (held ≡ []) × (n ≡ most)
EndsAt Unread n most held left = held ≡ []
EndsAt (Unwritten fault) n most held left = ⊤

-- A piece went on, and more may follow; or it ends so.
abbrev pub StepsTo : ℕ → Option End → List ℕ → Option (List ℕ) → Type 0
StepsTo n None held left = (held ≡ []) × (0 < n)
StepsTo n (Some Whole) held left = (held ≡ []) × IsAtEnd left
StepsTo n (Some Most) held left = ⊥
StepsTo n (Some Unread) held left = held ≡ []
StepsTo n (Some (Unwritten fault)) held left = ⊤
