-- The place of a frame in its build.
use Rattle.std.specs.Prelude.{ℕ, List, take, Option, None, option_map, if◌then◌else◌}
use Rattle.crash_signatures.specs.Frames.{FrameSaid, place_text, word_of}
use Rattle.crash_signatures.specs.Steps.{ends_process}

-- the name of the mapped file and the place in it, unless the frame's function is one by which a process ends itself
abbrev pub place_of : FrameSaid → Option (List ℕ)
place_of f = if ends_process (word_of f) then None else option_map (λ file. take 256 (place_text file f.pc)) f.file
