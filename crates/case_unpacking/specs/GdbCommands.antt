-- The commands by which a debugger opens the unpacked files, in their directory.
use Rattle.std.specs.Prelude.{ℕ, ◌-◌, Bool, List, [], ◌∷◌, ◌++◌, length, take, Option, None, Some, codes, if◌then◌else◌}
use Rattle.std.specs.List.{list_any}
use Rattle.std.specs.Str.{bytes_eq}
use Rattle.case_unpacking.specs.Places.{place_text}
use Rattle.case_unpacking.specs.PlaceViews.{place_said}
use Rattle.case_unpacking.specs.declared.gdb_commands.Unpacked.{Unpacked}
use Rattle.case_unpacking.specs.declared.places.Place.{Place}

-- how a place is written
abbrev pub text_of : Place → List ℕ
text_of p = place_text (place_said p)

-- the directory that a place is in: all components but the last
abbrev pub folder_of : Place → List ℕ
folder_of p = place_text (take (length (place_said p) - 1) (place_said p))

-- the directory of a path below `sysroot`
abbrev pub folder_below : List (List ℕ) → List ℕ
folder_below parts = place_text (codes "sysroot" ∷ take (length parts - 1) parts)

-- a directory below `sysroot`, or `sysroot` itself
abbrev pub below : Option (List ℕ) → List ℕ
below None = codes "sysroot"
below (Some folder) = codes "sysroot/" ++ folder

-- the directory of a place, if none of those before is in it
abbrev pub new_folder : List ℕ → List Place → Place → List ℕ
new_folder separator before p = if list_any (λ q. bytes_eq (folder_of q) (folder_of p)) before then [] else separator ++ folder_of p

abbrev pub more_folders : List ℕ → List Place → List Place → List ℕ
more_folders separator before [] = []
more_folders separator before (p ∷ ps) = new_folder separator before p ++ more_folders separator (before ++ p ∷ []) ps

-- A line with the directories of places, each once, in the order of the first place in it. Without places there is no line.
abbrev pub folders_line : List ℕ → List ℕ → List Place → List ℕ
folders_line command separator [] = []
folders_line command separator (p ∷ ps) = command ++ (folder_of p ++ (more_folders separator (p ∷ []) ps ++ codes "\n"))

abbrev pub when : Bool → List ℕ → List ℕ
when is_so text = if is_so then text else []

-- a text, and behind it the place of the program, and an end; nothing, if there is no program
abbrev pub with_program : List ℕ → List ℕ → Option Place → List ℕ
with_program front end None = []
with_program front end (Some p) = front ++ (text_of p ++ end)

-- For GDB. It takes no commands from the files that it opens, finds libraries by their names' last component, and opens the program
-- before the core.
abbrev pub gdb_text : Unpacked → List ℕ
gdb_text u =
    codes "set auto-load off\nset sysroot sysroot\n"
    ++ (folders_line (codes "set solib-search-path ") (codes ":") u.others.now
    ++ (when u.has_debug (codes "set debug-file-directory debug\n")
    ++ (with_program (codes "file ") (codes "\n") u.program
    ++ when u.has_core (codes "core-file core\n"))))

-- For LLDB.
abbrev pub lldb_text : Unpacked → List ℕ
lldb_text u =
    folders_line (codes "settings set target.exec-search-paths ") (codes " ") u.others.now
    ++ (codes "target create"
    ++ (with_program (codes " ") [] u.program
    ++ (when u.has_core (codes " --core core") ++ codes "\n")))
