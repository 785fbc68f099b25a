-- Call frame information that is compressed and not read.
use Rattle.std.specs.Prelude.{ℕ, ◌||◌, Bool, false, List, Option, is_some, codes, unwrap_or}
use Rattle.std.specs.Option.{option_map}
use Rattle.elf_view.specs.SectionNames.{named_section_of}
use Rattle.inflate.specs.Sections.{has_unread}

-- An image has a compressed section `.debug_frame` that is not decompressed; or a section `.zdebug_frame`, which has compressed bytes and no flag for it, as older GNU tools and Go wrote it.
unfoldable pub has_unread_frames : List ℕ → Bool
has_unread_frames b = has_unread b (codes ".debug_frame") || is_some (named_section_of b (codes ".zdebug_frame"))

-- an executable has some, or its debug file, if there is one
abbrev pub have_unread_frames : List ℕ → Option (List ℕ) → Bool
have_unread_frames b debug = has_unread_frames b || unwrap_or (option_map has_unread_frames debug) false
