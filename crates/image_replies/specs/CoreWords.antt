-- The meaning of the code's view of a core.
use Rattle.std.specs.Prelude.{ℕ, List}
use Rattle.elf_view.specs.ViewWords.{image_of}
use Rattle.image_replies.specs.declared.core_image.CoreImage.{CoreImage}

-- the image that is viewed
abbrev pub core_bytes : CoreImage → List ℕ
core_bytes core = image_of core.elf
