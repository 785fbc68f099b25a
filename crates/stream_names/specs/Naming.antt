-- A template, and a text that is being put together, as contracts see them.
use Rattle.std.specs.Prelude.{◌≡◌, ℕ, ◌<◌, List, length}
use Rattle.stream_names.specs.declared.template.Template.{Template}
use Rattle.stream_names.specs.declared.text.NameText.{NameText}

-- the bytes of a template
abbrev pub template_bytes : Template → List ℕ
template_bytes template = template.bytes.items

-- the kept part distinguishes a text of at most 128 bytes from a longer one
pub record KeepsText (text : List ℕ) (kept : NameText) : Type 0 where
  pub whole : length kept.front.items < 129 → text ≡ kept.front.items
  pub long : length kept.front.items ≡ 129 → 128 < length text
