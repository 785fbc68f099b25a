-- A name template as its parts (core(5), "Naming of core dump files").
use Rattle.std.specs.Prelude.{◌≡◌, ◌≢◌, ℕ, ◌==◌, nat_lt, List, [], ◌∷◌, length, Option, None, Some, if◌then◌else◌}
use Rattle.std.specs.List.{flat_map}
use Rattle.stream_names.specs.declared.part.Part.{Part}
use Rattle.stream_names.specs.declared.part.Part.TheVariants.{Letter, Lone, Plain}
use Rattle.stream_names.specs.declared.template.TemplateFault.{TemplateFault}
use Rattle.stream_names.specs.declared.template.TemplateFault.TheVariants.{Pipe, TemplateTooLong}

-- the bytes of a part: a percent and the byte after it, a lone percent, or one byte
abbrev pub spelling : Part → List ℕ
spelling (Letter c) = 37 ∷ c ∷ []
spelling Lone = 37 ∷ []
spelling (Plain c) = c ∷ []

-- the parts of a template
abbrev pub parts_of : List ℕ → List Part
parts_of [] = []
parts_of (c ∷ []) = if c == 37 then Lone ∷ [] else Plain c ∷ []
parts_of (c ∷ d ∷ cs) = if c == 37 then Letter d ∷ parts_of cs else Plain c ∷ parts_of (d ∷ cs)

-- the text begins with a pipe, which core(5) gives a meaning of its own
abbrev pub begins_with_pipe : List ℕ → Option TemplateFault → Option TemplateFault
begins_with_pipe [] otherwise = otherwise
begins_with_pipe (c ∷ cs) otherwise = if c == 124 then Some Pipe else otherwise

-- why a text is no template, if it isn't one: the first of the two that holds
abbrev pub template_fault : List ℕ → Option TemplateFault
template_fault text = begins_with_pipe text (if nat_lt 127 (length text) then Some TemplateTooLong else None)

-- parts that can follow one another: a lone percent is the last, and no other percent is a plain byte
abbrev pub AreParts : List Part → Type 0
AreParts [] = Unit {0}
AreParts (Letter c ∷ parts) = AreParts parts
AreParts (Lone ∷ parts) = parts ≡ []
AreParts (Plain c ∷ parts) = (c ≢ 37) × AreParts parts

-- the template is cut into these parts
pub record IsCut (template : List ℕ) (parts : List Part) : Type 0 where
  pub parts_stand : AreParts parts
  pub joined : flat_map spelling parts ≡ template
