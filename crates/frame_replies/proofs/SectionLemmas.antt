-- What is read of the sections of a file.
use Rattle.std.proofs.Common.{◌≡◌, ℕ, List, Some, Ok, sym, ap, ◌∙◌}
use Rattle.std.specs.Prelude.{codes}
use Rattle.std.specs.Option.{option_map}
use Rattle.line_tables.specs.UnitFinding.{CompilationsView}
use Rattle.line_tables.specs.Finding.{tables}
use Rattle.inflate.specs.Sections.{DataView, has_unread, section_data}
use Rattle.frame_replies.specs.Source.{SourcesView, bytes_or_none, compilations_in, sources_in, sources_or, sources_with}

module _ (b : List ℕ) where
  abbrev parts : List ℕ → List ℕ → List ℕ → CompilationsView
  parts info abbreviations texts = record { debug_info = info; debug_abbrev = abbreviations; debug_str = texts }

  -- the compilations of a file, by the sections that were read
  pub compilations_read : (info abbreviations texts : List ℕ) → info ≡ bytes_or_none b (codes ".debug_info") → abbreviations ≡ bytes_or_none b (codes ".debug_abbrev") → texts ≡ bytes_or_none b (codes ".debug_str")
      → parts info abbreviations texts ≡ compilations_in b
  compilations_read info abbreviations texts i a t =
      ap (λ x. parts x abbreviations texts) i ∙ ap (λ x. parts (bytes_or_none b (codes ".debug_info")) x texts) a
      ∙ ap (parts (bytes_or_none b (codes ".debug_info")) (bytes_or_none b (codes ".debug_abbrev"))) t

  abbrev made : List ℕ → List ℕ → List ℕ → SourcesView
  made lines line_texts texts = record { tables = tables lines line_texts texts; compilations = compilations_in b }

  -- the line tables of a file, by the sections that were read
  pub sources_read : (lines : DataView) (line_texts texts : List ℕ) → section_data b (codes ".debug_line") ≡ Some lines → line_texts ≡ bytes_or_none b (codes ".debug_line_str") → texts ≡ bytes_or_none b (codes ".debug_str")
      → sources_in b ≡ Ok (made lines.bytes line_texts texts)
  unfolding sources_in
  sources_read lines line_texts texts is l t =
      ap (λ o. sources_or (option_map (sources_with b) (option_map (λ (s : DataView). s.bytes) o)) (has_unread b (codes ".debug_line"))) is
      ∙ ap (λ x. Ok (made lines.bytes x (bytes_or_none b (codes ".debug_str")))) (sym l) ∙ ap (λ x. Ok (made lines.bytes line_texts x)) (sym t)
