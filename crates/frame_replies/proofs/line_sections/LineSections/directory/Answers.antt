use Rattle.std.proofs.Common.{◌≡◌, IfOk, ap, subst, ◌∙◌}
use Rattle.std.specs.Option.{option_map}
use Rattle.line_tables.specs.UnitFinding.{directory}
use Rattle.elf_view.specs.ViewWords.{image_of}
use Rattle.frame_replies.proofs.SectionLemmas.{compilations_read}
use Rattle.frame_replies.proofs.line_sections.LineSections.directory.Goals as goal

pub returns : goal.returns
returns c =
    let same =
    c.directory.ensures
    ∙ ap (λ v. directory v c.args.place)
    (c.new-compilations.ensures
    ∙ compilations_read (image_of c.args.self.now.elf) _ _ _ (c.as_slice.ensures ∙ c.in_ok-info.ensures) (c.as_slice-2.ensures ∙ c.in_ok-abbreviations.ensures) (c.as_slice-3.ensures ∙ c.args.self.now.own)) in
    subst (λ d. IfOk c.owned.result (λ found. option_map (λ v. v.items) found ≡ d)) same c.owned.ensures
