use Rattle.std.proofs.Common.{◌≡◌, ⊎_elim, ℕ, List, [], length, take, ap, sym, subst, ◌∙◌}
use Rattle.journal_layout.specs.declared.entry.Kind.{Kind}
use Rattle.script_lines.specs.Queries.{image_query}
use Rattle.script_lines.specs.declared.query.ImageQuery.{ImageQuery}
use Rattle.script_streams.specs.Replies.{reply_of}
use Rattle.std.specs.Prelude.{is_ok}
use Rattle.case_queries.specs.Fronts.{IsEnough, IsSoundFront, front_want}
use Rattle.case_queries.specs.Inspecting.{answer_of}
use Rattle.case_queries.proofs.by_front.print_front.Goals as goal

-- bytes that are enough answer as the image does
same : (kind : Kind) (query : ImageQuery) (front image : List ℕ)
    → ((b : List ℕ) (n : ℕ) → IsSoundFront (front_want kind query) (take n b) → answer_of kind (image_query query) (take n b) [] [] ≡ answer_of kind (image_query query) b [] [])
    → IsEnough (front_want kind query) front image → answer_of kind (image_query query) front [] [] ≡ answer_of kind (image_query query) image [] []
same kind query front image law enough =
    ⊎_elim
    (λ is. ap (λ b. answer_of kind (image_query query) b [] []) is)
    (λ cut. ap (λ b. answer_of kind (image_query query) b [] []) cut.0 ∙ law image (length front) (subst (IsSoundFront (front_want kind query)) cut.0 cut.1))
    enough

pub returns-clause-states : goal.returns-clause-states
returns-clause-states g c image enough =
    rw (sym (ap reply_of (same c.args.kind c.args.query.now c.args.front.now image (c.a_front_answers.ensures c.args.kind c.args.query.now) enough))) c.print_image.ensures.states

pub returns-clause-done : goal.returns-clause-done
returns-clause-done g c image enough =
    c.print_image.ensures.done ∙ ap is_ok (same c.args.kind c.args.query.now c.args.front.now image (c.a_front_answers.ensures c.args.kind c.args.query.now) enough)
