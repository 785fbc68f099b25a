use Rattle.case_listing.proofs.LawLemmas.{read_by_people}
use Rattle.case_listing.proofs.laws.printed_texts_are_read_by_people.Goals as goal

pub returns : goal.returns
returns c = read_by_people
