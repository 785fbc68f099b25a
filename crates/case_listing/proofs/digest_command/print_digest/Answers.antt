use Rattle.std.proofs.Common.{ap, sym}
use Rattle.case_listing.specs.Digests.{sent_as}
use Rattle.case_listing.proofs.digest_command.print_digest.Goals as goal

pub returns-in-Ok : goal.returns-in-Ok
returns-in-Ok g c = (c.print_line.result, c.print_line.ensures, sym (ap sent_as c.in-Ok.is))

pub returns-in-Err : goal.returns-in-Err
returns-in-Err g c = (c.print_line.result, c.print_line.ensures, sym (ap sent_as c.in-Err.is))
