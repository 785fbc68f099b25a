use Rattle.backtrace.proofs.Steps.{chain_found, chain_only}
use Rattle.backtrace.proofs.laws.the_frames_are_the_chain.Goals as goal

pub returns-clause-found : goal.returns-clause-found
returns-clause-found c = chain_found

pub returns-clause-only : goal.returns-clause-only
returns-clause-only c = chain_only
