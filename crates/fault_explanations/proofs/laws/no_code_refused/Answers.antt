use Rattle.fault_explanations.proofs.Refusals.{no_code_refused}
use Rattle.fault_explanations.proofs.laws.no_code_refused.Goals as goal

pub returns : goal.returns
returns c = no_code_refused
