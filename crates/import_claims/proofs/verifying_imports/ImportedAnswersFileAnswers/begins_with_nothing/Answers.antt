use Rattle.import_claims.proofs.Unopened.{no_imported_reply}
use Rattle.import_claims.proofs.verifying_imports.ImportedAnswersFileAnswers.begins_with_nothing.Goals as goal

pub returns : goal.returns
returns c = λ from name input. no_imported_reply c.args.self.now.several c.args.self.now.letters c.args.self.now.bound from name input
