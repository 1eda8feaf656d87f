use Rattle.std.proofs.Common.{refl, sym, ◌∙◌}
use Rattle.problem_import.proofs.ReadItems.{key_taken}
use Rattle.problem_import.proofs.olive.OliveProblem.take_key.Goals as goal

pub returns-then-has_colon-clause-read : goal.returns-then-has_colon-clause-read
returns-then-has_colon-clause-read c = λ said read. key_taken c.args.line.now c.word_at.result.0.now c.split_at.result.0.now said c.args.self.now _
    c.word_at.ensures.word (sym c.has_colon.ensures ∙ c.if-has_colon.true) c.split_at.ensures.front c.section_of-self.ensures refl refl refl read
