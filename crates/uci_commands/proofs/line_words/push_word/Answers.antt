use Rattle.uci_commands.proofs.WordTexts.{no_text}
use Rattle.uci_commands.proofs.line_words.push_word.Goals as goal

pub returns-in_default-clause-refused : goal.returns-in_default-clause-refused
returns-in_default-clause-refused c = λ is. no_text c.args.word.now c.in_default.ensures.cases.0
