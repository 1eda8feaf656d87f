use Rattle.stipulations.proofs.Cuts.{words_cut, shorter}
use Rattle.stipulations.proofs.words.cut_word.Goals as goal

pub returns-clause-words : goal.returns-clause-words
returns-clause-words c = rw (c.cut.ensures.front, c.cut.ensures.after) (words_cut c.args.text.now)

pub returns-clause-shorter : goal.returns-clause-shorter
returns-clause-shorter c = rw c.cut.ensures.after (shorter c.args.text.now c.requires)
