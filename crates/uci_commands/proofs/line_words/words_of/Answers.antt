use Rattle.std.proofs.Common.{map, []}
use Rattle.chess_notation.specs.Words.{words_in}
use Rattle.uci_commands.specs.inside.LineWords.{parts_of}
use Rattle.uci_commands.proofs.WordTexts.{not_all_texts}
use Rattle.uci_commands.proofs.line_words.words_of.Goals as goal

pub returns-then-not-branch-clause-none : goal.returns-then-not-branch-clause-none
returns-then-not-branch-clause-none c =
    not_all_texts (words_in c.args.line.now) (map (λ s. s.now) c.loop-word.words.items) (parts_of c.loop-word.rest.now)
    (parts_of c.in-Some.more.now) c.in-Some.word.now c.loop-word.invariant c.in-Some.ensures.cut
    (c.in_ok-push_word.ensures.refused c.if-not-branch.true)

pub returns-clause-none : goal.returns-clause-none
returns-clause-none c =
    not_all_texts (words_in c.args.line.now) (map (λ s. s.now) c.loop-word.words.items) (parts_of c.loop-word.rest.now)
    [] c.loop-word.rest.now c.loop-word.invariant c.in_default.ensures.none (c.in_ok-push_word-2.ensures.refused c.if-branch.false)
