use Rattle.std.proofs.Common.{not, sym, ◌∙◌, arith}
use Rattle.std.specs.List.{list_all}
use Rattle.std.proofs.lemmas.Bool.{and_parts}
use Rattle.chess_notation.specs.Words.{is_blank, words_in}
use Rattle.chess_notation.specs.AvoidMoves.{is_name}
use Rattle.chess_notation.proofs.FewWords.{few_words}
use Rattle.chess_notation.proofs.NamedOnce.{few_named}
use Rattle.chess_notation.proofs.avoid_moves.named_moves.Goals as goal

-- The moves named are no more than the words, of which there are few.
pub moves_named-requires : goal.moves_named-requires
moves_named-requires c =
    let p = c.args.position.now in
    let words = words_in c.args.words.now in
    let few = few_named c.bare_texts_apart.ensures c.legal_rise.ensures p words in
    let each = and_parts (not (is_blank c.args.words.now)) (list_all (is_name p) words) (sym c.are_names.ensures ∙ c.if-are_names.true) in
    let short = few_words c.legal_listed.ensures p c.args.words.now c.requires each.1 in
    omega (arith, few, short)
