use Rattle.std.proofs.Common.{◌≡◌, ◌∙◌, ◌++◌, ◌∷◌, ap, subst, sym}
use Rattle.std.specs.Prelude.{decimal}
use Rattle.chess_board.specs.Fens.{FenValue, Spells, fen_text, position_text}
use Rattle.chess_board.proofs.Spelling.{printed_spells}
use Rattle.chess_board.proofs.fens.Fen.text.Goals as goal

pub returns-clause-spelt : goal.returns-clause-spelt
unfolding fen_text
returns-clause-spelt c =
    let fen : FenValue = record { position = c.self.inside.position; halfmove = c.self.inside.halfmove; fullmove = c.self.inside.fullmove } in
    let spelt : Spells (fen_text fen) fen = printed_spells fen c.text.ensures.sound c.self.invariant.0 c.self.invariant.1 in
    let position : c.push_str.new.self.bytes ≡ position_text fen.position =
    rw (c.new-text.ensures, c.as_str.ensures.value, c.text.ensures.text) at c.push_str.ensures.bytes in
    let bytes : c.push_counter-2.new.text.bytes ≡ fen_text fen =
    c.push_counter-2.ensures.text ∙ ap (λ t. t ++ 32 ∷ decimal fen.fullmove)
    (c.push_counter.ensures.text ∙ ap (λ t. t ++ 32 ∷ decimal fen.halfmove) position) in
    subst (λ f. Spells c.push_counter-2.new.text.bytes f) c.self.view_is (subst (λ t. Spells t fen) (sym bytes) spelt)
