use Rattle.std.proofs.Common.{◌≡◌, ℕ, false, refl}
use Rattle.std.specs.Int.RustNames.{bit_or}
use Rattle.chess_board.specs.declared.men.Kind.{Kind}
use Rattle.chess_board.specs.declared.men.Kind.TheVariants.{Pawn, Knight, Bishop, Rook, Queen, King}
use Rattle.chess_board.specs.MakeMove.{after_setup}
use Rattle.chess_moves.specs.Verdicts.{is_mate}
use Rattle.chess_moves.proofs.MatingMen.{neither}
use Rattle.chess_moves.proofs.Played.{played}
use Rattle.chess_moves.proofs.SpecialMoves.{plain_piece}
use Rattle.chess_moves.proofs.mating_men.mating_men.Goals as goal

pub returns : goal.returns
returns c = λ m legal on t_on none.
    let p = c.args.info.now.position.now in
    let by = played p m legal in
    let man = by.0 in
    let there = by.1.there in
    let pawns : ℕ = bit_or c.special_pawns.result c.men_that_cover.result in
    let knights : ℕ = c.men_that_cover-knights.result in
    let bishops : ℕ = c.men_that_cover-bishops.result in
    let rooks : ℕ = c.men_that_cover-rooks.result in
    let queens : ℕ = c.men_that_cover-queens.result in
    let king : ℕ = bit_or c.castling_king.result c.men_that_cover-2.result in
    let to_king = neither (bit_or (bit_or (bit_or (bit_or pawns knights) bishops) rooks) queens) king m.origin none in
    let to_queens = neither (bit_or (bit_or (bit_or pawns knights) bishops) rooks) queens m.origin to_king.0 in
    let to_rooks = neither (bit_or (bit_or pawns knights) bishops) rooks m.origin to_queens.0 in
    let to_bishops = neither (bit_or pawns knights) bishops m.origin to_rooks.0 in
    let to_knights = neither pawns knights m.origin to_bishops.0 in
    let of_pawns = neither c.special_pawns.result c.men_that_cover.result m.origin to_knights.0 in
    let of_king = neither c.castling_king.result c.men_that_cover-2.result m.origin to_king.1 in
    (elim man.kind as (λ (k : Kind). man.kind ≡ k → is_mate (after_setup p m) ≡ false) [
      | Pawn ↦ λ e. c.men_that_cover.ensures m man legal there e (c.special_pawns.ensures m man legal there e on of_pawns.0) on t_on of_pawns.1
      | Knight ↦ λ e. c.men_that_cover-knights.ensures m man legal there e (plain_piece p man m legal there (rw e refl) (rw e refl)) on t_on to_knights.1
      | Bishop ↦ λ e. c.men_that_cover-bishops.ensures m man legal there e (plain_piece p man m legal there (rw e refl) (rw e refl)) on t_on to_bishops.1
      | Rook ↦ λ e. c.men_that_cover-rooks.ensures m man legal there e (plain_piece p man m legal there (rw e refl) (rw e refl)) on t_on to_rooks.1
      | Queen ↦ λ e. c.men_that_cover-queens.ensures m man legal there e (plain_piece p man m legal there (rw e refl) (rw e refl)) on t_on to_queens.1
      | King ↦ λ e. c.men_that_cover-2.ensures m man legal there e (c.castling_king.ensures m man legal there e on t_on of_king.0) on t_on of_king.1
    ]) refl
