use Rattle.std.proofs.Common.{◌≡◌, ℕ, false, ◌&&◌, eqb, Option, None, sym, ap, ◌∙◌}
use Rattle.std.proofs.lemmas.Bool.{both_ways}
use Rattle.square_sets.specs.Members.{has}
use Rattle.chess_board.specs.declared.men.Colour.{Colour}
use Rattle.chess_board.specs.declared.men.Kind.TheVariants.{Pawn}
use Rattle.chess_board.specs.Squares.{rank_of}
use Rattle.chess_board.specs.EnPassant.{is_square}
use Rattle.chess_moves.specs.inside.Shifts.{rank_before}
use Rattle.chess_moves.proofs.MatingMen.{among, unpromoted}
use Rattle.chess_moves.proofs.Played.{played_by}
use Rattle.chess_moves.proofs.SetBits.{has_and}
use Rattle.chess_moves.proofs.SpecialMoves.{plain_pawn, same_side}
use Rattle.chess_moves.proofs.mating_men.special_pawns.Goals as goal

pub returns-in-Some : goal.returns-in-Some
returns-in-Some c = λ m man legal there pawn on none.
    let p = c.args.info.now.position.now in
    absurd (both_ways (has c.men-pawns.result m.origin) none
    (among p m man there legal c.args.info.now.side Pawn c.men-pawns.result c.requires.side c.men-pawns.ensures pawn on))

pub returns-in-None : goal.returns-in-None
returns-in-None c = λ m man legal there pawn on none.
    let p = c.args.info.now.position.now in
    let set : ℕ = c.men-pawns.result in
    let rank : ℕ = c.rank_before_last.result in
    let own : man.colour ≡ p.side = same_side man.colour p.side (played_by p m man there legal).own in
    let off : has rank m.origin ≡ false = ap (λ x. x && has rank m.origin) (sym (among p m man there legal c.args.info.now.side Pawn set
    c.requires.side c.men-pawns.ensures pawn on))
    ∙ sym (has_and set rank m.origin) ∙ none in
    let apart : eqb (rank_of m.origin) (rank_before man.colour) ≡ false =
    ap (λ (by : Colour). eqb (rank_of m.origin) (rank_before by)) (own ∙ sym c.requires.side) ∙ sym (c.rank_before_last.ensures m.origin on) ∙ off in
    let passed : is_square p.target m.target ≡ false = let none : p.target ≡ None = sym c.ep_target.ensures.target ∙ c.in-None.is in ap (λ (x : Option ℕ). is_square x m.target) none in
    plain_pawn p man m legal there pawn (unpromoted p m man there legal pawn apart) passed
