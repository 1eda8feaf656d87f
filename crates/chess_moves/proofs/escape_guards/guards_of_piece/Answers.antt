use Rattle.std.proofs.Common.{sym, ap, ◌∙◌}
use Rattle.std.proofs.lemmas.Bool.{both_ways}
use Rattle.chess_board.specs.declared.men.Colour.{Colour}
use Rattle.chess_board.specs.inside.KindTests.{is_pawn_kind, is_king_kind}
use Rattle.chess_moves.specs.inside.Hits.{hits_as}
use Rattle.chess_moves.proofs.GuardedRefuges.{all_guard, guarded, none_with}
use Rattle.chess_moves.proofs.escape_guards.guards_of_piece.Goals as goal

pub returns-then-men-eq0 : goal.returns-then-men-eq0
returns-then-men-eq0 c = all_guard c.args.position.now c.args.kind

pub returns : goal.returns
returns c =
    let p = c.args.position.now in
    let asked = c.args.kind in
    guarded p c.args.square c.args.squares c.requires.refuge (λ q m sound on t_on ok. c.sound_after.ensures q m sound on t_on ok) asked c.with.result
    (λ t l out.
    let apart = none_with c.lines_to_any.result c.with.result c.args.square t (c.with.ensures t l) out in
    record {
      elsewhere = apart.0;
      misses = λ g on there taken. ap (λ (by : Colour). hits_as taken by asked t g) (sym c.side-side.ensures.side)
          ∙ c.lines_to_any.ensures t g l on apart.1 there taken;
      pawn = λ e. absurd (both_ways (is_pawn_kind asked) c.requires.piece.0 (ap is_pawn_kind e));
      king = λ e. absurd (both_ways (is_king_kind asked) c.requires.piece.1 (ap is_king_kind e));
    })
