use Rattle.std.proofs.Common.{ℕ, eqb, Option, sym, ap, ◌∙◌}
use Rattle.std.proofs.lemmas.Bool.{or_parts}
use Rattle.std.specs.Int.RustNames.{bit_or}
use Rattle.square_sets.specs.Members.{has}
use Rattle.chess_board.specs.declared.men.Colour.{Colour}
use Rattle.chess_board.specs.declared.men.Kind.TheVariants.{Pawn}
use Rattle.chess_board.specs.EnPassant.{is_square}
use Rattle.chess_board.specs.Squares.{rank_of}
use Rattle.chess_moves.specs.inside.Hits.{hits_as}
use Rattle.chess_moves.specs.inside.Shifts.{rank_before}
use Rattle.chess_moves.proofs.GuardedRefuges.{guarded, none_with, other_square}
use Rattle.chess_moves.proofs.SetBits.{has_or}
use Rattle.chess_moves.proofs.escape_guards.pawns_guards.Goals as goal

pub returns-in-Some : goal.returns-in-Some
returns-in-Some c =
    let p = c.args.position.now in
    let f : ℕ = c.args.square in
    let special : ℕ = bit_or c.with-guards.result c.rank_before_last.result in
    guarded p f c.args.squares c.requires.refuge (λ q m sound on t_on ok. c.sound_after.ensures q m sound on t_on ok) Pawn c.with.result
    (λ t l out.
    let passed = none_with special c.with.result c.index.result t (c.with.ensures t l) out in
    let both = or_parts (has c.with-guards.result t) (has c.rank_before_last.result t) (sym (has_or _ _ t) ∙ passed.1) in
    let apart = none_with c.lines_to_any.result c.with-guards.result f t (c.with-guards.ensures t l) both.0 in
    record {
      elsewhere = apart.0;
      misses = λ g on there taken. ap (λ (by : Colour). hits_as taken by Pawn t g) (sym c.side-side.ensures.side)
          ∙ c.lines_to_any.ensures t g l on apart.1 there taken;
      pawn = λ e. (
        ap (λ (x : Option ℕ). is_square x t) (sym c.ep_target.ensures.target ∙ c.in-Some.is) ∙ other_square c.in-Some.target t (λ same. passed.0 (c.index.ensures.number ∙ same)),
        ap (λ (by : Colour). eqb (rank_of t) (rank_before by)) (sym c.side-side.ensures.side) ∙ sym (c.rank_before_last.ensures t l) ∙ both.1,
      );
      king = λ e. absurd (cc);
    })

pub returns-in-None : goal.returns-in-None
returns-in-None c =
    let p = c.args.position.now in
    let f : ℕ = c.args.square in
    let special : ℕ = bit_or c.with-guards.result c.rank_before_last.result in
    guarded p f c.args.squares c.requires.refuge (λ q m sound on t_on ok. c.sound_after.ensures q m sound on t_on ok) Pawn special
    (λ t l out.
    let both = or_parts (has c.with-guards.result t) (has c.rank_before_last.result t) (sym (has_or _ _ t) ∙ out) in
    let apart = none_with c.lines_to_any.result c.with-guards.result f t (c.with-guards.ensures t l) both.0 in
    record {
      elsewhere = apart.0;
      misses = λ g on there taken. ap (λ (by : Colour). hits_as taken by Pawn t g) (sym c.side-side.ensures.side)
          ∙ c.lines_to_any.ensures t g l on apart.1 there taken;
      pawn = λ e. (
        ap (λ (x : Option ℕ). is_square x t) (sym c.ep_target.ensures.target ∙ c.in-None.is),
        ap (λ (by : Colour). eqb (rank_of t) (rank_before by)) (sym c.side-side.ensures.side) ∙ sym (c.rank_before_last.ensures t l) ∙ both.1,
      );
      king = λ e. absurd (cc);
    })
