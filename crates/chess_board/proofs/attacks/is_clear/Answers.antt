use Rattle.std.proofs.Common.{◌≡◌, sym, arith, true, ◌∙◌}
use Rattle.std.specs.Prelude.{is_some}
use Rattle.chess_board.specs.inside.Walks.{walked}
use Rattle.chess_board.specs.Positions.{man_at}
use Rattle.chess_board.proofs.Walk.{clear_from_walk, blocked_by_walk}
use Rattle.chess_board.proofs.attacks.is_clear.Goals as goal

pub returns-then-is_some : goal.returns-then-is_some
returns-then-is_some c =
    let there : is_some (man_at c.args.men.now (walked c.args.a c.args.b c.loop-steps.steps)) ≡ true =
    rw (
      c.man.ensures.man,
      c.numbered.ensures,
      c.toward-rank.ensures.value,
      c.toward-file.ensures.value,
      c.rank.ensures.rank,
      c.rank-in-loop-steps.ensures.rank,
      c.file.ensures.file,
      c.file-in-loop-steps.ensures.file,
    ) at
    (sym c.is_some.ensures ∙ c.if-is_some.true) in
    sym (blocked_by_walk c.args.men.now c.args.a c.args.b c.loop-steps.steps c.requires (omega arith) (omega arith) (omega arith) (omega arith) there)

pub returns : goal.returns
returns c = sym (clear_from_walk c.args.men.now c.args.a c.args.b (λ k positive less. c.loop-steps.invariant k positive (omega arith)))
