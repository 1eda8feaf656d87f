use Rattle.std.proofs.Common.{◌≡◌, ◌∙◌, ◌++◌, ◌+◌, ◌-◌, ◌<◌, suc, arith, sym, ap, append-nil, codes, decimal, flat_map, length, sum_by, take}
use Rattle.std.proofs.lemmas.Bool.Decides.{nat_tests}
use Rattle.std.proofs.lemmas.List.{take_all}
use Rattle.std.proofs.lemmas.List.Sums.{sum_by_more}
use Rattle.chess_board.specs.Moves.{move_text}
use Rattle.chess_moves.specs.Plays.{plays}
use Rattle.chess_views.specs.Counts.{count_behind, share_line}
use Rattle.chess_views.specs.Lines.{line}
use Rattle.chess_views.proofs.DividedCounts.{shares_none, shares_of}
use Rattle.chess_views.proofs.Pieces.{pieces_more}
use Rattle.chess_views.proofs.counts.push_shares.Goals as goal

pub returns-then-depth-eq0-clause-text : goal.returns-then-depth-eq0-clause-text
returns-then-depth-eq0-clause-text c =
    let none : c.args.depth ≡ 0 = grind (arith, nat_tests) in
    sym (ap (λ t. c.args.text.now.items ++ t) (shares_none c.args.position.now c.args.depth none) ∙ append-nil c.args.text.now.items)

pub loop-m-preserved : goal.loop-m-preserved
loop-m-preserved c =
    let p = c.args.position.now in
    let d = c.args.depth - 1 in
    let text = c.loop-m.text.items in
    let m = c.m-item.result in
    let ms = c.as_slice-m-items.result.now in
    let i = c.loop-m.m-index in
    let counted = c.perft-count.ensures ∙ ap (λ after. length (plays after d)) c.after.ensures in
    let written = c.in_ok-push_share.ensures ∙ ap (λ n. text ++ line (move_text m ++ codes ": " ++ decimal n)) counted in
    let added = ap (λ n. sum_by (count_behind p d) (take i ms) + n) (c.from-sum.ensures ∙ counted ∙ ap (count_behind p d) c.m-item.is) in
    record {
      text = pieces_more (share_line p d) c.args.text.now.items text _ ms i _ m c.loop-m-test.true c.m-item.is c.loop-m.invariant.text written;
      sum =
          ap (λ n. n + c.from-sum.result) c.loop-m.invariant.sum ∙ added ∙ sym (sum_by_more (count_behind p d) ms i m c.loop-m-test.true);
      small = omega arith;
    }

pub returns-clause-text : goal.returns-clause-text
returns-clause-text c =
    let some : 0 < c.args.depth = grind (arith, nat_tests) in
    let whole = take_all c.loop-m.m-index c.as_slice-m-items.result.now (omega arith) ∙ c.as_slice-m-items.ensures.value ∙ c.legal-moves.ensures in
    c.loop-m.invariant.text
    ∙ ap (λ ms. c.args.text.now.items ++ flat_map (share_line c.args.position.now (c.args.depth - 1)) ms) whole
    ∙ ap (λ t. c.args.text.now.items ++ t) (sym (shares_of c.args.position.now c.args.depth some))

pub returns-clause-sum : goal.returns-clause-sum
returns-clause-sum c =
    let some : 0 < c.args.depth = grind (arith, nat_tests) in
    let less_and_more : suc (c.args.depth - 1) ≡ c.args.depth = omega arith in
    let whole = take_all c.loop-m.m-index c.as_slice-m-items.result.now (omega arith) ∙ c.as_slice-m-items.ensures.value ∙ c.legal-moves.ensures in
    c.loop-m.invariant.sum
    ∙ ap (sum_by (count_behind c.args.position.now (c.args.depth - 1))) whole
    ∙ c.division_sums.ensures c.args.position.now (c.args.depth - 1)
    ∙ ap (λ d. length (plays c.args.position.now d)) less_and_more
