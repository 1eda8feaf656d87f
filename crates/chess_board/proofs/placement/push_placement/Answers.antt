use Rattle.std.proofs.Common.{◌≡◌, ◌∙◌, ◌+◌, ◌-◌, ◌*◌, ◌++◌, [], ◌∷◌, ap, arith, sym, ℕ, List, length, length-append, length-take, take, drop}
use Rattle.std.specs.List.{join_with_byte}
use Rattle.chess_board.specs.Placement.{rank_text}
use Rattle.chess_board.proofs.RankTexts.{rank_texts, printed_more, placement_text-rank_texts}
use Rattle.chess_board.proofs.placement.push_placement.Goals as goal

pub loop-rank-preserved : goal.loop-rank-preserved
loop-rank-preserved c =
    let rank = c.loop-rank.rank - 1 in
    let slash : c.push.new.self.bytes ≡ c.loop-rank.text.bytes ++ 47 ∷ [] = c.push.ensures.ascii (omega arith) in
    let eight : (8 * rank + 8) - 8 * rank ≡ 8 = omega arith in
    record {
      text =
          c.push_rank-in-loop-rank.ensures.text
          ∙ ap (λ (t : List ℕ). t ++ rank_text (take ((8 * rank + 8) - 8 * rank) (drop (8 * rank) c.args.men.now))) slash
          ∙ ap (λ n. (c.loop-rank.text.bytes ++ 47 ∷ []) ++ rank_text (take n (drop (8 * rank) c.args.men.now))) eight
          ∙ printed_more c.loop-rank.rank rank c.args.men.now c.args.text.now.bytes c.loop-rank.text.bytes (omega arith)
          (omega arith) c.loop-rank.invariant.text;
      short = omega (
        arith,
        ap length slash,
        length-append c.loop-rank.text.bytes (47 ∷ []),
        length-take ((8 * rank + 8) - 8 * rank) (drop (8 * rank) c.args.men.now),
      );
    }

pub returns-clause-text : goal.returns-clause-text
returns-clause-text c =
    let last : c.loop-rank.rank ≡ 0 = omega arith in
    c.loop-rank.invariant.text
    ∙ ap (λ r. c.args.text.now.bytes ++ join_with_byte 47 (rank_texts (8 - r) (drop (8 * r) c.args.men.now))) last
    ∙ ap (λ t. c.args.text.now.bytes ++ t) (sym (placement_text-rank_texts c.args.men.now))
