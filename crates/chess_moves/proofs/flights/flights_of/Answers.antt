use Rattle.std.proofs.Common.{◌≡◌, ℕ, ◌^◌, ◌<◌, false, not, ◌&&◌, None, is_some, set, refl, sym, ap, ◌∙◌, arith, bit_and, w64}
use Rattle.std.specs.Int.{bit_not}
use Rattle.std.proofs.lemmas.Bool.{and_parts, not-true}
use Rattle.std.proofs.lemmas.Nat.{and_le_l}
use Rattle.square_sets.specs.Members.{has}
use Rattle.chess_board.specs.declared.men.Colour.{Colour}
use Rattle.chess_board.specs.declared.men.Kind.TheVariants.{King}
use Rattle.chess_board.specs.Men.{other_side, is_of, man_of}
use Rattle.chess_board.specs.Positions.{man_at}
use Rattle.chess_moves.specs.inside.Hits.{is_hit}
use Rattle.chess_moves.proofs.Moved.{stands_without, stand_still}
use Rattle.chess_moves.proofs.OwnColours.{not_of_other, free_of_other}
use Rattle.chess_moves.proofs.SetParts.{parted}
use Rattle.chess_moves.proofs.flights.flights_of.Goals as goal

pub returns : goal.returns
returns c =
    let p = c.args.info.now.position.now in
    let info = c.requires.info in
    let by : Colour = c.args.info.now.side in
    let k : ℕ = c.index-king.result in
    let near : ℕ = c.leap.result in
    let occupied : ℕ = c.args.info.now.occupied in
    let own : ℕ = c.args.info.now.own in
    let enemies : ℕ = bit_and occupied (bit_not w64 own) in
    let attacked : ℕ = c.attacked_squares-attacked.result in
    let long = info.sound.squares in
    let there : man_at p.men k ≡ man_of (other_side p.side) King = ap (man_at p.men) c.index-king.ensures.number ∙ c.king.ensures.king
    ∙ ap (λ (s : Colour). man_of s King) (c.other.ensures ∙ ap other_side info.side) in
    let lifted = stands_without is_some p.men occupied c.without-lifted.result k None long c.index-king.ensures.on_board
    c.without-lifted.ensures refl info.occupied in
    let no_man : is_of by (man_at p.men k) ≡ false =
    ap (λ (s : Colour). is_of s (man_at p.men k)) info.side ∙ ap (is_of p.side) there ∙ not_of_other p.side in
    let still = stand_still c.side_men_of.result by p.men k None long c.index-king.ensures.on_board no_man refl c.side_men_of.ensures in
    let few : enemies < 2 ^ 64 = omega (arith, and_le_l occupied (bit_not w64 own)) in
    record {
      on_board = c.index-king.ensures.on_board;
      there = there;
      squares = λ f l on.
          let first = parted near enemies f (has near f) (is_some (man_at p.men f) && not (is_of p.side (man_at p.men f))) few l refl
          (parted occupied own f (is_some (man_at p.men f)) (is_of p.side (man_at p.men f)) (omega arith) l (info.occupied f l) (info.own f l)) in
          let all = parted (bit_and near (bit_not w64 enemies)) attacked f _ (has attacked f) (omega arith) l first refl in
          let outer = and_parts (has near f && not (is_some (man_at p.men f) && not (is_of p.side (man_at p.men f))))
          (not (has attacked f)) (sym all ∙ on) in
          let inner = and_parts (has near f) (not (is_some (man_at p.men f) && not (is_of p.side (man_at p.men f)))) outer.0 in
          record {
            on_board = l;
            beside = sym (c.leap.ensures f l) ∙ inner.0;
            free = free_of_other p.side (man_at p.men f) inner.1;
            safe = ap (is_hit (set p.men k None) f) (sym info.side) ∙ sym (c.attacked_squares-attacked.ensures (set p.men k None) lifted still f l)
                ∙ not-true (has attacked f) outer.1;
          };
      sound = info.sound;
    }
