use Rattle.std.proofs.Common.{◌≡◌, ℕ, ◌^◌, ◌<◌, Bool, true, false, not, ◌&&◌, None, is_some, length, set, refl, sym, ap, ◌∙◌, arith, length-set, bit_and, w64}
use Rattle.std.specs.Int.{bit_not}
use Rattle.std.proofs.lemmas.Bool.{and_parts, not-true}
use Rattle.std.proofs.lemmas.Nat.{and_le_l}
use Rattle.square_sets.specs.Members.{has}
use Rattle.chess_board.specs.declared.men.Colour.{Colour}
use Rattle.chess_board.specs.declared.men.Kind.TheVariants.{King}
use Rattle.chess_board.specs.Men.{other_side, is_of, man_of}
use Rattle.chess_board.specs.Positions.{man_at}
use Rattle.chess_moves.specs.inside.Hits.{place_hits}
use Rattle.chess_moves.proofs.InLine.{none_without, unhit}
use Rattle.chess_moves.proofs.OwnColours.{free_of_other}
use Rattle.chess_moves.proofs.SetParts.{parted}
use Rattle.chess_moves.proofs.flights.lasting_flights_of.Goals as goal

pub returns : goal.returns
returns c =
    let p = c.args.info.now.position.now in
    let info = c.requires.info in
    let by : Colour = c.args.info.now.side in
    let k : ℕ = c.index-king.result in
    let near : ℕ = c.leap.result in
    let occupied : ℕ = c.args.info.now.occupied in
    let own : ℕ = c.args.info.now.own in
    let enemies : ℕ = bit_and occupied (bit_not w64 own) in
    let attacked : ℕ = c.squares_in_line-in_line.result in
    let long = info.sound.squares in
    let there : man_at p.men k ≡ man_of (other_side p.side) King = ap (man_at p.men) c.index-king.ensures.number ∙ c.king.ensures.king
    ∙ ap (λ (s : Colour). man_of s King) (c.other.ensures ∙ ap other_side info.side) in
    let len : length (set p.men k None) ≡ 64 = simp length-set long in
    let few : enemies < 2 ^ 64 = omega (arith, and_le_l occupied (bit_not w64 own)) in
    let unhit_at : (f : ℕ) → f < 64 → has attacked f ≡ false → (taken : ℕ → Bool) (a : ℕ) → a < 64
    → place_hits taken p.side (man_at p.men a) a f ≡ false =
    λ f l none taken a on. ap (λ (s : Colour). place_hits taken s (man_at p.men a) a f) (sym info.side)
    ∙ c.squares_in_line-in_line.ensures p.men c.side_men_of.ensures f l none taken a on in
    let lifted : (f : ℕ) → f < 64 → has attacked f ≡ false → (taken : ℕ → Bool) (a : ℕ) → a < 64
    → place_hits taken p.side (man_at (set p.men k None) a) a f ≡ false =
    λ f l none. none_without p.men p.side f k long c.index-king.ensures.on_board (unhit_at f l none) in
    let parts : (f : ℕ) → f < 64 → has (bit_and (bit_and near (bit_not w64 enemies)) (bit_not w64 attacked)) f ≡ true
    → (has near f && not (is_some (man_at p.men f) && not (is_of p.side (man_at p.men f))) ≡ true) × (has attacked f ≡ false) =
    λ f l on.
    let first = parted near enemies f (has near f) (is_some (man_at p.men f) && not (is_of p.side (man_at p.men f))) few l refl
    (parted occupied own f (is_some (man_at p.men f)) (is_of p.side (man_at p.men f)) (omega arith) l (info.occupied f l) (info.own f l)) in
    let all = parted (bit_and near (bit_not w64 enemies)) attacked f _ (has attacked f) (omega arith) l first refl in
    let outer = and_parts (has near f && not (is_some (man_at p.men f) && not (is_of p.side (man_at p.men f)))) (not (has attacked f)) (sym all ∙ on) in
    (outer.0, not-true (has attacked f) outer.1) in
    record {
      are = record {
        on_board = c.index-king.ensures.on_board;
        there = there;
        squares = λ f l on.
            let both = parts f l on in
            let inner = and_parts (has near f) (not (is_some (man_at p.men f) && not (is_of p.side (man_at p.men f)))) both.0 in
            record {
              on_board = l;
              beside = sym (c.leap.ensures f l) ∙ inner.0;
              free = free_of_other p.side (man_at p.men f) inner.1;
              safe = unhit (set p.men k None) p.side f (lifted f l both.1);
            };
        sound = info.sound;
      };
      lasting = λ f o l o_on on.
          unhit (set (set p.men k None) o None) p.side f
          (none_without (set p.men k None) p.side f o len o_on (lifted f l (parts f l on).1));
    }
