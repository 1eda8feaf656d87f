-- What a legal move says of the man that makes it.
use Rattle.std.proofs.Common.{◌≡◌, ◌<◌, true, ◌&&◌, Contains, Some, None, refl, sym, ◌∙◌}
use Rattle.std.proofs.lemmas.Bool.{and_parts}
use Rattle.chess_board.specs.declared.men.Colour.{Colour}
use Rattle.chess_board.specs.declared.men.Colour.TheVariants.{White, Black}
use Rattle.chess_board.specs.declared.men.Man.{Man}
use Rattle.chess_board.specs.Men.{is_colour}
use Rattle.chess_board.specs.Positions.{Setup, man_at}
use Rattle.chess_board.specs.Moves.{Move}
use Rattle.chess_board.specs.PseudoLegal.{goes, suits, man_may, is_pseudo_legal}
use Rattle.chess_board.specs.Legality.{is_safe, is_legal}
use Rattle.chess_moves.specs.inside.Listing.{legal_moves}
use Rattle.chess_moves.specs.Laws.{LegalListed}

-- The man stands on the origin, is of the side to move, and goes so.
pub record IsPlayed (p : Setup) (m : Move) (man : Man) : Type 0 where
  pub listed : Contains (legal_moves p) m
  pub from_board : m.origin < 64
  pub to_board : m.target < 64
  pub there : man_at p.men m.origin ≡ Some man
  pub own : is_colour man.colour p.side ≡ true
  pub suits : suits man m.target m.promotion ≡ true
  pub goes : goes p man.colour man.kind m.origin m.target ≡ true

pub played : LegalListed → (p : Setup) (m : Move) → Contains (legal_moves p) m → (man : Man) × IsPlayed p m man
unfolding is_legal is_pseudo_legal
played law p m listed =
    let on = (law p m).0 listed in
    let both = and_parts (is_pseudo_legal p m) (is_safe p m) on.2 in
    let may : man_may p (man_at p.men m.origin) m ≡ true = both.0 in
    (elim (man_at p.men m.origin) as (λ o. man_at p.men m.origin ≡ o → (man : Man) × IsPlayed p m man) [
      | None ↦ λ is. let never = rw is at may in cc
      | Some man ↦ λ is.
          let man_may_it = rw is at may in
          let gone = and_parts (is_colour man.colour p.side && suits man m.target m.promotion)
          (goes p man.colour man.kind m.origin m.target) man_may_it in
          let own = and_parts (is_colour man.colour p.side) (suits man m.target m.promotion) gone.0 in
          (man, record { listed = listed; from_board = on.0; to_board = on.1; there = is; own = own.0; suits = own.1; goes = gone.1 })
    ]) refl

colour_same : (a b : Colour) → is_colour a b ≡ true → a ≡ b
colour_same White White h = refl
colour_same White Black h = cc
colour_same Black White h = cc
colour_same Black Black h = refl

-- Men of one position's side to move that are of one kind are the same.
pub man_same : (p : Setup) (a b : Man) → is_colour a.colour p.side ≡ true → is_colour b.colour p.side ≡ true → a.kind ≡ b.kind → a ≡ b
man_same p a b own_a own_b kinds =
    let colours : a.colour ≡ b.colour = colour_same a.colour p.side own_a ∙ sym (colour_same b.colour p.side own_b) in
    λ i. record { colour = colours i; kind = kinds i }

pub move_same : (m n : Move) → m.origin ≡ n.origin → m.target ≡ n.target → m.promotion ≡ n.promotion → m ≡ n
move_same m n origins targets promotions = λ i. record { origin = origins i; target = targets i; promotion = promotions i }
