-- What a legal move says of the man that makes it, and which moves are therefore not legal.
use Rattle.std.proofs.Common.{◌≡◌, true, false, ◌&&◌, Some, None, refl, ◌∙◌}
use Rattle.std.proofs.lemmas.Bool.{and_parts}
use Rattle.chess_board.specs.declared.men.Colour.{Colour}
use Rattle.chess_board.specs.declared.men.Colour.TheVariants.{White, Black}
use Rattle.chess_board.specs.declared.men.Man.{Man}
use Rattle.chess_board.specs.Men.{is_colour, is_of}
use Rattle.chess_board.specs.Positions.{Setup, man_at}
use Rattle.chess_board.specs.Moves.{Move}
use Rattle.chess_board.specs.PseudoLegal.{goes, suits, man_may, is_pseudo_legal}
use Rattle.chess_board.specs.Legality.{is_safe, is_legal}

-- The man stands on the origin, is of the side to move, and goes so.
pub record IsPlayed (p : Setup) (m : Move) (man : Man) : Type 0 where
  pub there : man_at p.men m.origin ≡ Some man
  pub own : is_colour man.colour p.side ≡ true
  pub suits : suits man m.target m.promotion ≡ true
  pub goes : goes p man.colour man.kind m.origin m.target ≡ true

pub played : (p : Setup) (m : Move) → is_legal p m ≡ true → (man : Man) × IsPlayed p m man
unfolding is_legal is_pseudo_legal
played p m legal =
    let both = and_parts (is_pseudo_legal p m) (is_safe p m) legal in
    let may : man_may p (man_at p.men m.origin) m ≡ true = both.0 in
    (elim (man_at p.men m.origin) as (λ o. man_at p.men m.origin ≡ o → (man : Man) × IsPlayed p m man) [
      | None ↦ λ is. let never = rw is at may in cc
      | Some man ↦ λ is.
          let man_may_it = rw is at may in
          let gone = and_parts (is_colour man.colour p.side && suits man m.target m.promotion)
          (goes p man.colour man.kind m.origin m.target) man_may_it in
          let own = and_parts (is_colour man.colour p.side) (suits man m.target m.promotion) gone.0 in
          (man, record { there = is; own = own.0; suits = own.1; goes = gone.1 })
    ]) refl

-- the same of the man that is known to stand there
pub played_by : (p : Setup) (m : Move) (man : Man) → man_at p.men m.origin ≡ Some man → is_legal p m ≡ true → IsPlayed p m man
played_by p m man is legal =
    let by = played p m legal in
    let same : by.0 ≡ man = let there = by.1.there in cc in
    rw same at by.1

colour_flip : (a b : Colour) → is_colour a b ≡ is_colour b a
colour_flip White White = refl
colour_flip White Black = refl
colour_flip Black White = refl
colour_flip Black Black = refl

-- No move starts where no man of the side to move stands.
pub not_own : (p : Setup) (m : Move) → is_of p.side (man_at p.men m.origin) ≡ false → is_legal p m ≡ false
not_own p m none = (elim (is_legal p m) as (λ b. is_legal p m ≡ b → b ≡ false) [
  | false ↦ λ t. refl
  | true ↦ λ t.
      let by = played p m t in
      let other = rw by.1.there at none in
      let own = colour_flip p.side by.0.colour ∙ by.1.own in cc
]) refl

-- No move promotes where it need not, or does not where it must.
pub not_suited : (p : Setup) (m : Move) (man : Man) → man_at p.men m.origin ≡ Some man → suits man m.target m.promotion ≡ false → is_legal p m ≡ false
not_suited p m man is h = (elim (is_legal p m) as (λ b. is_legal p m ≡ b → b ≡ false) [
  | false ↦ λ t. refl
  | true ↦ λ t. let suited = (played_by p m man is t).suits in cc
]) refl

-- No move goes where its man cannot.
pub not_gone : (p : Setup) (m : Move) (man : Man) → man_at p.men m.origin ≡ Some man
    → goes p man.colour man.kind m.origin m.target ≡ false → is_legal p m ≡ false
not_gone p m man is h = (elim (is_legal p m) as (λ b. is_legal p m ≡ b → b ≡ false) [
  | false ↦ λ t. refl
  | true ↦ λ t. let gone = (played_by p m man is t).goes in cc
]) refl
