use Rattle.std.proofs.Common.{◌≡◌, ℕ, true, false, ◌&&◌, refl, sym, ap, ◌∙◌, bit_and}
use Rattle.std.proofs.lemmas.Bool.{both_ways}
use Rattle.square_sets.specs.Members.{has}
use Rattle.chess_board.specs.declared.men.Kind.{Kind}
use Rattle.chess_board.specs.MakeMove.{after_setup}
use Rattle.chess_moves.specs.inside.CheckSquares.{squares_of}
use Rattle.chess_moves.specs.Verdicts.{is_mate}
use Rattle.chess_moves.proofs.MatingMen.{among}
use Rattle.chess_moves.proofs.Mates.{no_mate}
use Rattle.chess_moves.proofs.PlainChecks.{plain_check}
use Rattle.chess_moves.proofs.SetBits.{has_and, has_none}
use Rattle.chess_moves.proofs.mating_men.men_that_cover.Goals as goal

pub returns-then-men-eq0 : goal.returns-then-men-eq0
returns-then-men-eq0 c = λ m man legal there kind plain on t_on none.
    let p = c.args.info.now.position.now in
    absurd (both_ways (has c.men-men.result m.origin) (has_none c.men-men.result m.origin c.if-men-eq0.true)
    (among p m man there legal c.args.info.now.side c.args.kind c.men-men.result c.requires.info.side c.men-men.ensures kind on))

pub returns-then-covering-squares_of-ne0 : goal.returns-then-covering-squares_of-ne0
returns-then-covering-squares_of-ne0 c = λ m man legal there kind plain on t_on none.
    let p = c.args.info.now.position.now in
    absurd (both_ways (has c.men-men.result m.origin) none (among p m man there legal c.args.info.now.side c.args.kind c.men-men.result c.requires.info.side c.men-men.ensures kind on))

pub returns-then-covering-eq0 : goal.returns-then-covering-eq0
returns-then-covering-eq0 c = λ m man legal there kind plain on t_on none.
    c.squares_on_lasting-covering.ensures m man legal there kind plain on t_on
    (has_none c.squares_on_lasting-covering.result m.target c.if-covering-eq0.true)

pub returns : goal.returns
returns c = λ m man legal there kind plain on t_on none.
    let p = c.args.info.now.position.now in
    let men : ℕ = c.men-men.result in
    let lines : ℕ = c.args.check_squares.now.queen in
    let covering : ℕ = c.squares_on_lasting-covering.result in
    let checks : ℕ = c.squares_of.result in
    let off : has lines m.origin ≡ false = ap (λ x. x && has lines m.origin) (sym (among p m man there legal c.args.info.now.side
    c.args.kind men c.requires.info.side c.men-men.ensures kind on))
    ∙ sym (has_and men lines m.origin) ∙ none in
    (elim (has covering m.target) as (λ b. has covering m.target ≡ b → is_mate (after_setup p m) ≡ false) [
      | false ↦ λ e. c.squares_on_lasting-covering.ensures m man legal there kind plain on t_on e
      | true ↦ λ e.
          let unseen : has checks m.target ≡ false = ap (λ x. x && has checks m.target) (sym e) ∙ sym (has_and covering checks m.target)
          ∙ has_none (bit_and covering checks) m.target c.if-covering-squares_of-ne0.false in
          no_mate p m (sym (plain_check p c.args.check_squares.now man m c.requires.check_squares on t_on there legal off plain)
          ∙ ap (λ (asked : Kind). has (squares_of c.args.check_squares.now asked) m.target) kind
          ∙ ap (λ s. has s m.target) (sym c.squares_of.ensures) ∙ unseen)
    ]) refl
