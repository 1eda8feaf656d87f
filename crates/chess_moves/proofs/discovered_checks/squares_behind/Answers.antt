use Rattle.std.proofs.Common.{◌≡◌, ℕ, ◌<◌, false, List, Option, None, is_some, set, refl, sym, ap, subst, ◌∙◌}
use Rattle.std.proofs.lemmas.Bool.{both_ways}
use Rattle.square_sets.specs.Members.{has}
use Rattle.chess_board.specs.declared.men.Man.{Man}
use Rattle.chess_board.specs.declared.men.Kind.TheVariants.{King}
use Rattle.chess_board.specs.Men.{other_side, man_of}
use Rattle.chess_board.specs.Positions.{Setup, man_at}
use Rattle.chess_moves.specs.inside.Hits.{is_taken, is_hit, hits_as}
use Rattle.chess_moves.proofs.Kept.{has_all}
use Rattle.chess_moves.proofs.Moved.{stands_without}
use Rattle.chess_moves.proofs.PlainChecks.{lifted_check}
use Rattle.chess_moves.proofs.SeenBack.{hits_back}
use Rattle.chess_moves.proofs.discovered_checks.squares_behind.Goals as goal

pub returns-then-is_hit_over : goal.returns-then-is_hit_over
returns-then-is_hit_over c = λ m legal e t plain none. absurd (both_ways _ none (has_all m.target t))

pub returns : goal.returns
returns c = λ m legal e t plain none.
    let p : Setup = c.args.info.now.position.now in
    let k : ℕ = c.index-square.result in
    let o : ℕ = c.args.mover.origin in
    let kind = c.args.mover.man.kind in
    let side = c.requires.info.side in
    let sound = c.requires.info.sound in
    let gone : List (Option Man) = set p.men o None in
    let there : man_at p.men k ≡ man_of (other_side p.side) King = ap (man_at p.men) c.index-square.ensures.number ∙ c.king.ensures.king
    ∙ ap (λ colour. man_of colour King) (c.other-enemy.ensures ∙ ap other_side side) in
    let lifted = stands_without is_some p.men c.args.info.now.occupied c.without-lifted.result o None sound.squares c.requires.mover.on_board
    c.without-lifted.ensures refl c.requires.info.occupied in
    let others = c.without-others.ensures p.men c.args.info.now.side None sound.squares c.side_men_of.ensures refl in
    let clear : is_hit gone k p.side ≡ false =
    ap (is_hit gone k) (sym side) ∙ sym (c.is_hit_over.ensures gone lifted others) ∙ c.if-is_hit_over.false in
    let back : has c.attacks_of.result m.target ≡ hits_as (λ s. is_taken gone s) p.side kind m.target k = c.attacks_of.ensures m.target t
    ∙ ap (λ colour. hits_as (has c.without-lifted.result) colour kind k m.target) (c.other-enemy.ensures ∙ ap other_side side)
    ∙ hits_back (has c.without-lifted.result) (λ s. is_taken gone s) lifted p.side kind k m.target in
    let from : m.origin < 64 = subst (λ s. s < 64) (sym e) c.requires.mover.on_board in
    lifted_check p k c.args.mover.man m sound c.index-square.ensures.on_board there from t (ap (man_at p.men) e ∙ c.requires.mover.there) legal
    (ap (λ s. is_hit (set p.men s None) k p.side) e ∙ clear) plain
    ∙ ap (λ s. hits_as (λ q. is_taken (set p.men s None) q) p.side kind m.target k) e ∙ sym back ∙ none
