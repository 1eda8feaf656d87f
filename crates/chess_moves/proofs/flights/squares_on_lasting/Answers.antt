use Rattle.std.proofs.Common.{◌≡◌, ℕ, false, ap, ◌∙◌, sym}
use Rattle.std.specs.Prelude.{Bool}
use Rattle.chess_board.specs.declared.men.Colour.{Colour}
use Rattle.chess_board.specs.declared.men.Kind.{Kind}
use Rattle.chess_moves.specs.inside.Hits.{hits_as}
use Rattle.chess_moves.proofs.Lasting.{lasting_left}
use Rattle.chess_moves.proofs.flights.squares_on_lasting.Goals as goal

pub returns : goal.returns
returns c = λ m man legal there kind plain on t_on out.
    let p = c.args.info.now.position.now in
    let lasting = c.requires.lasting in
    let from = c.lines_to_all.ensures m.target t_on out in
    let misses : (taken : ℕ → Bool) → hits_as taken p.side man.kind m.target from.missed ≡ false = λ taken.
    ap (λ (asked : Kind). hits_as taken p.side asked m.target from.missed) kind
    ∙ ap (λ (by : Colour). hits_as taken by c.args.kind m.target from.missed) (sym c.requires.info.side) ∙ from.misses taken in
    lasting_left p c.args.lasting from.missed man m lasting from.on_board from.there
    (c.sound_after.ensures p m lasting.are.sound on t_on legal) on t_on there legal plain misses
