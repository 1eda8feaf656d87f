use Rattle.std.proofs.Common.{inr, ◌∙◌, subst}
use Rattle.problem_import.specs.inside.KnownSources.{IsTagged}
use Rattle.problem_import.proofs.Sources.{tagged_game, tags_read}
use Rattle.problem_import.proofs.reading.Reading.take_tags.Goals as goal

pub returns-in_ok-rest-in-Game-clause-from : goal.returns-in_ok-rest-in-Game-clause-from
returns-in_ok-rest-in-Game-clause-from c = λ letters lines own whole (at, count) says known before.
    let opened = c.in_ok-open_game.ensures.from letters lines own (inr (whole, at)) count known before in
    let self = c.open_game.new.self in
    let game = c.take_line.new.self in (
      tags_read letters lines own whole c.args.line.now.text.now _ self.letters c.in-Game.game game (c.open_game.ensures.letters ∙ known.by) at says
          c.requires (subst (IsTagged letters own) c.in-Game.is opened.0) c.in_ok-rest-in-Game.ensures.fen c.in_ok-rest-in-Game.ensures.asks
          c.in_ok-rest-in-Game.ensures.comment c.in_ok-rest-in-Game.ensures.rest,
      opened.1,
    )

pub returns-in_default : goal.returns-in_default
returns-in_default c = record {
  letters = c.open_game.ensures.letters;
  from = λ letters lines own whole (at, count) says known before.
      let opened = c.in_ok-open_game.ensures.from letters lines own (inr (whole, at)) count known before in
      let (game, is) = tagged_game letters own c.open_game.new.self.open opened.0 in
      absurd (c.in_default.not-Game game is);
  kept = c.in_ok-open_game.ensures.kept;
  own = c.in_ok-open_game.ensures.own;
  more = c.in_ok-open_game.ensures.more;
}
