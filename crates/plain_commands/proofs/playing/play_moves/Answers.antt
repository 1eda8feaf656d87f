use Rattle.std.proofs.Common.{◌≡◌, ◌∙◌, Bor, ℕ, List, [], ap, false, inr, map, refl, subst}
use Rattle.std.proofs.KnownBytes.{Appends-nil}
use Rattle.chess_board.specs.Fens.{Spells}
use Rattle.position_lines.specs.LineFens.{line_fen}
use Rattle.plain_commands.specs.Played.{ShowsPlay}
use Rattle.plain_commands.proofs.Shown.{shows_text, stops_showing}
use Rattle.plain_commands.proofs.playing.play_moves.Goals as goal

pub returns-in_default-reach-clause-ok : goal.returns-in_default-reach-clause-ok
returns-in_default-reach-clause-ok g c =
    let (number, stops) = c.in_default-reach.ensures.stopped in
    let says : c.as_slice.result.now ≡ line_fen c.args.fen.now =
    c.as_slice.ensures.value ∙ c.in_ok-text.ensures ∙ ap line_fen c.as_bytes.ensures.value in
    record {
      gained = [];
      shows = (
        inr (record {
          v = c.in-Some.fen;
          number = number;
          spells = subst (λ text. Spells text c.in-Some.fen) says c.in-Some.ensures.read.0;
          sound = c.in-Some.ensures.read.1;
          stops = stops;
        }),
        refl,
      );
      appends = Appends-nil (g.O.Write.contents c.args.out.now);
    }

pub returns-clause-ok : goal.returns-clause-ok
returns-clause-ok g c =
    let says : c.as_slice.result.now ≡ line_fen c.args.fen.now =
    c.as_slice.ensures.value ∙ c.in_ok-text.ensures ∙ ap line_fen c.as_bytes.ensures.value in
    let spells = subst (λ text. Spells text c.in-Some.fen) says c.in-Some.ensures.read.0 in
    shows_text (ShowsPlay c.args.fen.now (map (λ (s : Bor (List ℕ)). s.now) c.args.words.now)) c.in_ok-text-2.text.items
    c.as_slice-2.result.now c.show.result _ _ c.as_slice-2.ensures.value
    (c.in-Some.fen, spells, c.in-Some.ensures.read.1, c.in-Some-reach.reached, c.in-Some-reach.ensures.reached, c.in_ok-text-2.ensures)
    c.show.ensures.ok

pub returns-clause-err : goal.returns-clause-err
returns-clause-err g c =
    let says : c.as_slice.result.now ≡ line_fen c.args.fen.now =
    c.as_slice.ensures.value ∙ c.in_ok-text.ensures ∙ ap line_fen c.as_bytes.ensures.value in
    let spells = subst (λ text. Spells text c.in-Some.fen) says c.in-Some.ensures.read.0 in
    stops_showing (ShowsPlay c.args.fen.now (map (λ (s : Bor (List ℕ)). s.now) c.args.words.now) false) c.in_ok-text-2.text.items
    c.as_slice-2.result.now c.show.result _ _ c.as_slice-2.ensures.value
    (c.in-Some.fen, spells, c.in-Some.ensures.read.1, c.in-Some-reach.reached, c.in-Some-reach.ensures.reached, c.in_ok-text-2.ensures)
    c.show.ensures.err c.show.ensures.part
