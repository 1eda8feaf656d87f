use Rattle.std.proofs.Common.{refl, inl, sym, ap, ◌∙◌, ◌≡◌, ◌∷◌, ◌++◌, subst, true, false}
use Rattle.problem_import.specs.Sources.{behind_byte, value_from}
use Rattle.problem_import.specs.Sources.{IsFenOf, SaysMoves}
use Rattle.problem_import.specs.inside.KnownSources.{TagSays}
use Rattle.problem_import.proofs.GameNumbers.{asks_for, asks_same, asks_then, tag_says}
use Rattle.problem_import.specs.TagPairs.{EndsText, begins_with}
use Rattle.problem_import.proofs.TagFens.{begun, ends_behind, ends_drop, ends_ends, fen_next, fen_taken}
use Rattle.problem_import.proofs.games.Game.take_line.Goals as goal

pub loop-init : goal.loop-init
loop-init c = record {
  ends = ends_drop c.args.line.now _ c.trim_ascii_start-rest.ensures.value.0 c.trim_ascii_start-rest.ensures.value.1;
  fen = inl (refl, refl);
  asks = asks_same (SaysMoves c.args.line.now) c.args.self.now c.args.self.now (refl, refl);
  comment = refl;
}

pub loop-preserved : goal.loop-preserved
loop-preserved c =
    let rest = c.loop.rest.now in
    let more = c.without_first-more.result.now in
    let mark = c.cut_at.result.1.now in
    let behind = c.in_ok-behind.behind.now in
    let bracket = c.cut_at-in-loop.result.1.now in
    let is_pair : begins_with 91 rest ≡ true = sym c.begins_with.ensures ∙ c.if-not-begins_with.false in
    let opens : rest ≡ 91 ∷ more = begun 91 rest is_pair ∙ ap (λ t. 91 ∷ t) (sym c.without_first-more.ensures) in
    let at_mark : EndsText mark more = subst (λ t. EndsText t more) (sym c.cut_at.ensures.rest) (ends_behind 34 more) in
    let at_bracket : EndsText bracket behind = subst (λ t. EndsText t behind) (sym c.cut_at-in-loop.ensures.rest) (ends_behind 93 behind) in
    let from : c.take_value.new.value.items ≡ value_from false (behind_byte 34 more) =
    c.in_ok-behind.ensures.value ∙ ap (λ t. t ++ value_from false mark) c.new-value.ensures.items ∙ ap (value_from false) c.cut_at.ensures.rest in
    let trim = c.trim_ascii_start-rest-in-loop.ensures.value in record {
      ends = ends_ends _ bracket c.args.line.now (ends_drop bracket _ trim.0 trim.1)
          (ends_ends bracket behind c.args.line.now at_bracket
          (ends_ends behind mark c.args.line.now c.in_ok-behind.ensures.rest
          (ends_ends mark more c.args.line.now at_mark
          (ends_ends more rest c.args.line.now (ends_drop rest more 1 c.without_first-more.ensures) c.loop.invariant.ends))));
      fen = fen_next (λ fen. IsFenOf c.args.letters.now c.args.line.now fen.items) _ _ _ _ _ _ _ _
          (λ named. fen_taken c.args.letters.now c.args.line.now rest more _ _ _ c.loop.invariant.ends opens c.word_at.ensures.word named
          from
          (c.in_ok-value_read.ensures.fen named))
          c.take_tag.ensures.fen c.loop.invariant.fen;
      asks = asks_then (SaysMoves c.args.line.now) c.args.self.now c.loop.self c.take_tag.new.self c.loop.invariant.asks
          (asks_for (TagSays c.word_at.result.0.now _) (SaysMoves c.args.line.now) c.loop.self c.take_tag.new.self
          (λ n. tag_says c.args.line.now rest more c.word_at.result.0.now c.take_value.new.value.items _ n
          c.loop.invariant.ends opens c.word_at.ensures.word from c.in_ok-value_read.ensures.other)
          c.take_tag.ensures.asks);
      comment = c.take_tag.ensures.comment ∙ c.loop.invariant.comment;
    }
