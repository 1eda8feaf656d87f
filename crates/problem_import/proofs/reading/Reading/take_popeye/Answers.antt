use Rattle.std.proofs.Common.{[], inl, refl, ◌∙◌, subst}
use Rattle.chess_notation.specs.Words.{words_in}
use Rattle.problem_import.specs.PopeyeProblems.{said_onto}
use Rattle.problem_import.specs.Sources.{behind_next}
use Rattle.problem_import.specs.inside.KnownSources.{IsWorded}
use Rattle.problem_import.proofs.Sources.{open_next, then_ok, words_kept, worded_popeye}
use Rattle.problem_import.proofs.reading.Reading.take_popeye.Goals as goal

pub returns-in_default-clause-from : goal.returns-in_default-clause-from
returns-in_default-clause-from c = λ letters lines words by worded are before.
    let (problem, is) = worded_popeye words c.args.self.now.open worded in
    absurd (c.in_default.not-Popeye problem is)

pub returns-in-Open-clause-from : goal.returns-in-Open-clause-from
returns-in-Open-clause-from c = λ letters lines words by worded are before.
    let of = subst (IsWorded words) c.in-Popeye.is worded in (
      (
        by,
        (
          said_onto (words_in c.args.line.now.text.now) words,
          are,
          record {
            read = c.in_ok-take_line.ensures.read words (words_kept words c.in-Popeye.problem _ refl refl refl refl refl of.read);
            on = (rw c.in-Open.is at c.in_ok-take_line.ensures.ends) words of.on;
          },
        ),
      ),
      before,
    )

pub returns-in-Ended-clause-from : goal.returns-in-Ended-clause-from
returns-in-Ended-clause-from c = then_ok c.finish.result _ _ (λ from letters lines words by worded are before.
    let of = subst (IsWorded words) c.in-Popeye.is worded in
    let read = c.in_ok-take_line.ensures.read words (words_kept words c.in-Popeye.problem _ refl refl refl refl refl of.read) in (
      (c.finish.ensures.letters ∙ by, open_next letters lines _ _ c.finish.ensures.next tt),
      from letters lines lines (inl refl) (said_onto (words_in c.args.line.now.text.now) words, are, read) before,
    )) c.finish.ensures.from

pub returns-in-Next-clause-from : goal.returns-in-Next-clause-from
returns-in-Next-clause-from c = then_ok c.finish-in-Next.result _ _ (λ from letters lines words by worded are before.
    let of = subst (IsWorded words) c.in-Popeye.is worded in
    let read = c.in_ok-take_line.ensures.read words (words_kept words c.in-Popeye.problem _ refl refl refl refl refl of.read) in (
      (
        c.finish-in-Next.ensures.letters ∙ by,
        open_next letters lines _ _ c.finish-in-Next.ensures.next (
          [],
          behind_next lines (said_onto (words_in c.args.line.now.text.now) words) are ((rw c.in-Next.is at c.in_ok-take_line.ensures.ends) words),
          record { read = c.new-next.ensures; on = refl },
        ),
      ),
      from letters lines lines (inl refl) (said_onto (words_in c.args.line.now.text.now) words, are, read) before,
    )) c.finish-in-Next.ensures.from
