use Rattle.std.proofs.Common.{◌≡◌, ◌++◌, ◌∷◌, ◌-◌, ℕ, List, arith, sym, ap, ◌∙◌, subst, length, drop}
use Rattle.std.proofs.lemmas.List.{drop_all}
use Rattle.text_lines.specs.inside.InputLines.{IsKept, IsOneLine}
use Rattle.text_lines.proofs.InputLines.{left_is, piece_rest}
use Rattle.text_lines.proofs.input_lines.Lines.take_piece.Goals as goal

pub returns-in_default-clause-open : goal.returns-in_default-clause-open
returns-in_default-clause-open g c = λ no.
    let left = left_is c.as_slice-read.result.now c.args.self.now.piece.items c.split_at.result.1.now c.args.self.now.taken
    c.min.result c.as_slice-read.ensures.value c.split_at.ensures.back c.min.ensures in
    let Keeps_line : List ℕ → Type 0 = λ piece. (before : List ℕ) → IsKept c.args.kept.now before → IsKept c.keep.new.self (before ++ piece) in (
      subst IsOneLine (sym left) c.in_default.ensures.none,
      drop_all
          (length c.as_slice-read.result.now) c.args.self.now.piece.items (omega (arith, ap length c.as_slice-read.ensures.value)),
      subst Keeps_line (sym left) c.in_ok-keep.ensures,
    )

pub returns-clause-ended : goal.returns-clause-ended
returns-clause-ended g c = λ yes.
    let left = left_is c.as_slice-read.result.now c.args.self.now.piece.items c.split_at.result.1.now c.args.self.now.taken
    c.min.result c.as_slice-read.ensures.value c.split_at.ensures.back c.min.ensures in
    let rest = piece_rest c.args.self.now.piece.items c.split_at.result.1.now c.in-Some.line.now c.in-Some.more.now
    c.args.self.now.taken (sym left) c.in-Some.ensures.cut in
    let count : length c.as_slice-read.result.now - length c.in-Some.more.now ≡ length c.args.self.now.piece.items
    - length c.in-Some.more.now = ap (λ l. length l - length c.in-Some.more.now) c.as_slice-read.ensures.value in
    let more = ap (λ n. drop n c.args.self.now.piece.items) count ∙ rest in (
      c.in-Some.line.now,
      c.in-Some.ensures.line,
      left ∙ c.in-Some.ensures.cut ∙ ap (λ l. c.in-Some.line.now ++ 10 ∷ l) (sym more),
      c.in_ok-keep-2.ensures,
    )

pub returns-in_default-clause-ended : goal.returns-in_default-clause-ended
returns-in_default-clause-ended g c = λ never. cc

pub returns-clause-open : goal.returns-clause-open
returns-clause-open g c = λ never. cc
