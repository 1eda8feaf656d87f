use Rattle.fen_explanations.specs.Checks.{attacker_told}
use Rattle.fen_explanations.proofs.checks.push_attacker.Goals as goal

pub returns : goal.returns
unfolding attacker_told
returns c = rw (
  ← c.attacks_from.ensures,
  ← c.man_at-man.ensures,
  ← c.man_name.ensures,
  ← c.file_letter.ensures.letter,
  ← c.rank_digit.ensures.digit,
  ← c.file_letter-2.ensures.letter,
  ← c.rank_digit-2.ensures.digit,
) c.push_if.ensures
