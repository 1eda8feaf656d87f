-- The suffix takes nothing from what a text tells.
use Rattle.std.proofs.Common.{sym, ap, ◌∙◌}
use Rattle.chess_moves.specs.Laws.{LegalListed}
use Rattle.chess_notation.specs.SanLaws.{TextsApart, TextsShort}
use Rattle.chess_notation.proofs.TextBytes.{unmarked}
use Rattle.chess_notation.proofs.TextSuffixes.{unmarked-san_text}
use Rattle.chess_notation.proofs.TextLengths.{length-san_text}
use Rattle.chess_notation.proofs.BareTexts.{bare_texts_apart}

pub texts_apart : LegalListed → TextsApart
texts_apart law p m n listed_m listed_n texts =
    bare_texts_apart law p m n listed_m listed_n (sym (unmarked-san_text p m) ∙ ap unmarked texts ∙ unmarked-san_text p n)

pub texts_short : TextsShort
texts_short p m = length-san_text p m
