use Rattle.std.proofs.Common.{◌≡◌, ◌-◌, ℕ, List, ◌++◌, length, refl, take}
use Rattle.std.proofs.lemmas.Str.Ascii.{trim_ascii_start_is}
use Rattle.move_words.specs.declared.languages.Letters.{Letters}
use Rattle.lettered_placements.specs.Readings.{after_white, line_read, text_read}
use Rattle.lettered_placements.proofs.readings.line_read.Goals as goal

parts : (l : Letters) (line text front behind part read out : List ℕ) → text ≡ after_white line → front ≡ take (length line - length text) line
    → behind ≡ text_read l text → part ≡ behind → read ≡ front → out ≡ read ++ part → out ≡ line_read l line
unfolding line_read
parts l line text front behind part read out is first second same here whole = rw (whole, here, same, second, first, is) refl

pub returns : goal.returns
returns c =
    parts c.args.letters.now c.args.line.now c.trim_ascii_start-text.result.now _ c.in_ok-behind.behind.items c.as_slice.result.now
    c.in_ok-read.read.items _ (trim_ascii_start_is c.args.line.now c.trim_ascii_start-text.result.now c.trim_ascii_start-text.ensures.value)
    c.split_at.ensures.front c.in_ok-behind.ensures c.as_slice.ensures.value
    c.in_ok-read.ensures.items c.in_ok-extend_from_slice.ensures.items
