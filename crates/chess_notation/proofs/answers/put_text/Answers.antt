use Rattle.std.proofs.Common.{◌≡◌, ◌∙◌, ap, sym, ℕ, List, map}
use Rattle.std.specs.List.{insert}
use Rattle.arrayvec.specs.declared.array_string.ArrayString.{ArrayString}
use Rattle.chess_notation.specs.Answers.{with_text}
use Rattle.chess_notation.proofs.TextPlaces.{map-insert}
use Rattle.chess_notation.proofs.answers.put_text.Goals as goal

pub returns : goal.returns
returns c =
    let f : ArrayString 8 → List ℕ = λ t. t.bytes in
    let old = c.args.texts.now.items in
    let place = c.text_place-place.result in
    let stored : c.insert.new.self.items ≡ insert old place c.args.text = c.in_ok-insert.ensures.items in
    let same : c.as_bytes.result.now ≡ c.args.text.bytes = cc (c.as_bytes.ensures.value, c.as_str.ensures.value) in
    let placed : with_text c.args.text.bytes (map f old) ≡ insert (map f old) place c.args.text.bytes =
    rw (c.as_slice.ensures.value, same) at c.text_place-place.ensures.place in
    ap (map f) stored ∙ map-insert f old place c.args.text ∙ sym placed
