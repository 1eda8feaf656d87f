use Rattle.std.proofs.Common.{◌≡◌, ◌<◌, ◌≤◌, ◌+◌, ◌++◌, ◌∷◌, [], ℕ, Bool, false, List, length, get_or, drop, drop-cons, add-one, append_assoc, append-nil, refl, sym, ap, ◌∙◌}
use Rattle.std.proofs.lemmas.List.{drop_all}
use Rattle.chess_notation.specs.Segments.{segments_of, inside_after}
use Rattle.chess_notation.specs.RecordFields.{cut_of}
use Rattle.chess_notation.specs.Claims.{claims_text, keys_text_in, shut_byte, shut_from}
use Rattle.chess_notation.proofs.claims.claims_text.Goals as goal

shut_next : (inside after : Bool) (old new bytes : List ℕ) (i s : ℕ) → i < length bytes → s ≡ shut_byte inside (get_or bytes i 0)
    → after ≡ inside_after inside (get_or bytes i 0) → new ≡ old ++ s ∷ []
    → new ++ shut_from after (drop (i + 1) bytes) ≡ old ++ shut_from inside (drop i bytes)
shut_next inside after old new bytes i s on is then n = rw (n, append_assoc, is, then, drop-cons bytes i 0 on, add-one i) refl

shut_all : (inside : Bool) (old bytes all : List ℕ) (i : ℕ) → length bytes ≤ i → old ++ shut_from inside (drop i bytes) ≡ all → old ≡ all
shut_all inside old bytes all i h e = let e' = rw (drop_all i bytes h) at e in sym (append-nil old) ∙ e'

pub loop-byte-preserved : goal.loop-byte-preserved
loop-byte-preserved c = shut_next c.loop-byte.is_inside c.inside_after-is_inside.result c.loop-byte.text.items c.push.new.self.items
    c.keys_text-byte-items.result.now c.loop-byte.byte-index c.shut_byte.result c.loop-byte-test.true c.shut_byte.ensures
    c.inside_after-is_inside.ensures c.in_ok-push.ensures.items ∙ c.loop-byte.invariant

pub returns : goal.returns
unfolding claims_text cut_of
returns c = shut_all c.loop-byte.is_inside c.loop-byte.text.items c.keys_text-byte-items.result.now _ c.loop-byte.byte-index c.loop-byte-test.false
    c.loop-byte.invariant
    ∙ ap (shut_from false) (c.keys_text-byte-items.ensures ∙ ap (λ (text : List ℕ). keys_text_in (segments_of text).ended) c.operations_in.ensures)
