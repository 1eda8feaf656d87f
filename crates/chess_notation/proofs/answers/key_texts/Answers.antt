use Rattle.std.proofs.Common.{◌≡◌, ◌<◌, ◌+◌, ◌-◌, ℕ, List, length, get_or, map, drop, drop-cons, add-one, refl, arith}
use Rattle.std.proofs.lemmas.List.{drop_all}
use Rattle.chess_board.specs.Positions.{Setup}
use Rattle.chess_board.specs.Moves.{Move}
use Rattle.chess_notation.specs.SanText.{san_text}
use Rattle.chess_notation.specs.Answers.{in_order, with_text}
use Rattle.chess_notation.proofs.LegalKeys.{legal_at}
use Rattle.chess_notation.proofs.answers.key_texts.Goals as goal

pub san-requires : goal.san-requires
san-requires c =
    legal_at c.legal_listed.ensures c.args.position.now c.args.keys.now (c.loop-index.index - 1) c.index-keys-index.result
    (omega arith) c.index-keys-index.is c.requires

-- the text of one more move, before those behind it
order_next : (p : Setup) (ms : List Move) (i j : ℕ) (m : Move) (text : List ℕ) (old new : List (List ℕ)) → i < length ms → j ≡ i + 1
    → m ≡ get_or ms i m → text ≡ san_text p m → old ≡ in_order (map (san_text p) (drop j ms)) → new ≡ with_text text old
    → new ≡ in_order (map (san_text p) (drop i ms))
order_next p ms i j m text old new on next is t o n = rw (n, t, o, next, drop-cons ms i m on, ← is, add-one i) refl

pub loop-index-init : goal.loop-index-init
loop-index-init c = rw (c.new-texts.ensures.items, drop_all (length c.args.keys.now) c.args.keys.now (omega arith)) refl

pub loop-index-preserved : goal.loop-index-preserved
loop-index-preserved c = order_next c.args.position.now c.args.keys.now (c.loop-index.index - 1) c.loop-index.index c.index-keys-index.result
    c.san.result.bytes (map (λ t. t.bytes) c.loop-index.texts.items) _ (omega arith) (omega arith) c.index-keys-index.is c.san.ensures
    c.loop-index.invariant c.in_ok-put_text.ensures
