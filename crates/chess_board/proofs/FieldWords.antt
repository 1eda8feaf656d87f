-- The fields that are printed for a position are visible words, and they spell it.
use Rattle.std.proofs.Common.{◌≡◌, ◌≢◌, ℕ, zero, suc, ◌+◌, ◌≤◌, List, [], ◌∷◌, ◌++◌, Bool, true, false, Option}
use Rattle.std.proofs.Common.{Some, None, length, refl, ap, arith, take, drop, length-append, length-take}
use Rattle.std.specs.List.{All, join_with_byte}
use Rattle.std.proofs.lemmas.List.Elements.{All-nil, All-cons, All-append}
use Rattle.chess_board.specs.declared.men.Colour.{Colour}
use Rattle.chess_board.specs.declared.men.Colour.TheVariants.{White, Black}
use Rattle.chess_board.specs.declared.men.Kind.{Kind}
use Rattle.chess_board.specs.declared.men.Kind.TheVariants.{Pawn, Knight, Bishop, Rook, Queen, King}
use Rattle.chess_board.specs.declared.men.Man.{Man}
use Rattle.chess_board.specs.declared.men.Rights.{Rights}
use Rattle.chess_board.specs.Squares.{file_of, rank_of}
use Rattle.chess_board.specs.Placement.{coloured_letter, man_letter, run_text, rank_text_after, rank_text, placement_text}
use Rattle.chess_board.specs.Fields.{side_text, letter_if, castling_text, target_text, IsTargetOf}
use Rattle.chess_board.specs.Laws.{IsVisible, IsVisibleWord, PrintedSpells}
use Rattle.chess_board.proofs.RankTexts.{rank_texts, length-rank_texts, placement_text-rank_texts}
use Rattle.chess_board.proofs.FieldTexts.{castling_spelt, castling_read}
use Rattle.chess_board.proofs.Targets.{target_on}

one : (b : ℕ) → IsVisible b → All IsVisible (b ∷ [])
one b h = All-cons IsVisible b [] h (All-nil IsVisible)

letter_visible : (colour : Colour) (kind : Kind) → IsVisible (coloured_letter colour kind)
letter_visible White Pawn = (omega arith, omega arith)
letter_visible White Knight = (omega arith, omega arith)
letter_visible White Bishop = (omega arith, omega arith)
letter_visible White Rook = (omega arith, omega arith)
letter_visible White Queen = (omega arith, omega arith)
letter_visible White King = (omega arith, omega arith)
letter_visible Black Pawn = (omega arith, omega arith)
letter_visible Black Knight = (omega arith, omega arith)
letter_visible Black Bishop = (omega arith, omega arith)
letter_visible Black Rook = (omega arith, omega arith)
letter_visible Black Queen = (omega arith, omega arith)
letter_visible Black King = (omega arith, omega arith)

run_visible : (n : ℕ) → n ≤ 8 → All IsVisible (run_text n)
run_visible zero few = All-nil IsVisible
run_visible (suc n) few = one (48 + suc n) (omega arith, omega arith)

rank_visible : (n : ℕ) (places : List (Option Man)) → n + length places ≤ 8 → All IsVisible (rank_text_after n places)
rank_visible n [] few = run_visible n (omega arith)
rank_visible n (None ∷ places) few = rank_visible (suc n) places (omega arith)
rank_visible n ((Some man) ∷ places) few =
    All-append IsVisible (run_text n) (man_letter man ∷ rank_text_after 0 places) (run_visible n (omega arith))
    (All-cons IsVisible (man_letter man) (rank_text_after 0 places) (letter_visible man.colour man.kind) (rank_visible 0 places (omega arith)))

ranks_visible : (n : ℕ) (men : List (Option Man)) → All (λ part. All IsVisible part) (rank_texts n men)
ranks_visible zero men = All-nil (λ part. All IsVisible part)
ranks_visible (suc n) men =
    All-append (λ part. All IsVisible part) (rank_texts n (drop 8 men)) (rank_text (take 8 men) ∷ []) (ranks_visible n (drop 8 men))
    (All-cons (λ part. All IsVisible part) (rank_text (take 8 men)) []
    (rank_visible 0 (take 8 men) (omega (arith, length-take 8 men))) (All-nil (λ part. All IsVisible part)))

joined_visible : (parts : List (List ℕ)) → All (λ part. All IsVisible part) parts → All IsVisible (join_with_byte 47 parts)
joined_visible [] visible = All-nil IsVisible
joined_visible (part ∷ []) visible = visible 0 [] (omega arith)
joined_visible (part ∷ next ∷ parts) visible =
    All-append IsVisible part (47 ∷ join_with_byte 47 (next ∷ parts)) (visible 0 [] (omega arith))
    (All-cons IsVisible 47 (join_with_byte 47 (next ∷ parts)) (omega arith, omega arith)
    (joined_visible (next ∷ parts) (λ k d inside. visible (suc k) d (omega arith))))

joined_some : (parts : List (List ℕ)) → length parts ≡ 8 → join_with_byte 47 parts ≢ []
joined_some [] eight same = absurd (omega arith)
joined_some (part ∷ []) eight same = absurd (omega arith)
joined_some (part ∷ next ∷ parts) eight same =
    absurd (omega (arith, length-append part (47 ∷ join_with_byte 47 (next ∷ parts)), ap length same))

placement_word : (men : List (Option Man)) → IsVisibleWord (placement_text men)
placement_word men =
    rw (placement_text-rank_texts men)
    (joined_some (rank_texts 8 men) (length-rank_texts 8 men), joined_visible (rank_texts 8 men) (ranks_visible 8 men))

some_byte : (b : ℕ) (bs : List ℕ) → b ∷ bs ≢ []
some_byte b bs same = absurd (omega (arith, ap length same))

side_word : (side : Colour) → IsVisibleWord (side_text side)
side_word White = (some_byte 119 [], one 119 (omega arith, omega arith))
side_word Black = (some_byte 98 [], one 98 (omega arith, omega arith))

castling_word : (rights : Rights) → IsVisibleWord (castling_text rights)
castling_word rights = go rights.white_king_side rights.white_queen_side rights.black_king_side rights.black_queen_side where
  letter : (has : Bool) (b : ℕ) → IsVisible b → All IsVisible (letter_if has b)
  letter true b h = one b h
  letter false b h = All-nil IsVisible

  letters : (a b c d : Bool) → All IsVisible (letter_if a 75 ++ letter_if b 81 ++ letter_if c 107 ++ letter_if d 113)
  letters a b c d = All-append IsVisible (letter_if a 75 ++ letter_if b 81 ++ letter_if c 107) (letter_if d 113)
      (All-append IsVisible (letter_if a 75 ++ letter_if b 81) (letter_if c 107)
      (All-append IsVisible (letter_if a 75) (letter_if b 81) (letter a 75 (omega arith, omega arith)) (letter b 81 (omega arith, omega arith)))
      (letter c 107 (omega arith, omega arith))) (letter d 113 (omega arith, omega arith))

  go : (a b c d : Bool) → IsVisibleWord
      (castling_text (record { white_king_side = a; white_queen_side = b; black_king_side = c; black_queen_side = d }))
  go true b c d = (some_byte 75 (letter_if b 81 ++ letter_if c 107 ++ letter_if d 113), letters true b c d)
  go false true c d = (some_byte 81 (letter_if c 107 ++ letter_if d 113), letters false true c d)
  go false false true d = (some_byte 107 (letter_if d 113), letters false false true d)
  go false false false true = (some_byte 113 [], letters false false false true)
  go false false false false = (some_byte 45 [], one 45 (omega arith, omega arith))

target_word : (side : Colour) (target : Option ℕ) → IsTargetOf side target → IsVisibleWord (target_text target)
target_word side None on = (some_byte 45 [], one 45 (omega arith, omega arith))
target_word side (Some square) on =
    let below = on.0 in (
      some_byte (97 + file_of square) ((49 + rank_of square) ∷ []),
      All-cons IsVisible (97 + file_of square) ((49 + rank_of square) ∷ []) (omega arith, omega arith)
          (one (49 + rank_of square) (omega arith, omega arith)),
    )

pub printed_words : PrintedSpells
printed_words p sound = record {
  spelt = record {
    placement = (sound.squares, refl);
    side = refl;
    castling = (castling_spelt p.rights, castling_read p.rights);
    target = (target_on p sound.target, refl);
  };
  placement = placement_word p.men;
  side = side_word p.side;
  castling = castling_word p.rights;
  target = target_word p.side p.target (target_on p sound.target);
}
