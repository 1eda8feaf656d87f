-- One word more played, the first that names no move, and the end of the words.
use Rattle.std.proofs.Common.{◌≡◌, ◌∙◌, ℕ, ◌+◌, ◌<◌, ◌≤◌, List, [], ◌∷◌, length, map, drop, get_or, Ok, Err, Some, None, Bor, refl}
use Rattle.std.proofs.lemmas.List.{at_drop_more, at_drop_all}
use Rattle.chess_board.specs.Fens.{FenValue}
use Rattle.chess_board.specs.Moves.{Move}
use Rattle.chess_notation.specs.MoveReading.{move_named}
use Rattle.chess_views.specs.Played.{fen_after, played_from}

abbrev texts : List (Bor (List ℕ)) → List (List ℕ)
texts words = map (λ s. s.now) words

next_of : (number : ℕ) (v : FenValue) (word : List ℕ) (words : List (List ℕ)) (m : Move) → move_named v.position word ≡ Some m
    → played_from number v (word ∷ words) ≡ played_from (number + 1) (fen_after v m) words
unfolding played_from
next_of number v word words m named = rw named refl

stop_of : (number : ℕ) (v : FenValue) (word : List ℕ) (words : List (List ℕ)) → move_named v.position word ≡ None
    → played_from number v (word ∷ words) ≡ Err number
unfolding played_from
stop_of number v word words unnamed = rw unnamed refl

end_of : (number : ℕ) (v : FenValue) → played_from number v [] ≡ Ok v
unfolding played_from
end_of number v = refl

pub played_next : (v : FenValue) (words : List (Bor (List ℕ))) (i : ℕ) (d : Bor (List ℕ)) (m : Move) → i < length words
    → move_named v.position (get_or words i d).now ≡ Some m
    → played_from (i + 1) v (map (λ s. s.now) (drop i words)) ≡ played_from (i + 1 + 1) (fen_after v m) (map (λ s. s.now) (drop (i + 1) words))
played_next v words i d m on named =
    at_drop_more (λ ws. played_from (i + 1) v (texts ws)) words i d on ∙ next_of (i + 1) v (get_or words i d).now (texts (drop (i + 1) words)) m named

pub played_stops : (v : FenValue) (words : List (Bor (List ℕ))) (i : ℕ) (d : Bor (List ℕ)) → i < length words
    → move_named v.position (get_or words i d).now ≡ None
    → played_from (i + 1) v (map (λ s. s.now) (drop i words)) ≡ Err (i + 1)
played_stops v words i d on unnamed =
    at_drop_more (λ ws. played_from (i + 1) v (texts ws)) words i d on ∙ stop_of (i + 1) v (get_or words i d).now (texts (drop (i + 1) words)) unnamed

pub played_all : (v : FenValue) (words : List (Bor (List ℕ))) (i : ℕ) → length words ≤ i
    → played_from (i + 1) v (map (λ s. s.now) (drop i words)) ≡ Ok v
played_all v words i off = at_drop_all (λ ws. played_from (i + 1) v (texts ws)) words i off ∙ end_of (i + 1) v
