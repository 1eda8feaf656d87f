-- What is taken of an input, line by line.
use Rattle.std.proofs.Common.{◌≡◌, ◌-◌, ◌==◌, ℕ, Bool, true, false, Option, List, [], ◌∷◌, ◌++◌, cond, get_or, length, take, refl, ap, ◌∙◌}
use Rattle.std.proofs.Common.{arith, min}
use Rattle.std.proofs.lemmas.List.{length-take, take_all}
use Rattle.std.proofs.KnownBytes.{Consumes-nil, Consumes-trans}
use Rattle.text_lines.specs.Lines.{lines_of, without_cr}
use Rattle.text_lines.specs.TakenLines.{AreAllOf, HasTaken, LinesBegin}
use Rattle.text_lines.specs.inside.InputLines.{TakesLine}
use Rattle.text_lines.proofs.LineReplies.{input_at_end, input_from, last_lines, opens_more}

-- ---- a line without its CR is what stands before that

front_by : (cr : Bool) (line : List ℕ) → take (length (cond cr (take (length line - 1) line) line)) line ≡ cond cr (take (length line - 1) line) line
front_by true line = ap (λ n. take n line) (length-take (length line - 1) line) ∙ ap (λ n. take n line) (least (length line)) ∙ refl
  where
    least : (n : ℕ) → min (n - 1) n ≡ n - 1
    least n = omega arith
front_by false line = take_all (length line) line (omega arith)

pub cr_front : (line : List ℕ) → take (length (without_cr line)) line ≡ without_cr line
cr_front line = front_by (get_or line (length line - 1) 0 == 13) line

-- ---- lines taken one after the other

pub none_taken : (known : Option (List ℕ)) → HasTaken known known []
unfolding HasTaken
none_taken known = ([], Consumes-nil known, λ rest. refl)

pub one_taken : (left next : Option (List ℕ)) (line : List ℕ) → TakesLine false left next line
    → (known : Option (List ℕ)) (lines : List (List ℕ)) → HasTaken known left lines → HasTaken known next (lines ++ line ∷ [])
unfolding HasTaken
one_taken left next line (one, on) known lines (seen, taken, opens) =
    (seen ++ (line ++ 10 ∷ []), Consumes-trans known left next seen (line ++ 10 ∷ []) taken on, opens_more seen line lines one opens)

pub last_taken : (left next : Option (List ℕ)) (line : List ℕ) → TakesLine true left next line
    → (known : Option (List ℕ)) (lines : List (List ℕ)) → HasTaken known left lines → AreAllOf known (lines ++ line ∷ [])
unfolding HasTaken AreAllOf
last_taken left next line (one, last, at_end) known lines (seen, taken, opens) =
    (seen ++ line, input_at_end known next (seen ++ line) (Consumes-trans known left next seen line taken last) at_end, last_lines seen line lines opens one)

pub lines_begin : LinesBegin
unfolding HasTaken
lines_begin known left lines (seen, taken, opens) =
    let (rest, is) = input_from known left seen taken in (seen ++ rest, lines_of rest, is, opens rest)
