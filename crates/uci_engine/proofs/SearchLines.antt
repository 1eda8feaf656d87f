-- The lengths in which there is no mate.
use Rattle.std.proofs.Common.{◌≡◌, ◌⊎◌, inl, inr, ℕ, ◌+◌, ◌<◌, ◌≤◌, arith, subst, Bool, true, false, if◌then◌else◌, Option, Some, None, ◌≢◌, ◌∙◌, ap, sym, List, [], ◌∷◌, ◌++◌}
use Rattle.chess_problems.specs.Problems.{ProblemValue, bound_of, max_bound}
use Rattle.std.specs.Prelude.{◌-◌, ◌&&◌, nat_le}
use Rattle.chess_board.specs.Moves.{Move}
use Rattle.chess_board.specs.Positions.{Setup}
use Rattle.chess_moves.specs.Verdicts.{verdict_of}
use Rattle.chess_moves.specs.declared.verdicts.Verdict.{Verdict}
use Rattle.chess_problems.specs.declared.outcomes.Outcome.{Outcome}
use Rattle.chess_problems.specs.declared.outcomes.Outcome.TheVariants.{NoMate}
use Rattle.mate_search.specs.inside.Truth.{truth}
use Rattle.uci_commands.specs.MoveSearches.{all_but}
use Rattle.uci_engine.specs.SearchLines.{AreKeyLines, EndsWith, HasNone, IsLengthLine, IsMateLine, IsSaid, IsShortest, best_text, first_key}
use Rattle.uci_engine.specs.SearchLines.{line_of, mates, more, none_end, not_found, of_first, of_keys, of_length, of_terminal, terminal_text, within}

pub none_first : (q : ProblemValue) → HasNone q 0
none_first q k some few = absurd (omega (arith, some, few))

none_at : (q : ProblemValue) (n k : ℕ) → HasNone q n → truth (within q (n + 1)) ≡ NoMate → 0 < k → (k ≤ n) ⊎ (k ≡ n + 1)
    → truth (within q k) ≡ NoMate
none_at q n k before here some (inl few) = before k some few
none_at q n k before here some (inr is) = subst (λ m. truth (within q m) ≡ NoMate) (sym is) here

last_or : (k n : ℕ) → k ≤ n + 1 → (k ≤ n) ⊎ (k ≡ n + 1)
last_or k n few = grind (arith)

pub none_more : (q : ProblemValue) (n : ℕ) → HasNone q n → truth (within q (n + 1)) ≡ NoMate → HasNone q (n + 1)
none_more q n before here k some few = none_at q n k before here some (last_or k n few)

-- One line more, of a key that was searched alone.
pub line_more : (q alone : ProblemValue) (rank count : ℕ) (key : Move) (o : Outcome) (pv : List Move) (old new : List ℕ)
    → alone ≡ record { position = q.position; bound = q.bound; avoid = all_but q.position (key ∷ []) } → o ≡ truth alone → line_of o ≡ pv
    → count ≡ q.bound → (line : List ℕ) × IsMateLine count rank pv line × (new ≡ old ++ line) → AreKeyLines q old → AreKeyLines q new
line_more q alone rank count key o pv old new is true_of of_pv bound (line, one, same) before =
    let play : pv ≡ line_of (truth (record { position = q.position; bound = q.bound; avoid = all_but q.position (key ∷ []) })) =
    sym of_pv ∙ ap line_of true_of ∙ ap (λ p. line_of (truth p)) is in
    subst (AreKeyLines q) (sym same)
    (more rank key old line before (subst (λ l. IsMateLine q.bound rank l line) play (subst (λ n. IsMateLine n rank pv line) bound one)))

pub none_fewer : (q : ProblemValue) (m n : ℕ) → m ≤ n → HasNone q n → HasNone q m
none_fewer q m n fewer before k some few = before k some (omega (arith, few, fewer))

bound_if : (is : Bool) (n b : ℕ) → (if is then Some n else None) ≡ Some b → b ≡ n
bound_if true n b is = let same : Some n ≡ Some b = is in cc
bound_if false n b is = let no : None ≡ Some b = is in cc

pub bound_is : (n b : ℕ) → bound_of n ≡ Some b → b ≡ n
bound_is n b is = bound_if (nat_le 1 n && nat_le n max_bound) n b is

-- The end of a search that found no mate in so many moves.
pub ends_without : (q : ProblemValue) (n : ℕ) (old last new : List ℕ) → n ≤ q.bound → HasNone q n → last ≡ old
    → (best : Option Move) × (new ≡ last ++ none_end n best) → EndsWith q old new
ends_without q n old last new few before same (best, is) = (none_end n best, not_found n best few before, is ∙ ap (λ t. t ++ none_end n best) same)

-- The end of one that found a mate in one move more.
pub ends_with : (q asked : ProblemValue) (n bound : ℕ) (o : Outcome) (best : Option Move) (old last new : List ℕ) → n < q.bound → HasNone q n
    → bound ≡ n + 1 → asked ≡ within q bound → o ≡ truth asked → o ≢ NoMate → best ≡ first_key o → last ≡ old → new ≡ last ++ best_text best
    → EndsWith q old new
ends_with q asked n bound o best old last new few before next is true_of some first same goes =
    let of : o ≡ truth (within q (n + 1)) = true_of ∙ ap truth is ∙ ap (λ b. truth (within q b)) next in
    let less : (n + 1) - 1 ≡ n = omega (arith) in (
      best_text (first_key (truth (within q (n + 1)))),
      mates (n + 1) (omega (arith, few)) (subst (HasNone q) (sym less) before) (λ no. some (of ∙ no)),
      goes ∙ ap (λ t. t ++ best_text best) same ∙ ap (λ b. old ++ best_text b) (first ∙ ap first_key of),
    )

-- ---- what is written while it goes on

shortest : (q asked : ProblemValue) (n bound : ℕ) (o : Outcome) → HasNone q n → bound ≡ n + 1 → asked ≡ within q bound → o ≡ truth asked
    → o ≢ NoMate → IsShortest q (n + 1)
shortest q asked n bound o before next is true_of some =
    let of : o ≡ truth (within q (n + 1)) = true_of ∙ ap truth is ∙ ap (λ b. truth (within q b)) next in
    let less : (n + 1) - 1 ≡ n = omega (arith) in (subst (HasNone q) (sym less) before, λ no. some (of ∙ no))

pub said_first : (q asked : ProblemValue) (n bound : ℕ) (o : Outcome) (pv : List Move) (text : List ℕ) → HasNone q n → bound ≡ n + 1
    → asked ≡ within q bound → o ≡ truth asked → o ≢ NoMate → line_of o ≡ pv → IsMateLine asked.bound 1 pv text → IsSaid q text
said_first q asked n bound o pv text before next is true_of some play line =
    let same : asked ≡ within q (n + 1) = is ∙ ap (within q) next in
    of_first (n + 1) text (shortest q asked n bound o before next is true_of some)
    (subst (λ b. IsMateLine b 1 (line_of (truth (within q (n + 1)))) text) (ap (λ (p : ProblemValue). p.bound) same)
    (subst (λ l. IsMateLine asked.bound 1 l text) (sym play ∙ ap line_of (true_of ∙ ap truth same)) line))

pub said_keys : (q asked : ProblemValue) (n bound : ℕ) (o : Outcome) (text : List ℕ) → HasNone q n → bound ≡ n + 1 → asked ≡ within q bound
    → o ≡ truth asked → o ≢ NoMate → AreKeyLines asked text → IsSaid q text
said_keys q asked n bound o text before next is true_of some lines =
    of_keys (n + 1) text (shortest q asked n bound o before next is true_of some) (subst (λ p. AreKeyLines p text) (is ∙ ap (within q) next) lines)

pub none_of : (q asked : ProblemValue) (n bound : ℕ) (o : Outcome) → bound ≡ n + 1 → asked ≡ within q bound → o ≡ truth asked → o ≡ NoMate
    → truth (within q (n + 1)) ≡ NoMate
none_of q asked n bound o next is true_of none = sym (true_of ∙ ap truth is ∙ ap (λ b. truth (within q b)) next) ∙ none

pub said_length : (q : ProblemValue) (n : ℕ) (text : List ℕ) → HasNone q n → truth (within q (n + 1)) ≡ NoMate → IsLengthLine (n + 1) text → IsSaid q text
said_length q n text before here line = of_length (n + 1) text (none_more q n before here) line

pub said_terminal : (q : ProblemValue) (p : Setup) (v : Verdict) (text : List ℕ) → p ≡ q.position → v ≡ verdict_of p → Some text ≡ terminal_text v
    → IsSaid q text
said_terminal q p v text at of line = of_terminal text (sym (ap (λ s. terminal_text (verdict_of s)) at) ∙ sym (ap terminal_text of) ∙ sym line)
