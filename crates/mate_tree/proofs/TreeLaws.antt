-- What mates soonest, by the laws of the search.
use Rattle.std.proofs.Common.{◌≡◌, ◌∙◌, ◌⊎◌, inl, inr, ℕ, zero, suc, ◌+◌, ◌-◌, ◌<◌, ◌≤◌, Bool, true, false, not}
use Rattle.std.proofs.Common.{◌&&◌, List, [], length, Contains, refl, sym, ap, subst, arith}
use Rattle.std.specs.Prelude.{nat_lt}
use Rattle.chess_board.specs.Positions.{Setup}
use Rattle.chess_board.specs.Moves.{Move}
use Rattle.chess_board.specs.MakeMove.{after_setup}
use Rattle.chess_board.specs.Attacks.{is_in_check}
use Rattle.chess_moves.specs.inside.Listing.{legal_moves}
use Rattle.chess_moves.specs.Verdicts.{is_mate}
use Rattle.chess_problems.specs.declared.outcomes.Outcome.{Outcome}
use Rattle.chess_problems.specs.declared.outcomes.Outcome.TheVariants.{Mate, NoMate}
use Rattle.chess_problems.specs.Problems.{ProblemValue}
use Rattle.std.proofs.lemmas.Bool.Decides.{nat_tests}
use Rattle.mate_search.specs.Wins.{win, lost}
use Rattle.mate_search.specs.PrincipalVariation.{IsKey, IsLongestDefence, IsPrincipalVariation, mates, goes_on}
use Rattle.mate_search.specs.inside.Truth.{truth}
use Rattle.mate_search.specs.Laws.{AreFirstMoves, HaveNoKeyBelow, IsTold, LostReads, TruthReads, WinGrows, WinReads}
use Rattle.mate_tree.specs.Continuations.{keys_of, soonest}
use Rattle.mate_tree.specs.Laws.{DefencesAnswered, IsBranch, LeavesMate, LineBranches, SoonestReads, length_of, line_of}
use Rattle.mate_tree.specs.Tries.{is_no_mate}

abbrev asked : ℕ → Setup → ProblemValue
asked k p = record { position = p; bound = k; avoid = [] }

none_avoided : (m : Move) → ¬ (Contains {X = Move} [] m)
none_avoided m (k, within, at) = absurd (omega (arith, within))

-- ---- a mate within so many moves is told

not_told : WinReads → (k : ℕ) (p : Setup) (first : List Move) → AreFirstMoves (asked k p) first → HaveNoKeyBelow first p (k + 1) → win k p ≡ true → ⊥
not_told reads zero p first are none wins = let never = (reads 0 p).0 in cc
not_told reads (suc k) p first are none wins =
    let next : suc k ≡ k + 1 = omega arith in
    let (m, legal, loses) = (reads k p).1.0 (subst (λ j. win j p ≡ true) next wins) in
    let fewer : suc k - 1 ≡ k = omega arith in
    none (suc k) (omega arith) (omega arith) m ((are.0 m).1 (legal, none_avoided m), ap (λ j. lost j (after_setup p m)) fewer ∙ loses)

told_by : WinReads → (k : ℕ) (p : Setup) (o : Outcome) (first : List Move) → AreFirstMoves (asked k p) first
    → IsTold first p k o → win k p ≡ true → is_no_mate o ≡ false
told_by reads k p (Mate n keys pv) first are told wins = refl
told_by reads k p NoMate first are told wins = absurd (not_told reads k p first are told wins)

-- ---- what is told is a mate within so many moves

begins : (first : List Move) (p : Setup) (n : ℕ) (line : List Move) → IsPrincipalVariation first p n line → (m : Move) × IsKey first p n m
begins first p n line (mates _ _ m key) = (m, key.0)
begins first p n line (goes_on _ _ q s j m r rest some key after defence next more) = (m, key.0)

win_more : WinGrows → (j n : ℕ) (p : Setup) → win n p ≡ true → win (n + j) p ≡ true
win_more grows zero n p wins = let e : n + 0 ≡ n = omega arith in rw e wins
win_more grows (suc j) n p wins = let e : n + suc j ≡ n + j + 1 = omega arith in rw e (grows (n + j) p (win_more grows j n p wins))

win_within : WinGrows → (n k : ℕ) (p : Setup) → n ≤ k → win n p ≡ true → win k p ≡ true
win_within grows n k p few wins = let e : n + (k - n) ≡ k = omega arith in subst (λ j. win j p ≡ true) e (win_more grows (k - n) n p wins)

wins_by : WinReads → (n : ℕ) (p : Setup) (first : List Move) (m : Move) → 1 ≤ n
    → ((x : Move) → Contains first x → Contains (legal_moves p) x) → IsKey first p n m → win n p ≡ true
wins_by reads zero p first m some legal key = absurd (omega (arith, some))
wins_by reads (suc n) p first m some legal key =
    let fewer : suc n - 1 ≡ n = omega arith in
    let next : n + 1 ≡ suc n = omega arith in
    subst (λ j. win j p ≡ true) next ((reads n p).1.1 (m, legal m key.0, ap (λ j. lost j (after_setup p m)) (sym fewer) ∙ key.1))

told_wins : WinReads → WinGrows → (k : ℕ) (p : Setup) (o : Outcome) (first : List Move) → AreFirstMoves (asked k p) first
    → IsTold first p k o → is_no_mate o ≡ false → win k p ≡ true
told_wins reads grows k p NoMate first are told some = cc
told_wins reads grows k p (Mate n keys pv) first are told some =
    let (m, key) = begins first p n pv.items told.4 in
    win_within grows n k p told.1 (wins_by reads n p first m told.0 (λ x has. ((are.0 x).0 has).0) key)

pub soonest_reads : TruthReads → WinReads → WinGrows → SoonestReads
unfolding soonest
soonest_reads truths reads grows k p =
    let (first, are, told) = truths (asked k p) in
    (told_wins reads grows k p (truth (asked k p)) first are told, told_by reads k p (truth (asked k p)) first are told)

-- ---- what a move that is told leaves

key_leaves : (p : Setup) (b : ℕ) (o : Outcome) (first : List Move) (m : Move) → IsTold first p b o → Contains (keys_of o) m
    → (1 ≤ length_of o) × (lost (length_of o - 1) (after_setup p m) ≡ true)
key_leaves p b (Mate n keys pv) first m told has = (told.0, ((told.3.0 m).0 has).1)
key_leaves p b NoMate first m told has = absurd (none_avoided m has)

pub leaves_mate : TruthReads → LostReads → LeavesMate
leaves_mate truths reads q m has one =
    let (first, are, told) = truths q in
    let (some, loses) = key_leaves q.position q.bound (truth q) first m told has in
    let none : length_of (truth q) - 1 ≡ 0 = omega (arith, one) in
    ends (after_setup q.position m) ((reads 0 (after_setup q.position m)).0 (ap (λ k. lost k (after_setup q.position m)) (sym none) ∙ loses))
  where
    ends : {A B : Type 0} (p : Setup) → (is_mate p ≡ true) ⊎ ((1 ≤ 0) × A × B) → is_mate p ≡ true
    ends p (inl mated) = mated
    ends p (inr (none, _, _)) = absurd (omega (arith, none))

not_mated : (q : Setup) (r : Move) → Contains (legal_moves q) r → is_mate q ≡ true → ⊥
not_mated q r (k, within, at) mated =
    let some : nat_lt 0 (length (legal_moves q)) ≡ true = grind (arith, nat_tests, within) in
    no_both (is_in_check q.men q.side) (nat_lt 0 (length (legal_moves q))) some mated
  where
    no_both : (a b : Bool) → b ≡ true → (a && not b) ≡ true → ⊥
    no_both true true some both = cc
    no_both true false some both = cc
    no_both false b some both = cc

pub defences_answered : TruthReads → LostReads → SoonestReads → DefencesAnswered
defences_answered truths reads soon q m r has legal =
    let (first, are, told) = truths q in
    let k = length_of (truth q) - 1 in
    let next = after_setup q.position m in
    let (some, loses) = key_leaves q.position q.bound (truth q) first m told has in
    (soon k (after_setup next r)).1 (answered k next ((reads k next).0 loses) legal)
  where
    answered : (j : ℕ) (p : Setup) → (is_mate p ≡ true) ⊎ ((1 ≤ j) × ((x : Move) × Contains (legal_moves p) x)
        × ((x : Move) → Contains (legal_moves p) x → win j (after_setup p x) ≡ true))
        → Contains (legal_moves p) r → win j (after_setup p r) ≡ true
    answered j p (inl mated) here = absurd (not_mated p r here mated)
    answered j p (inr (_, _, each)) here = each r here

-- ---- the line that is told

true_unless : (b : Bool) → (b ≡ false → ⊥) → b ≡ true
true_unless true not_false = refl
true_unless false not_false = absurd (not_false refl)

-- A key after which the longest defence is met within k moves begins a mate within k + 1.
key_within : LostReads → (first : List Move) (p : Setup) (n k : ℕ) (m r : Move) → IsKey first p n m → IsLongestDefence (after_setup p m) r → 1 ≤ k
    → win k (after_setup (after_setup p m) r) ≡ true → IsKey first p (k + 1) m
key_within reads first p n k m r key longest some met =
    let each : (x : Move) → Contains (legal_moves (after_setup p m)) x → win k (after_setup (after_setup p m) x) ≡ true =
    λ x has. true_unless (win k (after_setup (after_setup p m) x)) (λ not_met. longest.1 x has (k, met, not_met)) in
    let fewer : k + 1 - 1 ≡ k = omega arith in
    (key.0, ap (λ j. lost j (after_setup p m)) fewer ∙ (reads k (after_setup p m)).1 (inr (some, (r, longest.0), each)))

-- Where no mate in fewer moves begins, none does behind a key and the longest defence.
none_below : WinReads → LostReads → (first : List Move) (p : Setup) (n : ℕ) (m r : Move) → HaveNoKeyBelow first p (n + 1) → IsKey first p (n + 1) m
    → IsLongestDefence (after_setup p m) r
    → HaveNoKeyBelow (legal_moves (after_setup (after_setup p m) r)) (after_setup (after_setup p m) r) n
none_below wins reads first p n m r none key longest k some fewer x other =
    let s = after_setup (after_setup p m) r in
    none (k + 1) (omega arith) (omega (arith, fewer)) m
    (key_within reads first p (n + 1) k m r key longest some (wins_by wins k s (legal_moves s) x some (λ y has. has) other))

-- All keys of the shortest mate from a position are told.
keys_told : (s : Setup) (n : ℕ) (x : Move) → 1 ≤ n → HaveNoKeyBelow (legal_moves s) s n → IsKey (legal_moves s) s n x
    → (first : List Move) (o : Outcome) → AreFirstMoves (asked n s) first → IsTold first s n o → Contains (keys_of o) x
keys_told s n x some none key first NoMate are told = absurd (told n some (omega arith) x ((are.0 x).1 (key.0, none_avoided x), key.1))
keys_told s n x some none key first (Mate l keys pv) are told =
    let (y, other) = begins first s l pv.items told.4 in
    let long : n ≤ l = not_below n l (λ shorter. none l told.0 shorter y (((are.0 y).0 other.0).0, other.1)) in
    let same : n ≡ l = omega (arith, long, told.1) in
    (told.3.0 x).1 ((are.0 x).1 (key.0, none_avoided x), ap (λ k. lost (k - 1) (after_setup s x)) (sym same) ∙ key.1)
  where
    not_below : (a b : ℕ) → (b < a → ⊥) → a ≤ b
    not_below a b never = grind (arith, nat_tests, never)

branches : TruthReads → WinReads → LostReads → (first : List Move) (p : Setup) (n : ℕ) (line keys : List Move) → IsPrincipalVariation first p n line
    → HaveNoKeyBelow first p n → ((x : Move) → IsKey first p n x → Contains keys x) → IsBranch keys n p line
unfolding soonest
branches truths wins reads first p n line keys (mates _ _ m key) none each = (each m key.0, refl)
branches truths wins reads first p n line keys (goes_on _ _ q s j m r rest some key after defence on more) none each =
    let fewer : j ≡ j + 1 - 1 = omega arith in
    let reached : s ≡ after_setup (after_setup p m) r = on ∙ ap (λ z. after_setup z r) after in
    let longest : IsLongestDefence (after_setup p m) r = subst (λ (z : Setup). IsLongestDefence z r) after defence in
    let fewest : HaveNoKeyBelow (legal_moves s) s j =
    subst (λ (z : Setup). HaveNoKeyBelow (legal_moves z) z j) (sym reached) (none_below wins reads first p j m r none key.0 longest) in
    let (others, are, told) = truths (asked j s) in
    let further : IsBranch (keys_of (soonest j s)) j s rest = branches truths wins reads (legal_moves s) s j rest (keys_of (soonest j s)) more fewest
    (λ x is. keys_told s j x some fewest is others (truth (asked j s)) are told) in (
      each m key.0,
      longest.0,
      subst (λ k. IsBranch (keys_of (soonest k (after_setup (after_setup p m) r))) k (after_setup (after_setup p m) r) rest) fewer
          (subst (λ (z : Setup). IsBranch (keys_of (soonest j z)) j z rest) reached further),
    )

pub line_branches : TruthReads → WinReads → LostReads → LineBranches
line_branches truths wins reads q some =
    let (first, are, told) = truths q in
    branch (truth q) first told some
  where
    branch : (o : Outcome) (first : List Move) → IsTold first q.position q.bound o → is_no_mate o ≡ false
        → IsBranch (keys_of o) (length_of o) q.position (line_of o)
    branch NoMate first told some = cc
    branch (Mate n keys pv) first told some =
        branches truths wins reads first q.position n pv.items keys.items told.4 told.2 (λ x is. (told.3.0 x).1 is)
