-- The variations below a move, step by step.
use Rattle.std.proofs.Common.{◌≡◌, ◌≢◌, ◌∙◌, ℕ, zero, suc, ◌+◌, ◌-◌, ◌≤◌, Bool, true, false, List, [], ◌++◌, Option, length, codes, refl}
use Rattle.std.proofs.Common.{◌∷◌, ap, arith, nat_lt, sym}
use Rattle.std.proofs.lemmas.Bool.Decides.{nat_tests}
use Rattle.std.specs.Prelude.{if◌then◌else◌}
use Rattle.std.specs.List.{flat_map}
use Rattle.chess_board.specs.MakeMove.{after_setup}
use Rattle.chess_board.specs.Moves.{Move}
use Rattle.chess_board.specs.Positions.{Setup}
use Rattle.chess_moves.specs.Verdicts.{mating_moves}
use Rattle.chess_notation.specs.SanText.{san_text}
use Rattle.mate_tree.specs.Parries.{parrying}
use Rattle.mate_tree.specs.Variations.{answered, follows, is_told, mates_line, reply_word, variation, variations}
use Rattle.mate_tree.specs.declared.writers.TreeWriter.{TreeWriter}
use Rattle.mate_tree.specs.inside.Sheets.{is_closed}
use Rattle.mate_tree.specs.inside.Writers.{Adds}
use Rattle.mate_tree.proofs.AddedLines.{SomeLines, adds_as, adds_none, lines_all, lines_closed}

module _ {D : Type 0} {contents : D → Option (List ℕ)} where
  pub variations_nothing : (d i k : ℕ) (q : Setup) (s : TreeWriter D) → d ≡ 0 → Adds contents s s (variations d i k q)
  unfolding variations
  variations_nothing d i k q s none = rw none (adds_none s)

-- each of these replies, where the tree goes on below it
abbrev each : ℕ → ℕ → ℕ → Setup → List Move → Move → List (List ℕ)
each d i k q rs r = variation (variations (d - 1) (i + 1)) (d - 1) i k q rs r

variations_some : (d i k : ℕ) (q : Setup) → d ≢ 0 → flat_map (each d i k q (parrying k q)) (parrying k q) ≡ variations d i k q
unfolding variations
variations_some zero i k q some = absurd (some refl)
variations_some (suc d) i k q some =
    let e : suc d - 1 ≡ d = omega arith in
    ap (λ n. flat_map (variation (variations n (i + 1)) n i k q (parrying k q)) (parrying k q)) e

all_variations : (d i k : ℕ) (q : Setup) (rs : List Move) → d ≢ 0 → rs ≡ parrying k q → flat_map (each d i k q rs) rs ≡ variations d i k q
all_variations d i k q rs some all = ap (λ xs. flat_map (each d i k q xs) xs) all ∙ variations_some d i k q some

module _ {D : Type 0} {contents : D → Option (List ℕ)} {s t : TreeWriter D} (d i k : ℕ) (q : Setup) {rs : List Move} {j : ℕ} where
  pub variations_whole : d ≢ 0 → rs ≡ parrying k q → length rs ≤ j → SomeLines contents s t (each d i k q rs) rs j
      → Adds contents s t (variations d i k q)
  variations_whole some all whole before = adds_as (all_variations d i k q rs some all) (lines_all whole before)

  pub variations_closed : d ≢ 0 → rs ≡ parrying k q → is_closed t.sheet ≡ true → SomeLines contents s t (each d i k q rs) rs j
      → Adds contents s t (variations d i k q)
  variations_closed some all closed before = adds_as (all_variations d i k q rs some all) (lines_closed closed before)

-- ---- one reply

pub word_is : (q : Setup) (r x : Move) (text : List ℕ) → follows q r x ≡ true → text ≡ san_text q x → codes ", " ++ text ≡ reply_word q r x
word_is q r x text is word = ap (λ t. codes ", " ++ t) word ∙ by (follows q r x) is
  where
    by : (yes : Bool) → yes ≡ true → codes ", " ++ san_text q x ≡ (if yes then codes ", " ++ san_text q x else [])
    by true is = refl
    by false is = cc

pub told_is : (below : ℕ → Setup → List (List ℕ)) (d i k : ℕ) (q : Setup) (rs : List Move) (r : Move) → is_told q rs r ≡ true
    → [] ≡ variation below d i k q rs r
told_is below d i k q rs r told = by (is_told q rs r) told
  where
    by : (yes : Bool) → yes ≡ true → [] ≡ (if yes then [] else answered below d i k q rs r (mating_moves (after_setup q r)))
    by true is = refl
    by false is = cc

module _ (below : ℕ → Setup → List (List ℕ)) (d i k : ℕ) (q : Setup) (rs : List Move) (r : Move) where
  own_is : is_told q rs r ≡ false → answered below d i k q rs r (mating_moves (after_setup q r)) ≡ variation below d i k q rs r
  own_is own = by (is_told q rs r) own
    where
      by : (yes : Bool) → yes ≡ false → answered below d i k q rs r (mating_moves (after_setup q r))
          ≡ (if yes then [] else answered below d i k q rs r (mating_moves (after_setup q r)))
      by true is = cc
      by false is = refl

  some_is : (ms : List Move) → nat_lt 0 (length ms) ≡ true → mates_line i q rs r ms ∷ [] ≡ answered below d i k q rs r ms
  some_is [] some = cc
  some_is (m ∷ ms) some = refl

  none_is : (ms : List Move) → nat_lt 0 (length ms) ≡ false → answered below d i k q [] r [] ≡ answered below d i k q rs r ms
  none_is [] none = refl
  none_is (m ∷ ms) none = absurd (grind (arith, nat_tests, none))

  -- the line of a reply after which a move mates at once, or what stands there where none does
  pub mated_is : (some : Bool) → is_told q rs r ≡ false → some ≡ nat_lt 0 (length (mating_moves (after_setup q r))) → some ≡ true
      → (if some then mates_line i q rs r (mating_moves (after_setup q r)) ∷ [] else []) ≡ variation below d i k q rs r
  mated_is some own is mates = rw mates (some_is (mating_moves (after_setup q r)) (sym is ∙ mates) ∙ own_is own)

  pub sequels_are : (some : Bool) → is_told q rs r ≡ false → some ≡ nat_lt 0 (length (mating_moves (after_setup q r))) → some ≡ false
      → (if some then mates_line i q rs r (mating_moves (after_setup q r)) ∷ [] else []) ++ answered below d i k q [] r []
      ≡ variation below d i k q rs r
  sequels_are some own is none = rw none (none_is (mating_moves (after_setup q r)) (sym is ∙ none) ∙ own_is own)
