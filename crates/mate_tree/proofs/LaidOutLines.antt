-- What is written of lines in the end.
use Rattle.std.proofs.Common.{◌≡◌, ◌∙◌, ℕ, zero, suc, ◌-◌, Bool, true, false, ◌||◌, List, [], ◌∷◌, ◌++◌, Option, Some, None, length}
use Rattle.std.proofs.Common.{codes, refl, sym, ap, arith, append_assoc, append-nil}
use Rattle.std.specs.Prelude.{map, nat_lt}
use Rattle.std.specs.List.{flat_map}
use Rattle.std.proofs.lemmas.Bool.Decides.{nat_tests}
use Rattle.mate_tree.specs.declared.forms.Form.{Form}
use Rattle.mate_tree.specs.declared.forms.Pieces.{Pieces}
use Rattle.mate_tree.specs.declared.forms.Pieces.TheVariants as pieces
use Rattle.mate_tree.specs.Layouts.{column_text, figured, laid_out, shown_line}
use Rattle.mate_tree.specs.Lines.{line}
use Rattle.mate_tree.specs.Trees.{limited, printed, shown_lines}
use Rattle.mate_tree.specs.inside.Sheets.{Room, behind, closing, closing_of, ending, is_some_line, line_end, mark, next, part, past, room_for, said}
use Rattle.mate_tree.specs.inside.Sheets.{shown, stays_fresh}
use Rattle.mate_tree.proofs.WrittenLines.{behind_cut, one_more, said_cut}

-- a room where no line was left out
abbrev open_room : Bool → Pieces → Bool → Bool → Option ℕ → Room
open_room column shows begun fresh left =
    record { left = left; cut = false; column = column; pieces = shows; begun = begun; fresh = fresh }

-- one where a line was
abbrev cut_room : Bool → Pieces → Bool → Room
cut_room column shows fresh =
    record { left = Some 0; cut = true; column = column; pieces = shows; begun = true; fresh = fresh }

next_room : (column : Bool) (shows : Pieces) (begun fresh : Bool) (n : ℕ)
    → next (open_room column shows begun fresh (Some (suc n))) ≡ open_room column shows true column (Some n)
next_room column shows begun fresh n =
    let left : suc n - 1 ≡ n = omega arith in rw (one_more n) (ap (λ m. open_room column shows true column (Some m)) left)

mark_room : (column : Bool) (shows : Pieces) (begun fresh : Bool) (n : ℕ)
    → mark (open_room column shows begun fresh (Some (suc n))) ≡ mark (open_room column shows begun fresh None)
mark_room column shows begun fresh n = rw (one_more n) refl

-- ---- so many lines at most

dots : (column : Bool) (shows : Pieces) → figured shows (part column (codes "..")) ≡ codes ".."
dots true pieces.San = refl
dots true pieces.Figurines = refl
dots true (pieces.Letters l) = refl
dots false pieces.San = refl
dots false pieces.Figurines = refl
dots false (pieces.Letters l) = refl

limited_first : (n : ℕ) (l : List ℕ) (ls : List (List ℕ)) → limited (Some (suc n)) (l ∷ ls) ≡ l ∷ limited (Some n) ls
limited_first n l ls =
    let more : nat_lt (suc n) (suc (length ls)) ≡ nat_lt n (length ls) = grind (arith, nat_tests) in rw more refl

limited_none : (n : ℕ) → limited (Some n) [] ≡ []
limited_none zero = refl
limited_none (suc n) = let few : nat_lt (suc n) 0 ≡ false = grind (arith, nat_tests) in rw few refl

limited_cut : (l : List ℕ) (ls : List (List ℕ)) → limited (Some 0) (l ∷ ls) ≡ codes ".." ∷ []
limited_cut l ls = let more : nat_lt 0 (suc (length ls)) ≡ true = grind (arith, nat_tests) in rw more refl

said_limited : (column : Bool) (shows : Pieces) (begun fresh : Bool) (n : ℕ) (ls : List (List ℕ))
    → said (open_room column shows begun fresh (Some n)) ls ≡ said (open_room column shows begun fresh None) (limited (Some n) ls)
unfolding said
said_limited column shows begun fresh n [] = ap (said (open_room column shows begun fresh None)) (sym (limited_none n))
said_limited column shows begun fresh zero (l ∷ ls) =
    let r = open_room column shows begun fresh None in
    let gap = mark r in
    let end = line_end column in
    ap (λ t. ((gap ++ codes ".." ++ end) ++ []) ++ t) (said_cut (cut_room column shows fresh) ls refl)
    ∙ ap (λ t. t ++ []) (append-nil (gap ++ codes ".." ++ end) ∙ append_assoc gap (codes "..") end
    ∙ ap (λ t. gap ++ (t ++ end)) (sym (dots column shows)))
    ∙ ap (said r) (sym (limited_cut l ls))
said_limited column shows begun fresh (suc n) (l ∷ ls) =
    let r = open_room column shows begun fresh (Some (suc n)) in
    let gap = mark (open_room column shows begun fresh None) in
    ap (λ m. m ++ (shown (next r) l ++ ending (past (next r) l)) ++ said (past (next r) l) ls) (mark_room column shows begun fresh n)
    ∙ ap (λ q. gap ++ (shown q l ++ ending (past q l)) ++ said (past q l) ls) (next_room column shows begun fresh n)
    ∙ ap (λ t. gap ++ (figured shows (part column l) ++ line_end column) ++ t)
    (said_limited column shows true (stays_fresh column l) n ls)
    ∙ ap (said (open_room column shows begun fresh None)) (sym (limited_first n l ls))

said_most : (column : Bool) (shows : Pieces) (left : Option ℕ) (ls : List (List ℕ))
    → said (open_room column shows false false left) ls ≡ said (open_room column shows false false None) (limited left ls)
said_most column shows None ls = refl
said_most column shows (Some n) ls = said_limited column shows false false n ls

some_limited : (left : Option ℕ) (ls : List (List ℕ)) → is_some_line (limited left ls) ≡ is_some_line ls
some_limited None ls = refl
some_limited (Some n) [] = ap is_some_line (limited_none n)
some_limited (Some zero) (l ∷ ls) = ap is_some_line (limited_cut l ls)
some_limited (Some (suc n)) (l ∷ ls) = ap is_some_line (limited_first n l ls)

-- ---- one below the other

said_below : (shows : Pieces) (begun fresh : Bool) (ls : List (List ℕ))
    → said (open_room false shows begun fresh None) ls ≡ flat_map line (map (shown_line false shows) ls)
unfolding said
said_below shows begun fresh [] = refl
said_below shows begun fresh (l ∷ ls) = ap (λ t. (figured shows l ++ codes "\n") ++ t) (said_below shows true false ls)

-- ---- in a column

said_behind : (shows : Pieces) (fresh : Bool) (ls : List (List ℕ))
    → said (open_room true shows true fresh None) ls ≡ flat_map (λ m. codes " " ++ m) (map (shown_line true shows) ls)
unfolding said
said_behind shows fresh [] = refl
said_behind shows fresh (l ∷ ls) =
    ap (λ t. codes " " ++ (shown_line true shows l ++ []) ++ t) (said_behind shows (stays_fresh true l) ls)
    ∙ ap (λ t. codes " " ++ t ++ flat_map (λ m. codes " " ++ m) (map (shown_line true shows) ls)) (append-nil (shown_line true shows l))

said_column : (shows : Pieces) (ls : List (List ℕ))
    → said (open_room true shows false false None) ls ≡ column_text (map (shown_line true shows) ls)
unfolding said
said_column shows [] = refl
said_column shows (l ∷ ls) =
    ap (λ t. (shown_line true shows l ++ []) ++ t) (said_behind shows (stays_fresh true l) ls)
    ∙ ap (λ t. t ++ flat_map (λ m. codes " " ++ m) (map (shown_line true shows) ls)) (append-nil (shown_line true shows l))

-- ---- the end

true_behind : (b : Bool) → true ≡ (b || true)
true_behind true = refl
true_behind false = refl

none_behind : (b : Bool) → b ≡ (b || false)
none_behind true = refl
none_behind false = refl

closing_behind : (column : Bool) (shows : Pieces) (begun fresh : Bool) (left : Option ℕ) (ls : List (List ℕ))
    → closing (behind (open_room column shows begun fresh left) ls) ≡ closing_of column (begun || is_some_line ls)
unfolding behind
closing_behind column shows begun fresh left [] = ap (closing_of column) (none_behind begun)
closing_behind column shows begun fresh None (l ∷ ls) =
    closing_behind column shows true (stays_fresh column l) None ls ∙ ap (closing_of column) (true_behind begun)
closing_behind column shows begun fresh (Some zero) (l ∷ ls) =
    ap closing (behind_cut (cut_room column shows fresh) ls refl) ∙ ap (closing_of column) (true_behind begun)
closing_behind column shows begun fresh (Some (suc n)) (l ∷ ls) =
    ap (λ q. closing (behind (past q l) ls)) (next_room column shows begun fresh n)
    ∙ closing_behind column shows true (stays_fresh column l) (Some n) ls ∙ ap (closing_of column) (true_behind begun)

column_closed : (shows : Pieces) (ls : List (List ℕ))
    → column_text (map (shown_line true shows) ls) ++ closing_of true (is_some_line ls)
    ≡ laid_out true (map (shown_line true shows) ls) ++ line []
column_closed shows [] = refl
column_closed shows (l ∷ ls) =
    sym (append_assoc (column_text (map (shown_line true shows) (l ∷ ls))) (codes "\n") (codes "\n"))

-- the lines of a tree in a column, without its end
pub column_is : (form : Form) (ls : List (List ℕ)) → form.column ≡ true → said (room_for form) ls ≡ column_text (shown_lines form ls)
column_is form ls is = by form.column is
  where
    by : (column : Bool) → column ≡ true → said (open_room column form.pieces false false form.lines) ls
        ≡ column_text (map (shown_line column form.pieces) (limited form.lines ls))
    by true so = said_most true form.pieces form.lines ls ∙ said_column form.pieces (limited form.lines ls)
    by false so = cc

-- the lines of a tree as they are printed, and an empty line
pub printed_is : (form : Form) (ls : List (List ℕ))
    → said (room_for form) ls ++ closing (behind (room_for form) ls) ≡ printed form ls ++ line []
printed_is form ls = by form.column
  where
    by : (column : Bool) → said (open_room column form.pieces false false form.lines) ls
        ++ closing (behind (open_room column form.pieces false false form.lines) ls)
        ≡ laid_out column (map (shown_line column form.pieces) (limited form.lines ls)) ++ line []
    by false =
        ap (λ t. said (open_room false form.pieces false false form.lines) ls ++ t)
        (closing_behind false form.pieces false false form.lines ls)
        ∙ ap (λ t. t ++ line []) (said_most false form.pieces form.lines ls ∙ said_below form.pieces false false (limited form.lines ls))
    by true =
        ap (λ t. said (open_room true form.pieces false false form.lines) ls ++ t)
        (closing_behind true form.pieces false false form.lines ls ∙ ap (closing_of true) (sym (some_limited form.lines ls)))
        ∙ ap (λ t. t ++ closing_of true (is_some_line (limited form.lines ls)))
        (said_most true form.pieces form.lines ls ∙ said_column form.pieces (limited form.lines ls))
        ∙ column_closed form.pieces (limited form.lines ls)
