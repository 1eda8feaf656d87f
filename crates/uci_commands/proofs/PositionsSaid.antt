-- A FEN that was said and read, and where moves lead from it.
use Rattle.std.proofs.Common.{◌≡◌, ◌∙◌, ◌↔◌, ◌-◌, ◌≤◌, ℕ, Bool, true, false, List, [], ◌∷◌, Option, None, Some, Result, Ok, Err}
use Rattle.std.proofs.Common.{length, map, take, drop, get_or, option_map, ap, arith, refl, sym, subst}
use Rattle.std.proofs.lemmas.List.{take_rest}
use Rattle.std.specs.Str.{bytes_eq}
use Rattle.std.specs.Prelude.{codes}
use Rattle.chess_board.specs.Fens.{FenValue, Spells}
use Rattle.chess_board.specs.Soundness.{IsSound}
use Rattle.chess_board.specs.declared.faults.FenFault.{FenFault}
use Rattle.chess_views.specs.Played.{played}
use Rattle.position_lines.specs.LineFens.{line_fen}
use Rattle.uci_commands.specs.Marks.{before, behind}
use Rattle.uci_commands.specs.PositionCommands.{Leads, LeadsNowhere, fen_said, spelt}

pub said_some : {X : Type 0} (f : X → List ℕ) (o : Option X) (x : X) (says : Option (List ℕ)) → option_map f o ≡ says → o ≡ Some x → says ≡ Some (f x)
said_some f o x says found is = sym found ∙ ap (option_map f) is

pub said_none : {X : Type 0} (f : X → List ℕ) (o : Option X) (says : Option (List ℕ)) → option_map f o ≡ says → o ≡ None → says ≡ None
said_none f o says found is = sym found ∙ ap (option_map f) is

abbrev ReadsExactly : List ℕ → Result FenValue FenFault → Type 0
ReadsExactly text read = (f : FenValue) → (read ≡ Ok f) ↔ (Spells text f × IsSound f.position)

pub leads : (words rest : List (List ℕ)) (text slice : List ℕ) (first fen : FenValue) (read : Result FenValue FenFault) (plays : Result FenValue ℕ)
    → fen_said words ≡ Some text → slice ≡ text → ReadsExactly slice read → read ≡ Ok first
    → rest ≡ behind (codes "moves") words → plays ≡ played first rest → plays ≡ Ok fen → Leads words fen
leads words rest text slice first fen read plays said same exact is moves play reached =
    let (spells, sound) = (exact first).0 is in
    record {
      text = text;
      first = first;
      said = said;
      spells = subst (λ t. Spells t first) same spells;
      sound = sound;
      moves = ap (played first) (sym moves) ∙ sym play ∙ reached;
    }

pub leads_nowhere : (words rest : List (List ℕ)) (text slice : List ℕ) (first : FenValue) (number : ℕ) (read : Result FenValue FenFault)
    (plays : Result FenValue ℕ) → fen_said words ≡ Some text → slice ≡ text → ReadsExactly slice read → read ≡ Ok first
    → rest ≡ behind (codes "moves") words → plays ≡ played first rest → plays ≡ Err number → LeadsNowhere words number
leads_nowhere words rest text slice first number read plays said same exact is moves play reached =
    let (spells, sound) = (exact first).0 is in
    record {
      text = text;
      first = first;
      said = said;
      spells = subst (λ t. Spells t first) same spells;
      sound = sound;
      moves = ap (played first) (sym moves) ∙ sym play ∙ reached;
    }

pub fen_of_words : {X : Type 0} (f : X → List ℕ) (xs : List X) (d : X) (is_start is_fen : Bool) (text fen : List ℕ) → 1 ≤ length xs
    → is_start ≡ bytes_eq (f (get_or xs 0 d)) (codes "startpos") → is_start ≡ false
    → is_fen ≡ bytes_eq (f (get_or xs 0 d)) (codes "fen") → is_fen ≡ true
    → text ≡ spelt (before (codes "moves") (map f (take (length xs - 1) (drop 1 xs)))) → fen ≡ line_fen text → Some fen ≡ fen_said (map f xs)
unfolding fen_said
fen_of_words f [] d is_start is_fen text fen some start other kind this says reads = absurd (omega (arith, some))
fen_of_words f (x ∷ xs) d is_start is_fen text fen some start other kind this says reads =
    let here : fen_said (f x ∷ map f xs) ≡ Some (line_fen (spelt (before (codes "moves") (map f xs)))) =
    rw (sym start ∙ other, sym kind ∙ this) refl in
    let behind_kind = says ∙ ap (λ t. spelt (before (codes "moves") (map f t))) (take_rest (x ∷ xs) 1) in
    ap Some (reads ∙ ap line_fen behind_kind) ∙ sym here
