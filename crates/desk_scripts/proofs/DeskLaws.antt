-- A desk that is read is spelled so, and one that is spelled is read.
use Rattle.std.proofs.Common.{◌≡◌, ◌≤◌, ◌&&◌, ◌++◌, ℕ, Bool, List, ◌∷◌, None, Some, true, false}
use Rattle.std.proofs.Common.{codes, cond, refl, sym, ap, ◌∙◌, subst, nat_le, option_map}
use Rattle.std.proofs.lemmas.Bool.{and_parts, leb-true, le-leb}
use Rattle.std.proofs.lemmas.Option.{cond_some, option_and_then_some, none-some}
use Rattle.std.proofs.lemmas.Slice.Eq.{bytes_eq-Decides}
use Rattle.std.specs.Option.{option_and_then}
use Rattle.std.specs.Str.{bytes_eq}
use Rattle.chess_problems.specs.Problems.{bound_of, max_bound}
use Rattle.desk_scripts.specs.Scripts.{SpellsDesk}
use Rattle.desk_scripts.specs.inside.ScriptReading.{DeskValue, cut_at, number_of, number_cut, desk_of, desk_numbers}
use Rattle.desk_scripts.proofs.NumberLaws.{map_some, number_spelled, number_read, cut_spelled, number_cut_spelled, number_cut_read}

abbrev IsSpelled : List ℕ → DeskValue → Type 0
IsSpelled line desk = SpellsDesk line desk.submitters desk.room desk.bound

abbrev desk_with : ℕ → ℕ → ℕ → DeskValue
desk_with s r b = record { submitters = s; room = r; bound = b }

bound_spelled : (n b : ℕ) → bound_of n ≡ Some b → (1 ≤ n) × (n ≤ max_bound) × (n ≡ b)
bound_spelled n b is =
    let parts = cond_some (nat_le 1 n && nat_le n max_bound) n b is in
    let both = and_parts (nat_le 1 n) (nat_le n max_bound) parts.0 in
    (leb-true 1 n both.0, leb-true n max_bound both.1, parts.1)

bound_read : (n : ℕ) → 1 ≤ n → n ≤ max_bound → bound_of n ≡ Some n
bound_read n some few = rw (le-leb 1 n some, le-leb n max_bound few) refl

numbers_spelled : (text : List ℕ) (desk : DeskValue) → desk_numbers text ≡ Some desk → IsSpelled (codes "desk" ++ 32 ∷ text) desk
numbers_spelled text desk is = option_and_then_some (λ s.
    option_and_then (λ r. option_and_then (λ n. option_map (desk_with s.0 r.0) (bound_of n)) (number_of r.1)) (number_cut s.1))
    (number_cut text) desk is (λ s at more.
    option_and_then_some (λ r. option_and_then (λ n. option_map (desk_with s.0 r.0) (bound_of n)) (number_of r.1))
    (number_cut s.1) desk more (λ r behind last.
    option_and_then_some (λ n. option_map (desk_with s.0 r.0) (bound_of n)) (number_of r.1) desk last (λ n number bounded.
    map_some (desk_with s.0 r.0) (bound_of n) desk bounded (λ b bound same.
    let first = number_cut_spelled text s.0 s.1 at in
    let second = number_cut_spelled s.1 r.0 r.1 behind in
    let third = bound_spelled n b bound in
    let cut : (codes "desk" ++ 32 ∷ text) ≡ codes "desk " ++ (first.0 ++ 32 ∷ (second.0 ++ 32 ∷ r.1)) =
    ap (λ t. codes "desk " ++ t) (first.1 ∙ ap (λ t. first.0 ++ 32 ∷ t) second.1) in
    let spelled : IsSpelled (codes "desk" ++ 32 ∷ text) (desk_with s.0 r.0 n) =
    (first.0, second.0, r.1, cut, first.2, second.2, number_spelled r.1 n number, third.0, third.1) in
    subst (IsSpelled (codes "desk" ++ 32 ∷ text)) (ap (desk_with s.0 r.0) third.2 ∙ same) spelled))))

word_spelled : (line word text : List ℕ) (desk : DeskValue) (test : Bool) → line ≡ word ++ 32 ∷ text → bytes_eq word (codes "desk") ≡ test
    → cond test (desk_numbers text) None ≡ Some desk → IsSpelled line desk
word_spelled line word text desk true cut test is =
    let same : line ≡ codes "desk" ++ 32 ∷ text = cut ∙ ap (λ w. w ++ 32 ∷ text) ((bytes_eq-Decides word (codes "desk")).0 test) in
    subst (λ l. IsSpelled l desk) (sym same) (numbers_spelled text desk is)
word_spelled line word text desk false cut test is = absurd (none-some desk is)

pub desk_spelled : (line : List ℕ) (desk : DeskValue) → desk_of line ≡ Some desk → SpellsDesk line desk.submitters desk.room desk.bound
unfolding desk_of
desk_spelled line desk is = option_and_then_some (λ cut. cond (bytes_eq cut.0 (codes "desk")) (desk_numbers cut.1) None)
    (cut_at 32 line) desk is (λ cut at found.
    word_spelled line cut.0 cut.1 desk (bytes_eq cut.0 (codes "desk")) (cut_spelled 32 line cut.0 cut.1 at) refl found)

pub desk_read : (line : List ℕ) (submitters room bound : ℕ) → SpellsDesk line submitters room bound
    → desk_of line ≡ Some (record { submitters = submitters; room = room; bound = bound })
unfolding desk_of
desk_read line submitters room bound (s, r, b, is, first, second, third, some, few) =
    ap desk_of is
    ∙ ap (option_and_then (λ s. option_and_then
    (λ r. option_and_then (λ n. option_map (desk_with s.0 r.0) (bound_of n)) (number_of r.1)) (number_cut s.1)))
    (number_cut_read s submitters (r ++ 32 ∷ b) first)
    ∙ ap (option_and_then (λ r. option_and_then (λ n. option_map (desk_with submitters r.0) (bound_of n)) (number_of r.1)))
    (number_cut_read r room b second)
    ∙ ap (option_and_then (λ n. option_map (desk_with submitters room) (bound_of n))) (number_read b bound third)
    ∙ ap (option_map (desk_with submitters room)) (bound_read bound some few)
