-- Texts that go on and on.
use Rattle.std.proofs.Common.{◌≡◌, ◌==◌, Bool, true, false, eqb-true, if◌then◌else◌, ℕ, List, ◌++◌, refl, ap, ◌∙◌, append_assoc}
use Rattle.std.specs.Prelude.{codes, decimal}
use Rattle.chess_board.specs.Moves.{Move}
use Rattle.uci_engine.specs.SearchLines.{IsCosts, IsLengthLine, IsMateLine, depth_of, moves_text, none_text}

pub first : (old new a d : List ℕ) → new ≡ old ++ a ++ d → new ≡ old ++ (a ++ d)
first old new a d is = is ∙ append_assoc old a d

pub on : (old one new x rest : List ℕ) → one ≡ old ++ x → new ≡ one ++ rest → new ≡ old ++ (x ++ rest)
on old one new x rest is more = more ∙ ap (λ t. t ++ rest) is ∙ append_assoc old x rest

pub on_count : (old one new x a d : List ℕ) → one ≡ old ++ x → new ≡ one ++ a ++ d → new ≡ old ++ (x ++ a ++ d)
on_count old one new x a d is more =
    more ∙ ap (λ t. t ++ a ++ d) is ∙ ap (λ t. t ++ d) (append_assoc old x a) ∙ append_assoc old (x ++ a) d

pub costs_of : (old one two new : List ℕ) (nodes time rate : ℕ) → one ≡ old ++ codes " nodes " ++ decimal nodes
    → two ≡ one ++ codes " time " ++ decimal time → new ≡ two ++ codes " nps " ++ decimal rate
    → (told : List ℕ) × IsCosts told × (new ≡ old ++ told)
unfolding IsCosts
costs_of old one two new nodes time rate e1 e2 e3 =
    let x1 : List ℕ = codes " nodes " ++ decimal nodes in
    let x2 : List ℕ = x1 ++ codes " time " ++ decimal time in (
      x2 ++ codes " nps " ++ decimal rate,
      (nodes, time, rate, refl),
      on_count old two new x2 (codes " nps ") (decimal rate)
          (on_count old one two x1 (codes " time ") (decimal time) (first old one (codes " nodes ") (decimal nodes) e1) e2) e3,
    )

pub length_of : (old t1 t2 new : List ℕ) (moves : ℕ) → t1 ≡ old ++ codes "info depth " ++ decimal (depth_of moves)
    → (told : List ℕ) × IsCosts told × (t2 ≡ t1 ++ told) → new ≡ t2 ++ codes "\n"
    → (line : List ℕ) × IsLengthLine moves line × (new ≡ old ++ line)
unfolding IsLengthLine
length_of old t1 t2 new moves e1 (costs, are, e2) e3 =
    let x1 : List ℕ = codes "info depth " ++ decimal (depth_of moves) in
    let s1 : t1 ≡ old ++ x1 = first old t1 (codes "info depth ") (decimal (depth_of moves)) e1 in
    let s2 : t2 ≡ old ++ (x1 ++ costs) = on old t1 t2 x1 costs s1 e2 in
    ((x1 ++ costs) ++ codes "\n", (costs, are, refl), on old t2 new (x1 ++ costs) (codes "\n") s2 e3)

pub mate_of : (old t1 t2 t3 t4 t5 t6 new : List ℕ) (moves rank : ℕ) (pv : List Move) → t1 ≡ old ++ codes "info depth " ++ decimal (depth_of moves)
    → t2 ≡ t1 ++ codes " multipv " ++ decimal rank → t3 ≡ t2 ++ codes " score mate " ++ decimal moves
    → (told : List ℕ) × IsCosts told × (t4 ≡ t3 ++ told) → t5 ≡ t4 ++ codes " pv" → t6 ≡ t5 ++ moves_text pv → new ≡ t6 ++ codes "\n"
    → (line : List ℕ) × IsMateLine moves rank pv line × (new ≡ old ++ line)
unfolding IsMateLine
mate_of old t1 t2 t3 t4 t5 t6 new moves rank pv e1 e2 e3 (costs, are, e4) e5 e6 e7 =
    let x1 : List ℕ = codes "info depth " ++ decimal (depth_of moves) in
    let x2 : List ℕ = x1 ++ codes " multipv " ++ decimal rank in
    let x3 : List ℕ = x2 ++ codes " score mate " ++ decimal moves in
    let x4 : List ℕ = x3 ++ costs in
    let x5 : List ℕ = x4 ++ codes " pv" in
    let x6 : List ℕ = x5 ++ moves_text pv in
    let s1 : t1 ≡ old ++ x1 = first old t1 (codes "info depth ") (decimal (depth_of moves)) e1 in
    let s2 : t2 ≡ old ++ x2 = on_count old t1 t2 x1 (codes " multipv ") (decimal rank) s1 e2 in
    let s3 : t3 ≡ old ++ x3 = on_count old t2 t3 x2 (codes " score mate ") (decimal moves) s2 e3 in
    let s4 : t4 ≡ old ++ x4 = on old t3 t4 x3 costs s3 e4 in
    let s5 : t5 ≡ old ++ x5 = on old t4 t5 x4 (codes " pv") s4 e5 in
    let s6 : t6 ≡ old ++ x6 = on old t5 t6 x5 (moves_text pv) s5 e6 in
    (x6 ++ codes "\n", (costs, are, refl), on old t6 new x6 (codes "\n") s6 e7)

none_if : (is : Bool) (n : ℕ) → (n == 0) ≡ is → (n ≡ 0 → ⊥) → (if is then codes "info string not decided\n" else codes "info string no mate in " ++ decimal n ++ codes "\n")
    ≡ codes "info string no mate in " ++ decimal n ++ codes "\n"
none_if true n is some = absurd (some (eqb-true n 0 is))
none_if false n is some = refl

pub some_none : (n : ℕ) → (n ≡ 0 → ⊥) → none_text n ≡ codes "info string no mate in " ++ decimal n ++ codes "\n"
some_none n some = none_if (n == 0) n refl some
